use Rattle.std.proofs.Common.{◌^◌}
use Rattle.serde_json.specs.View.{view}
use Rattle.pt_drafts.specs.Values.{whole_below}
use Rattle.pt_drafts.proofs.Filling.{few_filled}
use Rattle.pt_drafts.proofs.names.NameUnitsStands.read.Goals as goal

pub returns-then-fill : goal.returns-then-fill
returns-then-fill c =
    few_filled (whole_below (2 ^ 16)) view c.in_ok-values.values.now (view c.args.value.now) c.fill.new.all
    c.if-values-gt-NAME_UNITS.false c.in_ok-values.ensures c.if-fill.ensures
