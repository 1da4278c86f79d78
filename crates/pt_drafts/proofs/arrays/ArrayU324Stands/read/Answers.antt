use Rattle.std.proofs.Common.{◌^◌, refl, replicate}
use Rattle.serde_json.specs.View.{view}
use Rattle.pt_drafts.specs.Values.{whole_below}
use Rattle.pt_drafts.proofs.Filling.{many_filled}
use Rattle.pt_drafts.proofs.arrays.ArrayU324Stands.read.Goals as goal

pub returns-then-fill : goal.returns-then-fill
returns-then-fill c =
    many_filled (whole_below (2 ^ 32)) view c.in_ok-values.values.now (view c.args.value.now) 4 (replicate 4 0) c.fill.new.all refl
    c.if-values-ne4.false c.in_ok-values.ensures c.if-fill.ensures
