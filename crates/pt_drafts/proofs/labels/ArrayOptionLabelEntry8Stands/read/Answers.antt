use Rattle.std.proofs.Common.{refl, replicate, None}
use Rattle.serde_json.specs.View.{view}
use Rattle.pt_drafts.specs.Labels.{part_of}
use Rattle.pt_drafts.specs.Values.{if_not_null}
use Rattle.pt_drafts.proofs.Filling.{many_filled}
use Rattle.pt_drafts.proofs.labels.ArrayOptionLabelEntry8Stands.read.Goals as goal

pub returns-then-fill : goal.returns-then-fill
returns-then-fill c =
    many_filled (if_not_null part_of) view c.in_ok-values.values.now (view c.args.value.now) 8 (replicate 8 None) c.fill.new.all refl
    c.if-values-ne8.false c.in_ok-values.ensures c.if-fill.ensures
