use Rattle.std.proofs.Common.{◌≡◌, map, drop}
use Rattle.serde_json.specs.View.{view}
use Rattle.pt_drafts.specs.Values.{all_of, whole}
use Rattle.pt_drafts.proofs.Filling.{joined}
use Rattle.pt_drafts.proofs.arrays.each.Given as goal

abbrev pub invariant-loop-k : goal.invariant-loop-k
invariant-loop-k l = all_of whole (map view l.values) ≡ joined l.all.items (all_of whole (map view (drop l.k l.values)))
