use Rattle.std.proofs.Common.{◌≡◌, ◌+◌, map, drop}
use Rattle.serde_json.specs.View.{view}
use Rattle.pt_drafts.specs.Tables.{parts_from}
use Rattle.pt_drafts.proofs.PartLists.{with_rest}
use Rattle.pt_drafts.proofs.table.parts_of.Given as goal

abbrev pub invariant-loop-k : goal.invariant-loop-k
invariant-loop-k l = parts_from 1 (map view l.objects) ≡ with_rest l.parts.items (parts_from (l.k + 1) (map view (drop l.k l.objects)))
