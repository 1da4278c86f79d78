use Rattle.std.proofs.Common.{◌≡◌, take}
use Rattle.pt_members.specs.Members.{records_as}
use Rattle.pt_edit.specs.Space.{spanned_by}
use Rattle.pt_edit.proofs.space.taken.taken_by_records.Given as goal

abbrev pub invariant-loop-k : goal.invariant-loop-k
invariant-loop-k l = l.taken.items ≡ spanned_by (take l.k (records_as 512 1 l.records))
