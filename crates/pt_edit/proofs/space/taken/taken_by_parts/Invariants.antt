use Rattle.std.proofs.Common.{◌≡◌, take, Some}
use Rattle.pt_members.specs.Members.{parts_in}
use Rattle.pt_edit.specs.Space.{taken_by}
use Rattle.pt_edit.proofs.space.taken.taken_by_parts.Given as goal

abbrev pub invariant-loop-k : goal.invariant-loop-k
invariant-loop-k l = l.taken.items ≡ taken_by (take l.k (parts_in (Some l.label) l.slice))
