use Rattle.std.proofs.Common.{◌≡◌, ◌+◌}
use Rattle.pt_members.specs.Members.{used_before}
use Rattle.pt_members.proofs.slots.logical_number.Given as goal

abbrev pub invariant-loop-i : goal.invariant-loop-i
invariant-loop-i l = l.number ≡ 5 + used_before l.i l.chain
