use Rattle.std.proofs.Common.{◌≡◌, ◌++◌, ℕ}
use Rattle.pt_members.specs.Rows.{members_of}
use Rattle.pt_members.specs.Tables.{IsWithin}
use Rattle.pt_members.proofs.ByRows.{HasLeafAmong}
use Rattle.pt_members.proofs.owned.reach_of_members.Given as goal

abbrev pub invariant-loop-member : goal.invariant-loop-member
invariant-loop-member g l = record {
  can_next : (goal.iterator-loop-member g).can_next l.member-iterator;
  is_finite : (goal.iterator-loop-member g).is_finite l.member-iterator;
  left : l.yielded ++ l.member-iterator ≡ members_of g.row.B l.layout;
  within : (s : ℕ) → HasLeafAmong l.yielded s → IsWithin l.reach s;
}
