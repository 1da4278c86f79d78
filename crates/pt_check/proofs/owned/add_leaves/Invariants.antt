use Rattle.std.proofs.Common.{◌≡◌, ◌++◌}
use Rattle.pt_members.specs.Rows.{members_of}
use Rattle.pt_recover.specs.Spans.{Adds}
use Rattle.pt_members.proofs.ByRows.{HasLeafAmong}
use Rattle.pt_check.proofs.owned.add_leaves.Given as goal

abbrev pub invariant-loop-member : goal.invariant-loop-member
invariant-loop-member g l = record {
  can_next : (goal.iterator-loop-member g).can_next l.member-iterator;
  is_finite : (goal.iterator-loop-member g).is_finite l.member-iterator;
  left : l.yielded ++ l.member-iterator ≡ members_of g.row.B l.layout;
  adds : Adds l.initial.owned l.owned (HasLeafAmong l.yielded);
}
