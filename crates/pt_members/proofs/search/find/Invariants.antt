use Rattle.std.proofs.Common.{◌≡◌, ◌++◌}
use Rattle.std.specs.Prelude.{Contains}
use Rattle.pt_members.specs.declared.member.Member.{Member}
use Rattle.pt_members.specs.inner.Tables.{IsAsWanted}
use Rattle.pt_members.specs.Rows.{members_of}
use Rattle.pt_members.proofs.search.find.Given as goal

abbrev pub invariant-loop-member : goal.invariant-loop-member
invariant-loop-member g l = record {
  can_next : (goal.iterator-loop-member g).can_next l.member-iterator;
  is_finite : (goal.iterator-loop-member g).is_finite l.member-iterator;
  left : l.yielded ++ l.member-iterator ≡ members_of g.row.B l.layout;
  none : (x : Member) → Contains l.yielded x → ¬ IsAsWanted l.wanted x;
}
