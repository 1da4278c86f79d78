use Rattle.std.proofs.Common.{◌≡◌, ◌++◌}
use Rattle.std.specs.Prelude.{flat_map}
use Rattle.pt_members.specs.Members.{group_in, present, slots}
use Rattle.pt_layout.proofs.sound.groups.push_held.Given as goal

-- with the groups of what is left to come
abbrev pub invariant-loop-member : goal.invariant-loop-member
invariant-loop-member g l = record {
  can_next : (goal.iterator-loop-member g).can_next l.member-iterator;
  is_finite : (goal.iterator-loop-member g).is_finite l.member-iterator;
  held : l.groups.items ++ flat_map (group_in g.row.B l.layout) l.member-iterator
      ≡ l.fn.groups.items ++ flat_map (group_in g.row.B l.layout) (present (slots g.row.B l.layout.body));
}
