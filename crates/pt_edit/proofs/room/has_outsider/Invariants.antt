use Rattle.std.proofs.Common.{◌≡◌, map}
use Rattle.std.specs.List.{list_any}
use Rattle.pt_members.specs.Rows.{member_of, members_of}
use Rattle.pt_edit.specs.Entries.{is_outsider}
use Rattle.pt_edit.proofs.room.has_outsider.Given as goal

abbrev pub invariant-loop-row : goal.invariant-loop-row
invariant-loop-row g l = record {
  can_next : (goal.iterator-loop-row g).can_next l.row-iterator;
  is_finite : (goal.iterator-loop-row g).is_finite l.row-iterator;
  left : list_any (is_outsider g.row.B l.layout.sectors) (map member_of l.row-iterator)
      ≡ list_any (is_outsider g.row.B l.layout.sectors) (members_of g.row.B l.layout);
}
