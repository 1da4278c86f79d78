use Rattle.std.proofs.Common.{◌≡◌, map}
use Rattle.std.specs.Prelude.{find}
use Rattle.pt_members.specs.Rows.{member_of}
use Rattle.pt_edit.specs.SliceLabels.{is_slice, slice_numbered}
use Rattle.pt_edit.proofs.labels.parts.slice_of.Given as goal

abbrev pub invariant-loop-row : goal.invariant-loop-row
invariant-loop-row g l = record {
  can_next : (goal.iterator-loop-row g).can_next l.row-iterator;
  is_finite : (goal.iterator-loop-row g).is_finite l.row-iterator;
  left : find (is_slice l.number) (map member_of l.row-iterator) ≡ slice_numbered g.row.B l.body l.number;
}
