use Rattle.std.proofs.Common.{List}
use Rattle.std.specs.Prelude.{flat_map}
use Rattle.pt_edit.specs.declared.free.FreeBlock.{FreeBlock}
use Rattle.pt_edit.specs.Free.{slice_place, slice_places}
use Rattle.pt_edit.specs.inner.Free.{Adds}
use Rattle.pt_edit.proofs.free.push_slices.Given as goal

-- what adds the places of the slices to come adds all
abbrev pub invariant-loop-row : goal.invariant-loop-row
invariant-loop-row g l = record {
  can_next : (goal.iterator-loop-row g).can_next l.row-iterator;
  is_finite : (goal.iterator-loop-row g).is_finite l.row-iterator;
  left : (all : List FreeBlock) → Adds (flat_map (λ row. slice_place l.layout.labels row.member) l.row-iterator) l.list.items all
      → Adds (slice_places g.row.B l.layout) l.fn.list.items all;
}
