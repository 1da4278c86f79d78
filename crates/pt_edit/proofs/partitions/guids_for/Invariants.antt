use Rattle.std.proofs.Common.{◌≡◌, ◌+◌, length}
use Rattle.std.specs.Prelude.{flat_map}
use Rattle.pt_edit.specs.Converted.{guids_taken}
use Rattle.pt_edit.specs.Entries.{kept_of}
use Rattle.pt_edit.proofs.partitions.guids_for.Given as goal

abbrev pub invariant-loop-row : goal.invariant-loop-row
invariant-loop-row l = record {
  can_next : goal.iterator-loop-row.can_next l.row-iterator;
  is_finite : goal.iterator-loop-row.is_finite l.row-iterator;
  left : l.count + length (flat_map kept_of l.row-iterator) ≡ guids_taken l.layout;
}
