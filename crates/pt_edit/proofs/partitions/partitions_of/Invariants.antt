use Rattle.std.proofs.Common.{◌≡◌, ◌++◌}
use Rattle.std.specs.Prelude.{flat_map}
use Rattle.pt_edit.specs.Entries.{kept_of, partitions}
use Rattle.pt_edit.proofs.partitions.partitions_of.Given as goal

abbrev pub invariant-loop-row : goal.invariant-loop-row
invariant-loop-row l = record {
  can_next : goal.iterator-loop-row.can_next l.row-iterator;
  is_finite : goal.iterator-loop-row.is_finite l.row-iterator;
  left : l.partitions.items ++ flat_map kept_of l.row-iterator ≡ partitions l.body;
}
