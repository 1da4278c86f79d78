use Rattle.std.proofs.Common.{◌≡◌, ◌+◌, drop, length}
use Rattle.std.specs.Prelude.{fold, zip}
use Rattle.pt_edit.specs.Converted.{entries_of, put_entry}
use Rattle.pt_edit.proofs.convert.entries_for.Given as goal

abbrev pub invariant-loop-k : goal.invariant-loop-k
invariant-loop-k l = record {
  left : fold put_entry l.entries.items (zip (drop (1 + l.k) l.guids) (drop l.k l.partitions)) ≡ entries_of (drop 1 l.guids) l.partitions;
  count : length l.entries.items ≡ 128;
}
