use Rattle.std.proofs.Common.{◌≡◌, ◌+◌, ◌++◌, drop}
use Rattle.pt_tables.specs.Entries.{entries_data}
use Rattle.pt_tables.specs.inner.Objects.{values_in}
use Rattle.pt_tables.proofs.entries.entries_value.Given as goal

abbrev pub invariant-loop-k : goal.invariant-loop-k
invariant-loop-k l = entries_data l.device l.labels 1 l.entries
    ≡ values_in l.list ++ entries_data l.device l.labels (l.k + 1) (drop l.k l.entries)
