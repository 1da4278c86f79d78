use Rattle.std.proofs.Common.{◌≡◌, ◌+◌, ◌++◌, drop}
use Rattle.pt_tables.specs.Records.{records_data}
use Rattle.pt_tables.specs.inner.Objects.{values_in}
use Rattle.pt_tables.proofs.records.push_records.Given as goal

abbrev pub invariant-loop-k : goal.invariant-loop-k
invariant-loop-k l = values_in l.initial.list ++ records_data l.device l.labels 1 l.records
    ≡ values_in l.list ++ records_data l.device l.labels (l.k + 1) (drop l.k l.records)
