use Rattle.std.proofs.Common.{◌≡◌, ◌+◌, ◌≤◌, ◌++◌, drop}
use Rattle.pt_tables.specs.Records.{logicals_data}
use Rattle.pt_tables.specs.inner.Objects.{values_in}
use Rattle.pt_tables.proofs.records.push_logicals.Given as goal

abbrev pub invariant-loop-k : goal.invariant-loop-k
invariant-loop-k l = record {
  small : l.number ≤ l.k + 5;
  left : values_in l.initial.list ++ logicals_data l.device l.labels 5 l.chain
      ≡ values_in l.list ++ logicals_data l.device l.labels l.number (drop l.k l.chain);
}
