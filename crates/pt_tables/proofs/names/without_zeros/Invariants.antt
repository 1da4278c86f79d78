use Rattle.std.proofs.Common.{◌≡◌, ◌≤◌, length, take}
use Rattle.pt_tables.specs.Entries.{trimmed}
use Rattle.pt_tables.proofs.names.without_zeros.Given as goal

abbrev pub invariant-loop-count : goal.invariant-loop-count
invariant-loop-count l = record {
  within : l.count ≤ length l.units;
  rest : trimmed l.units ≡ trimmed (take l.count l.units);
}

abbrev pub decreases-loop-count : goal.decreases-loop-count
decreases-loop-count l = l.count
