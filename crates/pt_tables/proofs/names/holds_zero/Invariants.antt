use Rattle.std.proofs.Common.{◌≡◌, drop}
use Rattle.pt_tables.specs.Entries.{has_zero}
use Rattle.pt_tables.proofs.names.holds_zero.Given as goal

abbrev pub invariant-loop-unit : goal.invariant-loop-unit
invariant-loop-unit l = has_zero l.units ≡ has_zero (drop l.unit-index l.units)
