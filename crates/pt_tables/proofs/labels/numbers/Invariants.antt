use Rattle.std.proofs.Common.{◌≡◌, take}
use Rattle.std.specs.Prelude.{map}
use Rattle.pt_tables.specs.Fields.{num}
use Rattle.pt_tables.specs.inner.Objects.{values_in}
use Rattle.pt_tables.proofs.labels.numbers.Given as goal

abbrev pub invariant-loop-number : goal.invariant-loop-number
invariant-loop-number l = values_in l.numbers ≡ map num (take l.number-index l.list)
