use Rattle.std.proofs.Common.{◌≡◌, take}
use Rattle.std.specs.Prelude.{map}
use Rattle.pt_tables.specs.Labels.{part_data}
use Rattle.pt_tables.specs.inner.Objects.{values_in}
use Rattle.pt_tables.proofs.labels.parts.Given as goal

abbrev pub invariant-loop-entry : goal.invariant-loop-entry
invariant-loop-entry l = values_in l.parts ≡ map part_data (take l.entry-index l.entries)
