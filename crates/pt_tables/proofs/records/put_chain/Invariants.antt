use Rattle.std.proofs.Common.{◌≡◌, take}
use Rattle.std.specs.Prelude.{map}
use Rattle.pt_tables.specs.Fields.{num}
use Rattle.pt_tables.specs.inner.Objects.{values_in}
use Rattle.pt_tables.proofs.records.put_chain.Given as goal

abbrev pub invariant-loop-ebr : goal.invariant-loop-ebr
invariant-loop-ebr l = values_in l.sectors ≡ map (λ e. num e.at.0) (take l.ebr-index l.chain)
