use Rattle.std.proofs.Common.{◌≡◌, take}
use Rattle.std.specs.Prelude.{map}
use Rattle.pt_tables.specs.Free.{block_data}
use Rattle.pt_tables.specs.inner.Objects.{values_in}
use Rattle.pt_tables.proofs.free.list_value.Given as goal

abbrev pub invariant-loop-block : goal.invariant-loop-block
invariant-loop-block l = values_in l.list ≡ map block_data (take l.block-index l.blocks)
