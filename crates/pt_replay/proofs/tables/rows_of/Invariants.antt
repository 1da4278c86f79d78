use Rattle.std.proofs.Common.{◌≡◌, map, take}
use Rattle.pt_replay.specs.Tables.{free_row}
use Rattle.pt_replay.proofs.tables.rows_of.Given as goal

abbrev pub invariant-loop-block : goal.invariant-loop-block
invariant-loop-block l = l.rows.items ≡ map free_row (take l.block-index l.blocks)
