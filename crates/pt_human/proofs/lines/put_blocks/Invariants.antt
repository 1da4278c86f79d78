use Rattle.std.proofs.Common.{◌≡◌, take}
use Rattle.std.specs.Prelude.{fold}
use Rattle.pt_human.specs.Lines.{with_block}
use Rattle.pt_human.proofs.lines.put_blocks.Given as goal

abbrev pub invariant-loop-block : goal.invariant-loop-block
invariant-loop-block l = l.lines.items ≡ fold (with_block l.rows) l.initial.lines.items (take l.block-index l.blocks)
