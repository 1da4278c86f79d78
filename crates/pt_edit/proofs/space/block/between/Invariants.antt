use Rattle.pt_edit.specs.Space.{area_of}
use Rattle.pt_edit.proofs.AllBlocks.{Listed}
use Rattle.pt_edit.proofs.space.block.between.Given as goal

abbrev pub invariant-loop-run : goal.invariant-loop-run
invariant-loop-run l = Listed (area_of l.space) l.run-index l.first l.blocks.items
