use Rattle.pt_edit.specs.Space.{area_of}
use Rattle.pt_edit.proofs.AllBlocks.{Swept}
use Rattle.pt_edit.proofs.space.block.sweep.Given as goal

abbrev pub invariant-loop-run : goal.invariant-loop-run
invariant-loop-run l = Swept (area_of l.space) l.alignment l.run-index l.first l.best
