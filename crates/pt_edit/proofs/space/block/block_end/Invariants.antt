use Rattle.pt_edit.specs.Space.{area_of}
use Rattle.pt_edit.proofs.BlockEnds.{EndsAfter}
use Rattle.pt_edit.proofs.space.block.block_end.Given as goal

abbrev pub invariant-loop-run : goal.invariant-loop-run
invariant-loop-run l = EndsAfter (area_of l.space) l.run-index l.first l.last
