use Rattle.pt_layout.specs.inner.Sound.{LeastIs, FaultOfGroup}
use Rattle.pt_layout.proofs.First.{Below}
use Rattle.pt_layout.proofs.sound.faults.first_fault.Given as goal

abbrev pub invariant-loop-j : goal.invariant-loop-j
invariant-loop-j g l = LeastIs (Below (FaultOfGroup g.row.B l.layout l.fault l.groups) l.j) l.first
