use Rattle.pt_layout.specs.inner.Sound.{LeastIs, FaultAtMember}
use Rattle.pt_layout.proofs.First.{Below}
use Rattle.pt_layout.proofs.sound.faults.fault_in.Given as goal

abbrev pub invariant-loop-i : goal.invariant-loop-i
invariant-loop-i g l = LeastIs (Below (FaultAtMember g.row.B l.layout l.fault l.group) l.i) l.first
