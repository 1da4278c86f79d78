use Rattle.std.proofs.Common.{take}
use Rattle.pt_apply.specs.Plans.{writes_of}
use Rattle.pt_planner.specs.inner.Phases.{Touches, IsAnyReserved}
use Rattle.pt_planner.proofs.phases.reserved.phase_touches.Given as goal

abbrev pub invariant-loop-write : goal.invariant-loop-write
invariant-loop-write g l = ¬ Touches (IsAnyReserved g.row.B l.reserved) (writes_of (take l.write-index l.phase))
