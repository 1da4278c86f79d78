use Rattle.std.proofs.Common.{take}
use Rattle.pt_apply.specs.Plans.{writes_in}
use Rattle.pt_apply.specs.inner.Plans.{phases_in}
use Rattle.pt_planner.specs.inner.Phases.{Touches, IsAnyReserved}
use Rattle.pt_planner.proofs.phases.reserved.touches.Given as goal

abbrev pub invariant-loop-phase : goal.invariant-loop-phase
invariant-loop-phase g l = ¬ Touches (IsAnyReserved g.row.B l.reserved) (writes_in (phases_in (take l.phase-index l.phases)))
