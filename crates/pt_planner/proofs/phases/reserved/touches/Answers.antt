use Rattle.std.proofs.Common.{arith, List, subst}
use Rattle.pt_apply.specs.Plans.{writes_of}
use Rattle.pt_apply.specs.declared.plan.Write.{Write}
use Rattle.pt_planner.specs.inner.Phases.{Touches, IsAnyReserved}
use Rattle.pt_planner.proofs.Touching.{yes, when, unless, phase_touches, phase_more}
use Rattle.pt_planner.proofs.phases.reserved.touches.Goals as goal

pub returns-then-phase_touches : goal.returns-then-phase_touches
returns-then-phase_touches g c =
    yes _
    (phase_touches (IsAnyReserved g.row.B c.args.reserved.now) c.args.phases.now c.loop-phase.phase-index c.phase-item.result
    (omega arith) c.phase-item.is
    (subst (λ (ws : List (Write g.row.B)). Touches (IsAnyReserved g.row.B c.args.reserved.now) (writes_of ws)) c.deref.ensures.value
    (when _ c.if-phase_touches.ensures)))

pub loop-phase-preserved : goal.loop-phase-preserved
loop-phase-preserved g c =
    phase_more (IsAnyReserved g.row.B c.args.reserved.now) c.args.phases.now c.loop-phase.phase-index c.phase-item.result
    (omega arith) c.phase-item.is c.loop-phase.invariant
    (subst (λ (ws : List (Write g.row.B)). ¬ Touches (IsAnyReserved g.row.B c.args.reserved.now) (writes_of ws)) c.deref.ensures.value
    (unless _ c.if-phase_touches.ensures))
