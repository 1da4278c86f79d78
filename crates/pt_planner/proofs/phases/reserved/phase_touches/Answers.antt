use Rattle.std.proofs.Common.{arith}
use Rattle.pt_planner.specs.inner.Phases.{IsAnyReserved}
use Rattle.pt_planner.proofs.Touching.{yes, when, unless, write_touches, write_more}
use Rattle.pt_planner.proofs.phases.reserved.phase_touches.Goals as goal

pub returns-then-is_reserved : goal.returns-then-is_reserved
returns-then-is_reserved g c =
    yes _ (write_touches (IsAnyReserved g.row.B c.args.reserved.now) c.args.phase.now c.loop-write.write-index c.write-item.result
    (omega arith) c.write-item.is (when _ c.if-is_reserved.ensures))

pub loop-write-preserved : goal.loop-write-preserved
loop-write-preserved g c =
    write_more (IsAnyReserved g.row.B c.args.reserved.now) c.args.phase.now c.loop-write.write-index c.write-item.result
    (omega arith) c.write-item.is c.loop-write.invariant (unless _ c.if-is_reserved.ensures)
