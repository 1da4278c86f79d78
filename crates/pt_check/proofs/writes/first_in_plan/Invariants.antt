use Rattle.std.proofs.Common.{◌≡◌, length, take}
use Rattle.pt_apply.specs.Plans.{writes_in, NoneIs}
use Rattle.pt_apply.specs.inner.Plans.{phases_in}
use Rattle.pt_check.proofs.writes.first_in_plan.Given as goal

abbrev pub invariant-loop-phase : goal.invariant-loop-phase
invariant-loop-phase g l = record {
  count : l.before ≡ length (writes_in (take l.phase-index (phases_in l.phase-items)));
  nothing : NoneIs (g.T.Objection.against l.objection) (writes_in (take l.phase-index (phases_in l.phase-items)));
}
