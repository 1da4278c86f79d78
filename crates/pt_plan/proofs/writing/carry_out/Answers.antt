use Rattle.std.proofs.Common.{arith}
use Rattle.std.proofs.lemmas.Result.{err_from_is_err_and}
use Rattle.pt_apply.specs.Plans.{phases_of}
use Rattle.pt_plan.specs.Commits.{commit_fault_in}
use Rattle.pt_plan.specs.Wanted.{WriteOfReads}
use Rattle.pt_plan.proofs.Applying.{settled}
use Rattle.pt_plan.proofs.Exits.{met_read}
use Rattle.pt_plan.proofs.Reading.{by_flush, by_call}
use Rattle.pt_plan.proofs.Outcomes.{came_unflushed, came_unplanned, came_unapplied, came_applied}
use Rattle.pt_plan.proofs.writing.carry_out.Goals as goal

pub returns-in_err-flush-clause-written : goal.returns-in_err-flush-clause-written
returns-in_err-flush-clause-written g c = λ tells.
    let p = err_from_is_err_and c.from_residual.result c.from_residual.ensures.1 in
    rw (p.1, p.2) (came_unflushed _ _ c.in_err-flush.field-0.0 _ _ c.in_err-flush.ensures.fault (c.in_err-flush.ensures.failed tells))

pub returns-in_err-plan-clause-written : goal.returns-in_err-plan-clause-written
returns-in_err-plan-clause-written g c = λ tells.
    let p = err_from_is_err_and c.from_residual-in_err-plan.result c.from_residual-in_err-plan.ensures.1 in
    rw (p.1, p.2) (came_unplanned _ _ _ _ _ (c.in_ok-flush.ensures.done tells) (c.in_err-plan.ensures.same.same tells)
    c.in_err-plan.field-0.0
    (met_read (commit_fault_in c.in_err-plan.field-0.0) _ _ c.in_err-plan.ensures.blames c.in_err-plan.ensures.same.came)
    (rw c.flush.ensures.count at (c.in_err-plan.ensures.refused tells)))

pub returns-clause-written : goal.returns-clause-written
returns-clause-written g c = λ tells.
    came_applied _ _ _ _ _ (c.in_ok-flush.ensures.done tells) (c.in_ok-plan.ensures.same.same tells) _ _
    (rw c.flush.ensures.count at (c.in_ok-plan.ensures.ready tells)) (c.apply.ensures.any_moment tells)
    (c.in_ok-apply.ensures.done tells) (c.in_ok-apply.ensures.passed tells)

pub returns-in_err-apply-clause-written : goal.returns-in_err-apply-clause-written
returns-in_err-apply-clause-written g c = λ tells.
    let p = err_from_is_err_and c.from_residual-in_err-apply.result c.from_residual-in_err-apply.ensures.1 in
    rw (p.1, p.2) (came_unapplied _ _ _ _ _ (c.in_ok-flush.ensures.done tells) (c.in_ok-plan.ensures.same.same tells) _ _
    (rw c.flush.ensures.count at (c.in_ok-plan.ensures.ready tells)) (c.apply.ensures.any_moment tells) c.in_err-apply.field-0.0
    (c.in_err-apply.ensures.failed tells))

pub apply-requires : goal.apply-requires
apply-requires g c = (
  omega arith,
  (
    c.requires.size,
    (
      rw c.in_ok-plan.ensures.same.same_count c.in_ok-plan.ensures.in_range,
      λ tells. settled _ _ _ (c.in_ok-flush.ensures.done tells) (c.in_ok-plan.ensures.same.same tells),
    ),
  ),
)

pub returns-in_err-flush-clause-place : goal.returns-in_err-flush-clause-place
returns-in_err-flush-clause-place g c = λ tells.
    let p = err_from_is_err_and c.from_residual.result c.from_residual.ensures.1 in
    rw (p.1, p.2) (by_flush (WriteOfReads c.args.primary g.row.B (g.D.Disk.count c.args.disk.now) c.args.wanted.now
    (g.D.Disk.told c.args.disk.now).seen)
    c.in_err-flush.field-0.0 c.in_err-flush.ensures.fault)

pub returns-in_err-plan-clause-place : goal.returns-in_err-plan-clause-place
returns-in_err-plan-clause-place g c = λ tells.
    let p = err_from_is_err_and c.from_residual-in_err-plan.result c.from_residual-in_err-plan.ensures.1 in
    rw (p.1, p.2) (rw (c.flush.ensures.count, (c.in_ok-flush.ensures.done tells).seen) at (c.in_err-plan.ensures.place tells))

pub returns-in_err-apply-clause-place : goal.returns-in_err-apply-clause-place
returns-in_err-apply-clause-place g c = λ tells.
    let p = err_from_is_err_and c.from_residual-in_err-apply.result c.from_residual-in_err-apply.ensures.1 in
    rw (p.1, p.2) (by_call (WriteOfReads c.args.primary g.row.B (g.D.Disk.count c.args.disk.now) c.args.wanted.now
    (g.D.Disk.told c.args.disk.now).seen)
    (phases_of c.in_ok-plan.plan) c.in_err-apply.field-0.0 c.in_err-apply.ensures.fault)
