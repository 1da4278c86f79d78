use Rattle.std.proofs.lemmas.Result.{err_from_is_err_and}
use Rattle.pt_plan.proofs.Starting.{unplanned_fault, unplanned_hides, unplanned_told}
use Rattle.pt_planner.specs.PlanReads.{PlanReadsBy}
use Rattle.pt_plan.proofs.Reading.{commit_plan_failed}
use Rattle.pt_plan.proofs.prepare.planned.Goals as goal

pub returns-in_err-plan-clause-blames : goal.returns-in_err-plan-clause-blames
returns-in_err-plan-clause-blames g c =
    let p = err_from_is_err_and c.from_residual.result c.from_residual.ensures.1 in
    rw (p.1, p.2, unplanned_fault c.in_err-plan.field-0.0) c.in_err-plan.ensures.blames

pub returns-in_err-plan-clause-hides : goal.returns-in_err-plan-clause-hides
returns-in_err-plan-clause-hides g c =
    let p = err_from_is_err_and c.from_residual.result c.from_residual.ensures.1 in
    rw (p.1, p.2) (unplanned_hides c.in_err-plan.field-0.0)

pub returns-in_err-plan-clause-err : goal.returns-in_err-plan-clause-err
returns-in_err-plan-clause-err g c = λ tells.
    let p = err_from_is_err_and c.from_residual.result c.from_residual.ensures.1 in
    rw (p.1, p.2) (unplanned_told _ _ _ _ c.in_err-plan.field-0.0 (c.in_err-plan.ensures.err tells))

pub returns-in_err-plan-clause-place : goal.returns-in_err-plan-clause-place
returns-in_err-plan-clause-place g c = λ tells.
    let p = err_from_is_err_and c.from_residual.result c.from_residual.ensures.1 in
    rw (p.1, p.2) (commit_plan_failed
    (PlanReadsBy c.args.primary g.row.B (g.D.Disk.count c.args.disk.now) c.args.wanted.now) c.in_err-plan.field-0.0
    (c.in_err-plan.ensures.place tells))
