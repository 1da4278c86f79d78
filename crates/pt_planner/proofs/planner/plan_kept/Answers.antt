use Rattle.std.proofs.Common.{◌∙◌, inl, sym}
use Rattle.std.proofs.lemmas.Result.{err_from_is_err_and}
use Rattle.pt_cases.specs.NewMbr.{failed, as_ever}
use Rattle.pt_planner.specs.PlanReads.{PlanReads}
use Rattle.pt_planner.proofs.Failing.{plan_wider}
use Rattle.pt_planner.proofs.Making.{err_so, ok_so}
use Rattle.pt_planner.proofs.NewMbr.{none_first}
use Rattle.pt_planner.proofs.Touching.{unless}
use Rattle.pt_planner.proofs.planner.plan_kept.Goals as goal

pub returns-in_err-plan-clause-place : goal.returns-in_err-plan-clause-place
returns-in_err-plan-clause-place g c = λ tells.
    let p = err_from_is_err_and c.from_residual.result c.from_residual.ensures.1 in
    rw (p.1, p.2) (plan_wider (PlanReads g.row.B (g.D.Disk.count c.args.disk.now) c.args.wanted.now) _ c.in_err-plan.field-0.0
    (λ s reads. inl reads) c.in_err-plan.ensures.place)

pub returns-clause-place : goal.returns-clause-place
returns-clause-place g c = λ tells. err_so c.keep_primary.result _ _
    (λ e each. each c.args.wanted.now (c.in_ok-plan.ensures.plan tells))
    (rw (c.in_ok-plan.ensures.same.same tells, c.in_ok-plan.ensures.same.same_count) at (c.keep_primary.ensures.place tells))

pub returns-clause-plan : goal.returns-clause-plan
returns-clause-plan g c = λ tells. ok_so c.keep_primary.result _ _
    (λ kept each. inl (each c.args.wanted.now (c.in_ok-plan.ensures.plan tells)))
    (rw (c.in_ok-plan.ensures.same.same tells) at (c.keep_primary.ensures.kept tells))

pub returns-clause-err : goal.returns-clause-err
returns-clause-err g c = λ tells. err_so c.keep_primary.result _ _ (λ e is. failed is) c.keep_primary.ensures.failed

pub returns-in_err-plan-clause-err : goal.returns-in_err-plan-clause-err
returns-in_err-plan-clause-err g c = λ tells.
    let p = err_from_is_err_and c.from_residual.result c.from_residual.ensures.1 in
    rw (p.1, p.2) (as_ever (none_first g.row.B c.sectors.result (g.D.Disk.told c.args.disk.now).seen c.args.survey.now c.args.wanted.now
    (c.requires.survey tells) (g.met.D.Disk.sized c.args.disk.now tells ∙ sym c.sectors.ensures) (unless _ c.if-is_first_mbr.ensures))
    (c.in_err-plan.ensures.err tells))
