use Rattle.std.proofs.Common.{ℕ, length, sym, subst, arith, inl, inr, rules}
use Rattle.std.specs.Prelude.{IfErr}
use Rattle.std.proofs.lemmas.Result.{err_from_is_err_and}
use Rattle.pt_sector.proofs.CallsLemmas.{blames_after}
use Rattle.pt_sector.specs.Device.{Blames}
use Rattle.pt_sector.specs.Overlays.{OnlyReads}
use Rattle.pt_cases.specs.Unplanned.{fault_in}
use Rattle.pt_layout.specs.Healthy.{VerdictReads}
use Rattle.pt_planner.specs.PlanReads.{FailedInPlan, PlanReads, MakeReads}
use Rattle.pt_planner.proofs.Failing.{failed_planned, plan_wider, failure_blames, failure_unplanned}
use Rattle.pt_planner.proofs.Making.{err_so}
use Rattle.pt_planner.proofs.planner.make_plan.Goals as goal

pub returns-in_err-room-clause-same : goal.returns-in_err-room-clause-same
returns-in_err-room-clause-same g c = g.met.D.Disk.reads_same c.args.disk.now

pub plan_from-requires : goal.plan_from-requires
plan_from-requires g c = (
  omega arith,
  (c.requires.size, λ tells. rw (c.in_ok-survey.ensures.same.same tells) (c.in_ok-survey.ensures.ok tells)),
)

pub returns-clause-same : goal.returns-clause-same
returns-clause-same g c =
    let same : OnlyReads g.D.Disk c.args.disk.now c.plan_from.new.disk.disk.now =
    rw c.new-cache.ensures.disk at
    (g.met.D.Disk.reads_on _ _ _ c.in_ok-survey.ensures.same.through c.plan_from.ensures.same.through) in
    search (rules, same)

pub returns-clause-blames : goal.returns-clause-blames
returns-clause-blames g c =
    let blames : Blames fault_in c.plan_from.result (g.D.Disk.faults c.args.disk.now)
    (g.D.Disk.faults c.plan_from.new.disk.disk.now) =
    rw c.new-cache.ensures.disk at
    (blames_after fault_in c.plan_from.result _ _ _ c.in_ok-survey.ensures.blames c.plan_from.ensures.blames) in
    search (rules, blames)

pub returns-clause-in_range : goal.returns-clause-in_range
returns-clause-in_range g c =
    rw (c.in_ok-survey.ensures.same.same_count, c.new-cache.ensures.disk) at c.plan_from.ensures.in_range

pub returns-clause-plan : goal.returns-clause-plan
returns-clause-plan g c = λ tells.
    rw (c.in_ok-survey.ensures.same.same tells, c.new-cache.ensures.disk) at (c.plan_from.ensures.plan tells)

pub returns-clause-err : goal.returns-clause-err
returns-clause-err g c = λ tells.
    rw (c.in_ok-survey.ensures.same.same tells, c.new-cache.ensures.disk) at (c.plan_from.ensures.err tells)

pub returns-clause-place : goal.returns-clause-place
returns-clause-place g c = λ tells.
    let d = (g.D.Disk.told c.args.disk.now).seen in
    err_so c.plan_from.result (FailedInPlan (PlanReads g.row.B (length d) c.args.wanted.now)) _
    (λ e. plan_wider (PlanReads g.row.B (length d) c.args.wanted.now) (MakeReads g.row.B d c.args.wanted.now) e (λ s reads. inr reads))
    (subst (λ (m : ℕ). IfErr c.plan_from.result (FailedInPlan (PlanReads g.row.B m c.args.wanted.now)))
    (sym (g.met.D.Disk.sized c.args.disk.now tells))
    (rw (c.in_ok-survey.ensures.same.same_count, c.new-cache.ensures.disk) at c.plan_from.ensures.place))

pub returns-in_err-survey-clause-same : goal.returns-in_err-survey-clause-same
returns-in_err-survey-clause-same g c =
    let same : OnlyReads g.D.Disk c.args.disk.now c.survey_disk.new.disk.disk.now =
    rw c.new-cache.ensures.disk at c.in_err-survey.ensures.same.through in
    search (rules, same)

pub returns-in_err-survey-clause-blames : goal.returns-in_err-survey-clause-blames
returns-in_err-survey-clause-blames g c =
    let p = err_from_is_err_and c.from_residual-in_err-survey.result c.from_residual-in_err-survey.ensures.1 in
    let blames : Blames fault_in c.from_residual-in_err-survey.result (g.D.Disk.faults c.args.disk.now)
    (g.D.Disk.faults c.survey_disk.new.disk.disk.now) =
    rw (p.1, p.2) (failure_blames _ _ c.in_err-survey.field-0.0 (rw c.new-cache.ensures.disk at c.in_err-survey.ensures.blames)) in
    search (rules, blames)

pub returns-in_err-survey-clause-place : goal.returns-in_err-survey-clause-place
returns-in_err-survey-clause-place g c = λ tells.
    let p = err_from_is_err_and c.from_residual-in_err-survey.result c.from_residual-in_err-survey.ensures.1 in
    rw (p.1, p.2) (failed_planned (VerdictReads g.row.B (g.D.Disk.told c.args.disk.now).seen) _ c.in_err-survey.field-0.0
    (λ s reads. inl reads) (rw c.new-cache.ensures.disk at (c.in_err-survey.ensures.place tells)))

pub returns-in_err-survey-clause-err : goal.returns-in_err-survey-clause-err
returns-in_err-survey-clause-err g c = λ tells.
    let p = err_from_is_err_and c.from_residual-in_err-survey.result c.from_residual-in_err-survey.ensures.1 in
    rw (p.1, p.2) (failure_unplanned g.row.B (g.D.Disk.told c.args.disk.now).seen c.args.wanted.now c.in_err-survey.field-0.0)
