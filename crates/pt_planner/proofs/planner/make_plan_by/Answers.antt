use Rattle.std.proofs.Common.{ℕ, length, sym, subst, arith, inl, inr, rules}
use Rattle.std.specs.Prelude.{IfErr}
use Rattle.std.proofs.lemmas.Result.{err_from_is_err_and}
use Rattle.pt_sector.proofs.CallsLemmas.{blames_after}
use Rattle.pt_sector.specs.Device.{Blames}
use Rattle.pt_sector.specs.Overlays.{OnlyReads}
use Rattle.pt_cases.specs.Unplanned.{fault_in}
use Rattle.pt_layout.specs.Healthy.{VerdictReads}
use Rattle.pt_planner.specs.PlanReads.{FailedInPlan, PlanReadsBy, MakeReadsBy}
use Rattle.pt_planner.proofs.Failing.{failed_planned, plan_wider, failure_blames}
use Rattle.pt_planner.proofs.NewMbr.{failure_unplanned_by}
use Rattle.pt_planner.proofs.Making.{err_so}
use Rattle.pt_planner.proofs.planner.make_plan_by.Goals as goal

pub returns-in_err-room-clause-same : goal.returns-in_err-room-clause-same
returns-in_err-room-clause-same g c = g.met.D.Disk.reads_same c.args.disk.now

pub plan_by-requires : goal.plan_by-requires
plan_by-requires g c = (
  omega arith,
  (c.requires.size, λ tells. rw (c.in_ok-survey.ensures.same.same tells) (c.in_ok-survey.ensures.ok tells)),
)

pub returns-clause-same : goal.returns-clause-same
returns-clause-same g c =
    let same : OnlyReads g.D.Disk c.args.disk.now c.plan_by.new.disk.disk.now =
    rw c.new-cache.ensures.disk at
    (g.met.D.Disk.reads_on _ _ _ c.in_ok-survey.ensures.same.through c.plan_by.ensures.same.through) in
    search (rules, same)

pub returns-clause-blames : goal.returns-clause-blames
returns-clause-blames g c =
    let blames : Blames fault_in c.plan_by.result (g.D.Disk.faults c.args.disk.now)
    (g.D.Disk.faults c.plan_by.new.disk.disk.now) =
    rw c.new-cache.ensures.disk at
    (blames_after fault_in c.plan_by.result _ _ _ c.in_ok-survey.ensures.blames c.plan_by.ensures.blames) in
    search (rules, blames)

pub returns-clause-in_range : goal.returns-clause-in_range
returns-clause-in_range g c =
    rw (c.in_ok-survey.ensures.same.same_count, c.new-cache.ensures.disk) at c.plan_by.ensures.in_range

pub returns-clause-plan : goal.returns-clause-plan
returns-clause-plan g c = λ tells.
    rw (c.in_ok-survey.ensures.same.same tells, c.new-cache.ensures.disk) at (c.plan_by.ensures.plan tells)

pub returns-clause-err : goal.returns-clause-err
returns-clause-err g c = λ tells.
    rw (c.in_ok-survey.ensures.same.same tells, c.new-cache.ensures.disk) at (c.plan_by.ensures.err tells)

pub returns-clause-place : goal.returns-clause-place
returns-clause-place g c = λ tells.
    let d = (g.D.Disk.told c.args.disk.now).seen in
    err_so c.plan_by.result (FailedInPlan (PlanReadsBy c.args.primary g.row.B (length d) c.args.wanted.now)) _
    (λ e. plan_wider (PlanReadsBy c.args.primary g.row.B (length d) c.args.wanted.now)
    (MakeReadsBy c.args.primary g.row.B d c.args.wanted.now) e (λ s reads. inr reads))
    (subst (λ (m : ℕ). IfErr c.plan_by.result (FailedInPlan (PlanReadsBy c.args.primary g.row.B m c.args.wanted.now)))
    (sym (g.met.D.Disk.sized c.args.disk.now tells))
    (rw (c.in_ok-survey.ensures.same.same_count, c.new-cache.ensures.disk) at (c.plan_by.ensures.place tells)))

pub returns-in_err-survey-clause-same : goal.returns-in_err-survey-clause-same
returns-in_err-survey-clause-same g c =
    let same : OnlyReads g.D.Disk c.args.disk.now c.survey_disk.new.disk.disk.now =
    rw c.new-cache.ensures.disk at c.in_err-survey.ensures.same.through in
    search (rules, same)

pub returns-in_err-survey-clause-blames : goal.returns-in_err-survey-clause-blames
returns-in_err-survey-clause-blames g c =
    let p = err_from_is_err_and c.from_residual-in_err-survey.result c.from_residual-in_err-survey.ensures.1 in
    let blames : Blames fault_in c.from_residual-in_err-survey.result (g.D.Disk.faults c.args.disk.now)
    (g.D.Disk.faults c.survey_disk.new.disk.disk.now) =
    rw (p.1, p.2) (failure_blames _ _ c.in_err-survey.field-0.0 (rw c.new-cache.ensures.disk at c.in_err-survey.ensures.blames)) in
    search (rules, blames)

pub returns-in_err-survey-clause-place : goal.returns-in_err-survey-clause-place
returns-in_err-survey-clause-place g c = λ tells.
    let p = err_from_is_err_and c.from_residual-in_err-survey.result c.from_residual-in_err-survey.ensures.1 in
    rw (p.1, p.2) (failed_planned (VerdictReads g.row.B (g.D.Disk.told c.args.disk.now).seen) _ c.in_err-survey.field-0.0
    (λ s reads. inl reads) (rw c.new-cache.ensures.disk at (c.in_err-survey.ensures.place tells)))

pub returns-in_err-survey-clause-err : goal.returns-in_err-survey-clause-err
returns-in_err-survey-clause-err g c = λ tells.
    let p = err_from_is_err_and c.from_residual-in_err-survey.result c.from_residual-in_err-survey.ensures.1 in
    rw (p.1, p.2) (failure_unplanned_by c.args.primary g.row.B (g.D.Disk.told c.args.disk.now).seen c.args.wanted.now
    c.in_err-survey.field-0.0)
