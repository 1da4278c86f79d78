use Rattle.std.proofs.lemmas.Result.{err_from_is_err_and}
use Rattle.std.proofs.Common.{◌≡◌, ◌∙◌, arith, rules}
use Rattle.pt_sector.specs.Device.{Blames}
use Rattle.pt_sector.specs.Overlays.{OnlyReads}
use Rattle.pt_apply.specs.Plans.{phases_of}
use Rattle.pt_layout.specs.Healthy.{VerdictReads}
use Rattle.pt_check.specs.Answers.{CheckReads}
use Rattle.pt_plan.specs.Commits.{commit_fault_in}
use Rattle.pt_plan.specs.Wanted.{PlanOfReads, WriteOfReads}
use Rattle.pt_plan.proofs.Reading.{commit_failed, commit_wider}
use Rattle.pt_plan.proofs.Wanting.{ready_of, not_safe_of, failed_of, verdict_of, planned_of, checked_of}
use Rattle.pt_plan.proofs.prepare.checked_plan_wanted.Goals as goal

pub plan_known-requires : goal.plan_known-requires
plan_known-requires g c = (
  omega arith,
  (
    c.requires.size,
    (
      c.in_ok-survey.ensures.tells,
      λ tells. rw (c.in_ok-survey.ensures.same.same tells) (c.in_ok-survey.ensures.ok tells),
    ),
  ),
)

pub checked-requires : goal.checked-requires
checked-requires g c = (
  omega arith,
  (
    c.requires.size,
    λ tells.
        rw (c.in_ok-plan.ensures.same.same tells, c.in_ok-survey.ensures.same.same tells) (c.in_ok-survey.ensures.ok tells),
  ),
)

pub returns-clause-same : goal.returns-clause-same
returns-clause-same g c =
    let same : OnlyReads g.D.Disk c.args.disk.now c.checked.new.disk.disk.now =
    rw c.new-cache.ensures.disk at
    (g.met.D.Disk.reads_on _ _ _ c.in_ok-survey.ensures.same.through
    (g.met.D.Disk.reads_on _ _ _ c.in_ok-plan.ensures.same.through c.in_ok-checked.ensures.same.through)) in
    search (rules, same)

pub returns-clause-blames : goal.returns-clause-blames
returns-clause-blames g c =
    let blames : g.D.Disk.faults c.checked.new.disk.disk.now ≡ g.D.Disk.faults c.args.disk.now =
    rw c.new-cache.ensures.disk at
    (c.in_ok-checked.ensures.blames ∙ c.in_ok-plan.ensures.blames ∙ c.in_ok-survey.ensures.blames) in
    search (rules, blames)

pub returns-clause-in_range : goal.returns-clause-in_range
returns-clause-in_range g c =
    rw (c.in_ok-survey.ensures.same.same_count, c.new-cache.ensures.disk) at c.in_ok-plan.ensures.in_range

pub returns-clause-ready : goal.returns-clause-ready
returns-clause-ready g c = λ tells.
    ready_of c.args.primary g.row.B (g.D.Disk.count c.args.disk.now) c.args.wanted.now (g.D.Disk.told c.args.disk.now).seen
    (phases_of c.in_ok-plan.plan) c.requires.size
    (rw (c.in_ok-survey.ensures.same.same_count, c.in_ok-survey.ensures.same.same tells, c.new-cache.ensures.disk)
    at (c.in_ok-plan.ensures.planned tells))
    (rw (c.in_ok-plan.ensures.same.same tells, c.in_ok-survey.ensures.same.same tells, c.new-cache.ensures.disk)
    at (c.in_ok-checked.ensures.ok tells))

pub returns-in_err-survey-clause-place : goal.returns-in_err-survey-clause-place
returns-in_err-survey-clause-place g c = λ tells.
    let p = err_from_is_err_and c.from_residual-in_err-survey.result c.from_residual-in_err-survey.ensures.1 in
    let d = (g.D.Disk.told c.args.disk.now).seen in
    let n = g.D.Disk.count c.args.disk.now in
    rw (p.1, p.2) (commit_failed (VerdictReads g.row.B d)
    (WriteOfReads c.args.primary g.row.B n c.args.wanted.now d) c.in_err-survey.field-0.0
    (λ s reads. planned_of c.args.primary g.row.B n c.args.wanted.now d s (verdict_of c.args.primary g.row.B n c.args.wanted.now d s reads))
    (rw c.new-cache.ensures.disk at (c.in_err-survey.ensures.place tells)))

pub returns-in_err-survey-clause-refused : goal.returns-in_err-survey-clause-refused
returns-in_err-survey-clause-refused g c = λ tells.
    let p = err_from_is_err_and c.from_residual-in_err-survey.result c.from_residual-in_err-survey.ensures.1 in
    rw (p.1, p.2) (failed_of c.args.primary g.row.B (g.D.Disk.count c.args.disk.now) c.args.wanted.now (g.D.Disk.told c.args.disk.now).seen
    c.in_err-survey.field-0.0)

pub returns-in_err-plan-clause-same : goal.returns-in_err-plan-clause-same
returns-in_err-plan-clause-same g c =
    let same : OnlyReads g.D.Disk c.args.disk.now c.plan_known.new.disk.disk.now =
    rw c.new-cache.ensures.disk at
    (g.met.D.Disk.reads_on _ _ _ c.in_ok-survey.ensures.same.through c.in_err-plan.ensures.same.through) in
    search (rules, same)

pub returns-in_err-plan-clause-blames : goal.returns-in_err-plan-clause-blames
returns-in_err-plan-clause-blames g c =
    let p = err_from_is_err_and c.from_residual-in_err-plan.result c.from_residual-in_err-plan.ensures.1 in
    let blames : Blames commit_fault_in c.from_residual-in_err-plan.result (g.D.Disk.faults c.args.disk.now)
    (g.D.Disk.faults c.plan_known.new.disk.disk.now) =
    rw (p.1, p.2) (rw (c.in_ok-survey.ensures.blames, c.new-cache.ensures.disk) at c.in_err-plan.ensures.blames) in
    search (rules, blames)

pub returns-in_err-plan-clause-place : goal.returns-in_err-plan-clause-place
returns-in_err-plan-clause-place g c = λ tells.
    let p = err_from_is_err_and c.from_residual-in_err-plan.result c.from_residual-in_err-plan.ensures.1 in
    let d = (g.D.Disk.told c.args.disk.now).seen in
    let n = g.D.Disk.count c.args.disk.now in
    rw (p.1, p.2) (commit_wider (PlanOfReads c.args.primary g.row.B n c.args.wanted.now d)
    (WriteOfReads c.args.primary g.row.B n c.args.wanted.now d)
    c.in_err-plan.field-0.0 (planned_of c.args.primary g.row.B n c.args.wanted.now d)
    (rw (c.in_ok-survey.ensures.same.same_count, c.in_ok-survey.ensures.same.same tells, c.new-cache.ensures.disk)
    at (c.in_err-plan.ensures.place tells)))

pub returns-in_err-plan-clause-refused : goal.returns-in_err-plan-clause-refused
returns-in_err-plan-clause-refused g c = λ tells.
    let p = err_from_is_err_and c.from_residual-in_err-plan.result c.from_residual-in_err-plan.ensures.1 in
    rw (p.1, p.2) (rw (c.in_ok-survey.ensures.same.same_count, c.in_ok-survey.ensures.same.same tells, c.new-cache.ensures.disk)
    at (c.in_err-plan.ensures.refused tells))

pub returns-in_err-checked-clause-same : goal.returns-in_err-checked-clause-same
returns-in_err-checked-clause-same g c =
    let same : OnlyReads g.D.Disk c.args.disk.now c.checked.new.disk.disk.now =
    rw c.new-cache.ensures.disk at
    (g.met.D.Disk.reads_on _ _ _ c.in_ok-survey.ensures.same.through
    (g.met.D.Disk.reads_on _ _ _ c.in_ok-plan.ensures.same.through c.in_err-checked.ensures.same.through)) in
    search (rules, same)

pub returns-in_err-checked-clause-blames : goal.returns-in_err-checked-clause-blames
returns-in_err-checked-clause-blames g c =
    let p = err_from_is_err_and c.from_residual-in_err-checked.result c.from_residual-in_err-checked.ensures.1 in
    let blames : Blames commit_fault_in c.from_residual-in_err-checked.result (g.D.Disk.faults c.args.disk.now)
    (g.D.Disk.faults c.checked.new.disk.disk.now) =
    rw (p.1, p.2) (rw (c.in_ok-plan.ensures.blames, c.in_ok-survey.ensures.blames, c.new-cache.ensures.disk)
    at c.in_err-checked.ensures.blames) in
    search (rules, blames)

pub returns-in_err-checked-clause-place : goal.returns-in_err-checked-clause-place
returns-in_err-checked-clause-place g c = λ tells.
    let p = err_from_is_err_and c.from_residual-in_err-checked.result c.from_residual-in_err-checked.ensures.1 in
    let d = (g.D.Disk.told c.args.disk.now).seen in
    let n = g.D.Disk.count c.args.disk.now in
    rw (p.1, p.2) (commit_wider (CheckReads g.row.B d (phases_of c.in_ok-plan.plan))
    (WriteOfReads c.args.primary g.row.B n c.args.wanted.now d)
    c.in_err-checked.field-0.0
    (checked_of c.args.primary g.row.B n c.args.wanted.now d (phases_of c.in_ok-plan.plan)
    (rw (c.in_ok-survey.ensures.same.same_count, c.in_ok-survey.ensures.same.same tells, c.new-cache.ensures.disk)
    at (c.in_ok-plan.ensures.planned tells)))
    (rw (c.in_ok-plan.ensures.same.same tells, c.in_ok-survey.ensures.same.same tells, c.new-cache.ensures.disk)
    at (c.in_err-checked.ensures.place tells)))

pub returns-in_err-checked-clause-refused : goal.returns-in_err-checked-clause-refused
returns-in_err-checked-clause-refused g c = λ tells.
    let p = err_from_is_err_and c.from_residual-in_err-checked.result c.from_residual-in_err-checked.ensures.1 in
    rw (p.1, p.2) (not_safe_of c.args.primary g.row.B (g.D.Disk.count c.args.disk.now) c.args.wanted.now
    (g.D.Disk.told c.args.disk.now).seen
    (phases_of c.in_ok-plan.plan) c.requires.size
    (rw (c.in_ok-survey.ensures.same.same_count, c.in_ok-survey.ensures.same.same tells, c.new-cache.ensures.disk)
    at (c.in_ok-plan.ensures.planned tells))
    c.in_err-checked.field-0.0
    (rw (c.in_ok-plan.ensures.same.same tells, c.in_ok-survey.ensures.same.same tells, c.new-cache.ensures.disk)
    at (c.in_err-checked.ensures.err tells)))
