use Rattle.std.proofs.Common.{arith, rules}
use Rattle.pt_sector.proofs.CallsLemmas.{blames_after}
use Rattle.pt_sector.specs.Device.{Blames}
use Rattle.pt_sector.specs.Overlays.{OnlyReads}
use Rattle.pt_plan.specs.Commits.{commit_fault_in}
use Rattle.std.proofs.lemmas.Result.{err_from_is_err_and}
use Rattle.pt_layout.specs.Healthy.{VerdictReads}
use Rattle.pt_plan.specs.Wanted.{PlanOfReads}
use Rattle.pt_plan.proofs.Reading.{commit_failed}
use Rattle.pt_plan.proofs.Wanting.{verdict_of, failed_of}
use Rattle.pt_plan.proofs.prepare.plan_wanted.Goals as goal

pub plan_known-requires : goal.plan_known-requires
plan_known-requires g c = (
  omega arith,
  (
    c.requires.size,
    (
      c.in_ok-survey.ensures.tells,
      λ tells. rw (c.in_ok-survey.ensures.same.same tells) (c.in_ok-survey.ensures.ok tells),
    ),
  ),
)

pub returns-clause-same : goal.returns-clause-same
returns-clause-same g c =
    let same : OnlyReads g.D.Disk c.args.disk.now c.plan_known.new.disk.disk.now =
    rw c.new-cache.ensures.disk at
    (g.met.D.Disk.reads_on _ _ _ c.in_ok-survey.ensures.same.through c.plan_known.ensures.same.through) in
    search (rules, same)

pub returns-clause-blames : goal.returns-clause-blames
returns-clause-blames g c =
    let blames : Blames commit_fault_in c.plan_known.result (g.D.Disk.faults c.args.disk.now)
    (g.D.Disk.faults c.plan_known.new.disk.disk.now) =
    rw c.new-cache.ensures.disk at
    (blames_after commit_fault_in c.plan_known.result _ _ _ c.in_ok-survey.ensures.blames c.plan_known.ensures.blames) in
    search (rules, blames)

pub returns-clause-in_range : goal.returns-clause-in_range
returns-clause-in_range g c =
    rw (c.in_ok-survey.ensures.same.same_count, c.new-cache.ensures.disk) at c.plan_known.ensures.in_range

pub returns-clause-planned : goal.returns-clause-planned
returns-clause-planned g c = λ tells.
    rw (c.in_ok-survey.ensures.same.same_count, c.in_ok-survey.ensures.same.same tells, c.new-cache.ensures.disk)
    at (c.plan_known.ensures.planned tells)

pub returns-clause-refused : goal.returns-clause-refused
returns-clause-refused g c = λ tells.
    rw (c.in_ok-survey.ensures.same.same_count, c.in_ok-survey.ensures.same.same tells, c.new-cache.ensures.disk)
    at (c.plan_known.ensures.refused tells)

pub returns-clause-place : goal.returns-clause-place
returns-clause-place g c = λ tells.
    rw (c.in_ok-survey.ensures.same.same_count, c.in_ok-survey.ensures.same.same tells, c.new-cache.ensures.disk)
    at (c.plan_known.ensures.place tells)

pub returns-in_err-survey-clause-place : goal.returns-in_err-survey-clause-place
returns-in_err-survey-clause-place g c = λ tells.
    let p = err_from_is_err_and c.from_residual-in_err-survey.result c.from_residual-in_err-survey.ensures.1 in
    let d = (g.D.Disk.told c.args.disk.now).seen in
    let n = g.D.Disk.count c.args.disk.now in
    rw (p.1, p.2) (commit_failed (VerdictReads g.row.B d)
    (PlanOfReads c.args.primary g.row.B n c.args.wanted.now d) c.in_err-survey.field-0.0
    (verdict_of c.args.primary g.row.B n c.args.wanted.now d) (rw c.new-cache.ensures.disk at (c.in_err-survey.ensures.place tells)))

pub returns-in_err-survey-clause-refused : goal.returns-in_err-survey-clause-refused
returns-in_err-survey-clause-refused g c = λ tells.
    let p = err_from_is_err_and c.from_residual-in_err-survey.result c.from_residual-in_err-survey.ensures.1 in
    rw (p.1, p.2) (failed_of c.args.primary g.row.B (g.D.Disk.count c.args.disk.now) c.args.wanted.now (g.D.Disk.told c.args.disk.now).seen
    c.in_err-survey.field-0.0)
