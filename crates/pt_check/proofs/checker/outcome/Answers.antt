use Rattle.std.proofs.Common.{rules, sym, subst}
use Rattle.std.proofs.lemmas.Result.{err_from_is_err_and}
use Rattle.pt_sector.proofs.CallsLemmas.{blames_after}
use Rattle.pt_sector.specs.Device.{Blames, Told}
use Rattle.pt_sector.specs.Overlays.{OnlyReads}
use Rattle.pt_apply.specs.Plans.{phases_of}
use Rattle.pt_check.specs.Answers.{fault_in}
use Rattle.pt_check.specs.inner.Answers.{IsKnown}
use Rattle.pt_check.proofs.Reading.{first_failed}
use Rattle.pt_check.proofs.checker.outcome.Goals as goal

pub returns-in_err-room-clause-same : goal.returns-in_err-room-clause-same
returns-in_err-room-clause-same g c = g.met.D.Disk.reads_same c.args.disk.now

pub outcome_known-requires : goal.outcome_known-requires
outcome_known-requires g c = (
  search rules,
  (
    c.requires.size,
    λ tells. subst (λ (t : Told). IsKnown g.row.B t.seen c.in_ok-old.old c.in_ok-old.trace) (sym (c.in_ok-old.ensures.same.same tells))
        (c.in_ok-old.ensures.known tells),
  ),
)

pub returns-clause-same : goal.returns-clause-same
returns-clause-same g c =
    let same : OnlyReads g.D.Disk c.args.disk.now c.outcome_known.new.disk.disk.now =
    rw c.new-cache.ensures.disk at
    (g.met.D.Disk.reads_on _ _ _ c.in_ok-old.ensures.same.through c.outcome_known.ensures.same.through) in
    search (rules, same)

pub returns-clause-blames : goal.returns-clause-blames
returns-clause-blames g c =
    let blames : Blames fault_in c.outcome_known.result (g.D.Disk.faults c.args.disk.now)
    (g.D.Disk.faults c.outcome_known.new.disk.disk.now) =
    rw c.new-cache.ensures.disk at
    (blames_after fault_in c.outcome_known.result _ _ _ c.in_ok-old.ensures.blames c.outcome_known.ensures.blames) in
    search (rules, blames)

pub returns-clause-in_range : goal.returns-clause-in_range
returns-clause-in_range g c =
    rw (c.in_ok-old.ensures.same.same_count, c.new-cache.ensures.disk) at c.outcome_known.ensures.in_range

pub returns-clause-outcome : goal.returns-clause-outcome
returns-clause-outcome g c = λ tells.
    rw (c.in_ok-old.ensures.same.same tells, c.new-cache.ensures.disk) at (c.outcome_known.ensures.outcome tells)

pub returns-clause-place : goal.returns-clause-place
returns-clause-place g c = λ tells.
    rw (c.in_ok-old.ensures.same.same tells, c.new-cache.ensures.disk) at (c.outcome_known.ensures.place tells)

pub returns-in_err-old-clause-same : goal.returns-in_err-old-clause-same
returns-in_err-old-clause-same g c =
    let same : OnlyReads g.D.Disk c.args.disk.now c.read_denoted.new.disk.disk.now =
    rw c.new-cache.ensures.disk at c.in_err-old.ensures.same.through in
    search (rules, same)

pub returns-in_err-old-clause-place : goal.returns-in_err-old-clause-place
returns-in_err-old-clause-place g c = λ tells.
    let p = err_from_is_err_and c.from_residual-in_err-old.result c.from_residual-in_err-old.ensures.1 in
    let d = (g.D.Disk.told c.args.disk.now).seen in
    rw (p.1, p.2) (first_failed g.row.B d (phases_of c.args.plan.now) c.in_err-old.field-0.0
    (rw c.new-cache.ensures.disk at (c.in_err-old.ensures.place tells)))
