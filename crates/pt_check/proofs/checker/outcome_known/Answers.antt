use Rattle.std.proofs.Common.{rules, sym, subst, Ok, Err}
use Rattle.std.specs.Prelude.{ℕ, Result, IfOk}
use Rattle.pt_sector.proofs.CallsLemmas.{blames_after}
use Rattle.pt_sector.specs.Device.{Told}
use Rattle.pt_apply.specs.Plans.{InRange, phases_of}
use Rattle.pt_apply.specs.declared.plan.Plan.{Plan}
use Rattle.pt_check.specs.Answers.{WritesFit, answer_of, fault_in, IsFit, boot}
use Rattle.pt_check.specs.inner.Answers.{IsKnown}
use Rattle.pt_check.specs.declared.answer.Outcome.{Outcome}
use Rattle.pt_check.specs.declared.answer.Outcome.TheVariants.{No, Yes}
use Rattle.pt_check.specs.declared.error.CheckError.{CheckError}
use Rattle.std.proofs.lemmas.Result.{err_from_is_err_and}
use Rattle.pt_check.proofs.checker.outcome_known.Goals as goal

fits : {b : _} (n : ℕ) (plan : Plan b) (r : Result Outcome CheckError) → InRange n plan → IfOk r (λ x. WritesFit n plan (answer_of x))
fits n plan (Ok (No why)) within = tt
fits n plan (Ok (Yes switch layout)) within = within
fits n plan (Err e) within = tt

pub returns-in_err-why-clause-same : goal.returns-in_err-why-clause-same
returns-in_err-why-clause-same g c = c.in_err-why.ensures.same

pub returns-in-Refused-clause-same : goal.returns-in-Refused-clause-same
returns-in-Refused-clause-same g c = c.in_ok-why.ensures.same

pub returns-in-Refused-clause-blames : goal.returns-in-Refused-clause-blames
returns-in-Refused-clause-blames g c = c.in_ok-why.ensures.blames

pub returns-in-Refused-clause-outcome : goal.returns-in-Refused-clause-outcome
returns-in-Refused-clause-outcome g c = λ tells.
    record { answers = rw c.in-Refused.is at (c.in_ok-why.ensures.judged tells); promises = tt; layout = λ o none. absurd cc }

pub check_phases-requires : goal.check_phases-requires
check_phases-requires g c =
    let ranges = rw c.in-Fit.is at c.in_ok-why.ensures.in_range in (
      search rules,
      (
        c.requires.size,
        (
          ranges.1,
          (
            ranges.0,
            (
              λ tells. subst (λ (t : Told). IsFit t.seen (phases_of c.args.plan.now)) (sym (c.in_ok-why.ensures.same.same tells))
                  (rw c.in-Fit.is at (c.in_ok-why.ensures.judged tells)),
              λ tells. subst (λ (t : Told). IsKnown g.row.B t.seen c.args.old c.args.trace) (sym (c.in_ok-why.ensures.same.same tells))
                  (c.requires.known tells),
            ),
          ),
        ),
      ),
    )

pub returns-in-Fit-clause-same : goal.returns-in-Fit-clause-same
returns-in-Fit-clause-same g c =
    g.met.D.Disk.reads_on c.args.disk.now c.judge_writes.new.disk c.check_phases.new.disk c.in_ok-why.ensures.same
    c.check_phases.ensures.same

pub returns-in-Fit-clause-blames : goal.returns-in-Fit-clause-blames
returns-in-Fit-clause-blames g c =
    blames_after fault_in c.check_phases.result _ _ _ c.in_ok-why.ensures.blames c.check_phases.ensures.blames

pub returns-in-Fit-clause-in_range : goal.returns-in-Fit-clause-in_range
returns-in-Fit-clause-in_range g c =
    let ranges = rw c.in-Fit.is at c.in_ok-why.ensures.in_range in
    fits _ c.args.plan.now c.check_phases.result ranges.2

pub returns-in-Fit-clause-outcome : goal.returns-in-Fit-clause-outcome
returns-in-Fit-clause-outcome g c = λ tells. rw (c.in_ok-why.ensures.same.same tells) at (c.check_phases.ensures.outcome tells)

pub returns-in_err-why-clause-place : goal.returns-in_err-why-clause-place
returns-in_err-why-clause-place g c = λ tells.
    let p = err_from_is_err_and c.from_residual.result c.from_residual.ensures.1 in
    rw (p.1, p.2) (boot c.in_err-why.ensures.place.0 c.in_err-why.ensures.place.1)

pub returns-in-Fit-clause-place : goal.returns-in-Fit-clause-place
returns-in-Fit-clause-place g c = λ tells. rw (c.in_ok-why.ensures.same.same tells) at (c.check_phases.ensures.place tells)
