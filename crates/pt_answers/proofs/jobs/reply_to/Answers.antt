use Rattle.std.proofs.Common.{◌∙◌, ap, Err}
use Rattle.std.proofs.lemmas.Result.{err_from_is_err_and}
use Rattle.pt_answers.proofs.ReadSoFar.{plan_failed, plan_then}
use Rattle.pt_answers.proofs.jobs.reply_to.Goals as goal

pub returns-in_err-plan-in-Check : goal.returns-in_err-plan-in-Check
returns-in_err-plan-in-Check g c =
    let p = err_from_is_err_and c.from_residual-in_err-plan-in-Check.result c.from_residual-in_err-plan-in-Check.ensures.1 in
    rw (c.in-Check.is) (plan_failed _ _ _ _ _ _ _ _ _ c.in_err-plan-in-Check.was (rw (c.as_str-in-Check.ensures.value) at
    c.plan_at.ensures) (p.1 ∙ ap (λ e. Err e) p.2))

pub returns-in_ok-plan-in-Check : goal.returns-in_ok-plan-in-Check
returns-in_ok-plan-in-Check g c =
    rw (c.in-Check.is) (plan_then _ _ _ _ _ _ _ _ _ _ c.in_ok-plan-in-Check.was (rw (c.as_str-in-Check.ensures.value) at
    c.plan_at.ensures)
    (rw (c.as_str-in-Check-2.ensures.value) at c.on_image-in-Check.ensures))

pub returns-in_err-plan-in-Apply : goal.returns-in_err-plan-in-Apply
returns-in_err-plan-in-Apply g c =
    let p = err_from_is_err_and c.from_residual-in_err-plan-in-Apply.result c.from_residual-in_err-plan-in-Apply.ensures.1 in
    rw (c.in-Apply.is) (plan_failed _ _ _ _ _ _ _ _ _ c.in_err-plan-in-Apply.was (rw (c.as_str-in-Apply.ensures.value) at
    c.plan_at-in-Apply.ensures) (p.1 ∙ ap (λ e. Err e) p.2))

pub returns-in_ok-plan-in-Apply : goal.returns-in_ok-plan-in-Apply
returns-in_ok-plan-in-Apply g c =
    rw (c.in-Apply.is) (plan_then _ _ _ _ _ _ _ _ _ _ c.in_ok-plan-in-Apply.was (rw (c.as_str-in-Apply.ensures.value) at
    c.plan_at-in-Apply.ensures)
    (rw (c.as_str-in-Apply-2.ensures.value) at c.on_image-in-Apply.ensures))
