use Rattle.std.proofs.Common.{◌∙◌, ap, Err}
use Rattle.std.proofs.lemmas.Result.{err_from_is_err_and}
use Rattle.pt_answers.proofs.ReadSoFar.{plan_failed, plan_then}
use Rattle.pt_answers.proofs.jobs.shown.Goals as goal

pub returns-in_err-plan-in-Some-after : goal.returns-in_err-plan-in-Some-after
returns-in_err-plan-in-Some-after g c =
    let p = err_from_is_err_and c.from_residual-in_err-plan-in-Some-after.result
    c.from_residual-in_err-plan-in-Some-after.ensures.1 in
    rw (c.in-None.is, c.in-Some-after.is) (plan_failed _ _ _ _ _ _ _ _ _ c.in_err-plan-in-Some-after.was
    (rw (c.as_str-in-Some-after.ensures.value) at c.plan_at.ensures) (p.1 ∙ ap (λ e. Err e) p.2))

pub returns-in_ok-plan-in-Some-after : goal.returns-in_ok-plan-in-Some-after
returns-in_ok-plan-in-Some-after g c =
    rw (c.in-None.is, c.in-Some-after.is) (plan_then _ _ _ _ _ _ _ _ _ _ c.in_ok-plan-in-Some-after.was
    (rw (c.as_str-in-Some-after.ensures.value) at c.plan_at.ensures) c.on_image-in-Some-after.ensures)
