use Rattle.std.proofs.Common.{◌∙◌, ap, Err}
use Rattle.std.proofs.lemmas.Result.{err_from_is_err_and}
use Rattle.pt_answers.specs.Data.{ReadsRuns}
use Rattle.pt_answers.specs.declared.failure.TextOf.TheVariants.{Data}
use Rattle.pt_answers.proofs.TextsRead.{text_failed, text_then}
use Rattle.pt_answers.proofs.jobs.adopt_with.Goals as goal

pub returns-in_err-runs : goal.returns-in_err-runs
returns-in_err-runs g c =
    let p = err_from_is_err_and c.from_residual.result c.from_residual.ensures.1 in
    text_failed ReadsRuns Data g.I.File.Read.remaining _ _ _ _ _ _ _ c.in_err-runs.was c.runs_at.ensures (p.1 ∙ ap (λ e. Err e) p.2)

pub returns : goal.returns
returns g c =
    text_then ReadsRuns Data g.I.File.Read.remaining _ _ _ _ _ _ _ _ c.in_ok-runs.was c.runs_at.ensures
    (rw (c.as_slice.ensures.value, c.as_other.ensures) at c.on_images.ensures)
