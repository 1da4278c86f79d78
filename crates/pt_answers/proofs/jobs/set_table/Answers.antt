use Rattle.std.proofs.Common.{◌∙◌, ap, Err}
use Rattle.std.proofs.lemmas.Result.{err_from_is_err_and}
use Rattle.pt_answers.specs.Sets.{ReadsDraft}
use Rattle.pt_answers.specs.declared.failure.TextOf.TheVariants.{Table}
use Rattle.pt_answers.proofs.TextsRead.{fresh_failed, fresh_then, text_failed, text_then}
use Rattle.pt_answers.proofs.jobs.set_table.Goals as goal

pub returns-in_err-guids : goal.returns-in_err-guids
returns-in_err-guids g c =
    let p = err_from_is_err_and c.from_residual.result c.from_residual.ensures.1 in
    fresh_failed _ _ _ c.in_err-guids.field-0.0 _ c.in_err-guids.ensures.err (p.1 ∙ ap (λ e. Err e) p.2)

pub returns-in_err-draft : goal.returns-in_err-draft
returns-in_err-draft g c =
    let p = err_from_is_err_and c.from_residual-in_err-draft.result c.from_residual-in_err-draft.ensures.1 in
    fresh_then _ _ _ _ c.in_ok-guids.guids.items _ c.in_ok-guids.ensures.ok
    (text_failed ReadsDraft Table g.I.File.Read.remaining _ _ _ _ _ _ _ c.in_err-draft.was c.draft_at.ensures (p.1 ∙ ap (λ e. Err e) p.2))

pub returns : goal.returns
returns g c =
    fresh_then _ _ _ _ c.in_ok-guids.guids.items _ c.in_ok-guids.ensures.ok
    (text_then ReadsDraft Table g.I.File.Read.remaining _ _ _ _ _ _ _ _ c.in_ok-draft.was c.draft_at.ensures
    (rw c.as_slice.ensures.value at c.set_as.ensures))
