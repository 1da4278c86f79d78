use Rattle.std.proofs.Common.{◌∙◌, ap, refl, Ok, Err}
use Rattle.std.proofs.lemmas.Result.{err_from_is_err_and}
use Rattle.pt_answers.proofs.Texts.{kept}
use Rattle.pt_answers.proofs.command.run.Goals as goal

pub returns-in_err-size-clause-runs : goal.returns-in_err-size-clause-runs
returns-in_err-size-clause-runs g c =
    let p = err_from_is_err_and c.from_residual-in_err-size.result c.from_residual-in_err-size.ensures.1 in (
      Ok c.in_ok-line.line,
      rw (c.in_ok-line.was) at c.read_line.ensures.means,
      (
        g.I.Images.past c.size_of.new.images,
        Err c.in_err-size.field-0.0,
        rw (c.in_err-size.was, c.image_in.ensures) at c.size_of.ensures,
        (refl, refl, kept _, p.1 ∙ ap (λ e. Err e) p.2),
      ),
    )

pub returns-in_err-line-clause-runs : goal.returns-in_err-line-clause-runs
returns-in_err-line-clause-runs g c =
    let p = err_from_is_err_and c.from_residual.result c.from_residual.ensures.1 in (
      Err c.in_err-line.field-0.0,
      rw (c.in_err-line.was) at c.read_line.ensures.means,
      (refl, refl, kept _, p.1 ∙ ap (λ e. Err e) p.2),
    )
