use Rattle.std.proofs.lemmas.Result.{err_from_is_err_and}
use Rattle.std.proofs.Common.{string_bytes}
use Rattle.pt_answers.proofs.TextsRead.{no_draft, draft_of_text}
use Rattle.pt_answers.proofs.files.draft_in.Goals as goal

pub returns-in_err-text : goal.returns-in_err-text
returns-in_err-text g c =
    let p = err_from_is_err_and c.from_residual.result c.from_residual.ensures.1 in
    rw (p.1, p.2) (no_draft (g.T.Read.remaining c.args.file) _ c.in_err-text.ensures.reads)

pub returns : goal.returns
returns g c =
    draft_of_text (g.T.Read.remaining c.args.file) (string_bytes c.in_ok-text.text) c.draft_of.result c.in_ok-text.ensures.reads
    (rw c.as_str.ensures.value at c.draft_of.ensures)
