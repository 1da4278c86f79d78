use Rattle.std.proofs.lemmas.Result.{err_from_is_err_and}
use Rattle.pt_answers.proofs.ReadSoFar.{wanted_bad}
use Rattle.pt_answers.proofs.words.Wanted.read.Goals as goal

pub returns-in_err-edits : goal.returns-in_err-edits
returns-in_err-edits c =
    let p = err_from_is_err_and c.from_residual-in_err-edits.result c.from_residual-in_err-edits.ensures.1 in
    rw (p.1, p.2) (wanted_bad _ _ c.in_ok-guids.guids.items _ c.in_ok-guids.ensures.ok c.in_err-edits.ensures.err)
