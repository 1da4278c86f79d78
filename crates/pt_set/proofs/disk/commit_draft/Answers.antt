use Rattle.std.proofs.Common.{Ok, Err, inr}
use Rattle.std.proofs.lemmas.Result.{err_from_is_err_and}
use Rattle.pt_set.proofs.Setting.{becomes_by}
use Rattle.pt_set.proofs.disk.commit_draft.Goals as goal

pub returns-clause-becomes : goal.returns-clause-becomes
returns-clause-becomes g c = λ tells. (
  c.in_ok-wanted.wanted,
  c.in_ok-wanted.ensures.ok tells,
  becomes_by c.args.primary g.row.B _ _ c.in_ok-wanted.wanted (Ok tt) _ _ _ c.in_ok-wanted.ensures.same.same_count
      (c.in_ok-wanted.ensures.same.same tells) (c.in_ok-commit_wanted.ensures.commits tells),
)

pub returns-in_err-commit_wanted-clause-becomes : goal.returns-in_err-commit_wanted-clause-becomes
returns-in_err-commit_wanted-clause-becomes g c = λ tells.
    let p = err_from_is_err_and c.from_residual-in_err-commit_wanted.result c.from_residual-in_err-commit_wanted.ensures.1 in
    rw (p.1, p.2) (inr (
      c.in_ok-wanted.wanted,
      c.in_ok-wanted.ensures.ok tells,
      becomes_by c.args.primary g.row.B _ _ c.in_ok-wanted.wanted (Err c.in_err-commit_wanted.field-0.0) _ _ _
          c.in_ok-wanted.ensures.same.same_count (c.in_ok-wanted.ensures.same.same tells) (c.in_err-commit_wanted.ensures.commits tells),
    ))
