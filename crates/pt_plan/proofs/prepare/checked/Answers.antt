use Rattle.std.proofs.Common.{subst}
use Rattle.pt_apply.specs.Plans.{phases_of}
use Rattle.pt_check.specs.Answers.{Answers, Promises, CheckReads}
use Rattle.pt_check.specs.declared.answer.Answer.{Answer}
use Rattle.std.proofs.lemmas.Result.{err_from_is_err_and}
use Rattle.pt_plan.proofs.Reading.{commit_check_failed}
use Rattle.pt_plan.proofs.prepare.checked.Goals as goal

pub returns-in-Yes-clause-ok : goal.returns-in-Yes-clause-ok
returns-in-Yes-clause-ok g c = λ tells.
    record {
      switch = c.in-Yes.switch;
      safe = subst (λ (a : Answer). Promises g.row.B (g.D.Disk.told c.args.disk.now).seen (phases_of c.args.plan.now) a) c.in-Yes.is
          (c.in_ok-answer.ensures.promises tells);
    }

pub returns-in-No-clause-err : goal.returns-in-No-clause-err
returns-in-No-clause-err g c = λ tells.
    subst (λ (a : Answer). Answers g.row.B (g.D.Disk.told c.args.disk.now).seen (phases_of c.args.plan.now) a) c.in-No.is
    (c.in_ok-answer.ensures.answers tells)

pub returns-in_err-answer-clause-place : goal.returns-in_err-answer-clause-place
returns-in_err-answer-clause-place g c = λ tells.
    let p = err_from_is_err_and c.from_residual.result c.from_residual.ensures.1 in
    rw (p.1, p.2) (commit_check_failed (CheckReads g.row.B (g.D.Disk.told c.args.disk.now).seen (phases_of c.args.plan.now))
    c.in_err-answer.field-0.0
    (c.in_err-answer.ensures.place tells))
