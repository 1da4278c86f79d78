use Rattle.std.proofs.Common.{subst, arith}
use Rattle.std.proofs.lemmas.Result.{err_from_is_err_and}
use Rattle.pt_apply.specs.Plans.{phases_of}
use Rattle.pt_check.specs.Answers.{WritesFit, CheckReads}
use Rattle.pt_check.specs.declared.answer.Answer.{Answer}
use Rattle.pt_plan.proofs.Applying.{settled, failed_flush, so_far, refused, goes_on, done}
use Rattle.pt_plan.proofs.Failing.{unchecked, unapplied}
use Rattle.pt_plan.proofs.Reading.{by_flush, by_call, commit_check_failed}
use Rattle.pt_plan.proofs.checked.apply_checked.Goals as goal

pub returns-in_err-flush-clause-any_moment : goal.returns-in_err-flush-clause-any_moment
returns-in_err-flush-clause-any_moment g c = λ tells. failed_flush _ _ _ (c.in_err-flush.ensures.failed tells)

pub returns-in_err-answer-clause-any_moment : goal.returns-in_err-answer-clause-any_moment
returns-in_err-answer-clause-any_moment g c =
    λ tells. so_far _ _ _ (g.met.D.Disk.may_be_seen _ tells) (c.in_ok-flush.ensures.done tells) (c.in_err-answer.ensures.same.same tells) _

pub returns-in-No-clause-any_moment : goal.returns-in-No-clause-any_moment
returns-in-No-clause-any_moment g c =
    λ tells. so_far _ _ _ (g.met.D.Disk.may_be_seen _ tells) (c.in_ok-flush.ensures.done tells) (c.in_ok-answer.ensures.same.same tells) _

pub returns-in-No-clause-applied : goal.returns-in-No-clause-applied
returns-in-No-clause-applied g c = λ tells.
    refused _ _ _ (g.met.D.Disk.may_be_seen _ tells) (c.in_ok-flush.ensures.done tells) (c.in_ok-answer.ensures.same.same tells) g.row.B
    (phases_of c.args.plan.now) _ c.in_ok-answer.answer c.in-No.is (c.in_ok-answer.ensures.answers tells)

pub returns-in_err-apply-in-Yes-clause-any_moment : goal.returns-in_err-apply-in-Yes-clause-any_moment
returns-in_err-apply-in-Yes-clause-any_moment g c = λ tells.
    goes_on _ _ _ (g.met.D.Disk.may_be_seen _ tells) (c.in_ok-flush.ensures.done tells) (c.in_ok-answer.ensures.same.same tells) g.row.B
    (phases_of c.args.plan.now) c.in-Yes.switch c.in_ok-answer.answer c.in-Yes.is (c.in_ok-answer.ensures.promises tells)
    _ (c.apply.ensures.any_moment tells)

pub returns-in_ok-apply-in-Yes-clause-any_moment : goal.returns-in_ok-apply-in-Yes-clause-any_moment
returns-in_ok-apply-in-Yes-clause-any_moment g c = λ tells.
    goes_on _ _ _ (g.met.D.Disk.may_be_seen _ tells) (c.in_ok-flush.ensures.done tells) (c.in_ok-answer.ensures.same.same tells) g.row.B
    (phases_of c.args.plan.now) c.in-Yes.switch c.in_ok-answer.answer c.in-Yes.is (c.in_ok-answer.ensures.promises tells)
    _ (c.apply.ensures.any_moment tells)

pub returns-in_ok-apply-in-Yes-clause-applied : goal.returns-in_ok-apply-in-Yes-clause-applied
returns-in_ok-apply-in-Yes-clause-applied g c = λ tells.
    done _ _ _ (g.met.D.Disk.may_be_seen _ tells) (c.in_ok-flush.ensures.done tells) (c.in_ok-answer.ensures.same.same tells) g.row.B
    (phases_of c.args.plan.now) c.in-Yes.switch c.in_ok-answer.answer c.in-Yes.is (c.in_ok-answer.ensures.promises tells)
    _ (c.in_ok-answer.ensures.answers tells) (c.in_ok-apply-in-Yes.ensures.done tells)

pub returns-in_err-answer-clause-failed : goal.returns-in_err-answer-clause-failed
returns-in_err-answer-clause-failed g c = λ tells.
    let p = err_from_is_err_and c.from_residual-in_err-answer.result c.from_residual-in_err-answer.ensures.1 in
    rw (p.1, p.2) (unchecked g.row.B (phases_of c.args.plan.now) _ _ _ (c.in_ok-flush.ensures.done tells)
    (c.in_err-answer.ensures.same.same tells) c.in_err-answer.field-0.0
    _ _ c.in_err-answer.ensures.blames c.in_err-answer.ensures.same.came)

pub returns-in_err-apply-in-Yes-clause-failed : goal.returns-in_err-apply-in-Yes-clause-failed
returns-in_err-apply-in-Yes-clause-failed g c = λ tells.
    let p = err_from_is_err_and c.from_residual-in_err-apply-in-Yes.result c.from_residual-in_err-apply-in-Yes.ensures.1 in
    rw (p.1, p.2) (unapplied g.row.B (phases_of c.args.plan.now) _ _ _ (c.in_ok-flush.ensures.done tells)
    (c.in_ok-answer.ensures.same.same tells)
    c.in-Yes.switch c.in_ok-answer.answer c.in-Yes.is (c.in_ok-answer.ensures.answers tells) (c.in_ok-answer.ensures.promises tells)
    _ c.in_err-apply-in-Yes.field-0.0 (c.in_err-apply-in-Yes.ensures.failed tells))

pub apply-requires : goal.apply-requires
apply-requires g c = (
  omega arith,
  (
    c.requires.size,
    (
      rw c.in_ok-answer.ensures.same.same_count
          (subst (λ (a : Answer). WritesFit (g.D.Disk.count c.flush.new.self) c.args.plan.now a) c.in-Yes.is
          c.in_ok-answer.ensures.in_range),
      λ tells. settled _ _ _ (c.in_ok-flush.ensures.done tells) (c.in_ok-answer.ensures.same.same tells),
    ),
  ),
)

pub returns-in_err-flush-clause-place : goal.returns-in_err-flush-clause-place
returns-in_err-flush-clause-place g c = λ tells.
    let p = err_from_is_err_and c.from_residual.result c.from_residual.ensures.1 in
    rw (p.1, p.2) (by_flush (CheckReads g.row.B (g.D.Disk.told c.args.disk.now).seen (phases_of c.args.plan.now))
    c.in_err-flush.field-0.0 c.in_err-flush.ensures.fault)

pub returns-in_err-answer-clause-place : goal.returns-in_err-answer-clause-place
returns-in_err-answer-clause-place g c = λ tells.
    let p = err_from_is_err_and c.from_residual-in_err-answer.result c.from_residual-in_err-answer.ensures.1 in
    rw (p.1, p.2) (commit_check_failed (CheckReads g.row.B (g.D.Disk.told c.args.disk.now).seen (phases_of c.args.plan.now))
    c.in_err-answer.field-0.0
    (rw (c.in_ok-flush.ensures.done tells).seen at (c.in_err-answer.ensures.place tells)))

pub returns-in_err-apply-in-Yes-clause-place : goal.returns-in_err-apply-in-Yes-clause-place
returns-in_err-apply-in-Yes-clause-place g c = λ tells.
    let p = err_from_is_err_and c.from_residual-in_err-apply-in-Yes.result c.from_residual-in_err-apply-in-Yes.ensures.1 in
    rw (p.1, p.2) (by_call (CheckReads g.row.B (g.D.Disk.told c.args.disk.now).seen (phases_of c.args.plan.now)) (phases_of c.args.plan.now)
    c.in_err-apply-in-Yes.field-0.0 c.in_err-apply-in-Yes.ensures.fault)
