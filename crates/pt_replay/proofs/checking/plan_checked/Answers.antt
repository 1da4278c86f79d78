use Rattle.std.proofs.Common.{inr, subst, refl}
use Rattle.pt_apply.specs.Plans.{phases_of}
use Rattle.pt_check.specs.Answers.{Answers, Promises}
use Rattle.pt_check.specs.declared.answer.Answer.{Answer}
use Rattle.pt_replay.specs.Wanted.{disk_of}
use Rattle.pt_replay.proofs.Walk.{asked_of}
use Rattle.pt_replay.proofs.Saying.{says_unchecked}
use Rattle.pt_replay.proofs.checking.plan_checked.Goals as goal

pub returns-in-Ok-Yes : goal.returns-in-Ok-Yes
returns-in-Ok-Yes g c = record {
  says = rw c.accepted.ensures.told (inr (
    c.in-Some.ensures.is_view,
    (
      subst
          (λ (a : Answer). Promises g.row.B (disk_of g.row.B c.args.view.now c.args.elsewhere.items) (phases_of c.args.plan.now) a)
          c.in-Ok-Yes.field-0-is
          (rw c.in-Some.ensures.seen at (c.in-Ok-Yes.ensures.promises tt)),
      refl,
    ),
  ));
}

pub returns-in-Ok-No : goal.returns-in-Ok-No
returns-in-Ok-No g c = record {
  says = rw c.reason.ensures (inr (
    c.in-Some.ensures.is_view,
    (
      c.in-Ok-No.why,
      subst (λ (a : Answer). Answers g.row.B (disk_of g.row.B c.args.view.now c.args.elsewhere.items) (phases_of c.args.plan.now) a)
          c.in-Ok-No.field-0-is
          (rw c.in-Some.ensures.seen at (c.in-Ok-No.ensures.answers tt)),
      refl,
    ),
  ));
}

pub returns : goal.returns
returns g c = record {
  says = rw c.unchecked.ensures (inr (
    c.in-Some.ensures.is_view,
    says_unchecked g.row.B c.args.view.now (disk_of g.row.B c.args.view.now c.args.elsewhere.items) (phases_of c.args.plan.now)
        c.in-Err.error
        (asked_of g.row.B c.args.view.now _ _ _ _ _ _ _ _ c.in-Some.ensures.view c.check.ensures.same.through.1 c.in-Err.ensures.blames)
        (rw c.in-Some.ensures.seen at (c.in-Err.ensures.place tt)),
  ));
}
