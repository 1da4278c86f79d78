use Rattle.std.proofs.Common.{inr}
use Rattle.pt_replay.specs.Wanted.{disk_of}
use Rattle.pt_replay.proofs.Walk.{asked_of}
use Rattle.pt_replay.proofs.SayingSet.{says_unset}
use Rattle.pt_replay.proofs.set.plan_text.Goals as goal

pub returns-in-Ok-clause-ok : goal.returns-in-Ok-clause-ok
returns-in-Ok-clause-ok g c =
    rw c.in-Some.ensures.view.count_is at (rw c.in-Some.ensures.seen at (rw c.primary_or-primary.ensures at (c.in-Ok.ensures.ready tt)))

pub returns-clause-err : goal.returns-clause-err
returns-clause-err g c = rw c.unset.ensures (inr (
  c.in-Some.ensures.is_view,
  says_unset g.row.B c.args.view.now (disk_of g.row.B c.args.view.now c.args.elsewhere.items) c.args.fresh.now c.args.text.now
      c.in-Err.error
      (rw c.in-Some.ensures.view.count_is at (rw c.in-Some.ensures.seen at
      (rw c.primary_or-primary.ensures at (c.in-Err.ensures.refused tt))))
      (asked_of g.row.B c.args.view.now _ _ _ _ _ _ _ _ c.in-Some.ensures.view c.plan_for_text.ensures.same.through.1
      c.in-Err.ensures.blames)
      (rw c.in-Some.ensures.view.count_is at (rw c.in-Some.ensures.seen at
      (rw c.primary_or-primary.ensures at (c.in-Err.ensures.place tt)))),
))
