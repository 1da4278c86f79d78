use Rattle.std.proofs.Common.{inr}
use Rattle.pt_replay.specs.Wanted.{disk_of}
use Rattle.pt_replay.proofs.Walk.{asked_of}
use Rattle.pt_replay.proofs.Saying.{says_nothing}
use Rattle.pt_replay.proofs.recovered.recovered.Goals as goal

pub returns-clause-err : goal.returns-clause-err
returns-clause-err g c = rw c.no_table.ensures (inr (
  c.in-Some.ensures.is_view,
  says_nothing g.row.B c.args.view.now (disk_of g.row.B c.args.view.now c.args.elsewhere.items) c.in-Err.why
      (rw c.in-Some.ensures.seen at (c.in-Err.ensures.err tt))
      (asked_of g.row.B c.args.view.now _ _ _ _ _ _ _ _ c.in-Some.ensures.view c.recover.ensures.same.through.1 c.in-Err.ensures.blames)
      (rw c.in-Some.ensures.seen at (c.in-Err.ensures.place tt)),
))
