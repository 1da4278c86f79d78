use Rattle.std.proofs.Common.{inr}
use Rattle.pt_replay.specs.Wanted.{disk_of}
use Rattle.pt_replay.proofs.Walk.{asked_of}
use Rattle.pt_replay.proofs.Saying.{says_failure}
use Rattle.pt_replay.proofs.health.verified.Goals as goal

pub returns : goal.returns
returns g c = record {
  says = rw c.failed.ensures (inr (
    c.in-Some.ensures.is_view,
    says_failure g.row.B c.args.view.now (disk_of g.row.B c.args.view.now c.args.elsewhere.items) c.in-Err.failure
        (asked_of g.row.B c.args.view.now _ _ _ _ _ _ _ _ c.in-Some.ensures.view c.verify.ensures.same.through.1 c.in-Err.ensures.blames)
        (rw c.in-Some.ensures.seen at (c.in-Err.ensures.place tt)),
  ));
}
