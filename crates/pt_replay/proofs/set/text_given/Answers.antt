use Rattle.std.proofs.Common.{inr, refl}
use Rattle.pt_apply.specs.Plans.{phases_of}
use Rattle.pt_replay.specs.Given.{buffers}
use Rattle.pt_replay.specs.Wanted.{disk_of}
use Rattle.pt_replay.proofs.SayingSet.{gives_set, sets_not}
use Rattle.pt_replay.proofs.set.text_given.Goals as goal

pub returns-in-Ok : goal.returns-in-Ok
returns-in-Ok g c = record {
  says = inr (
    c.in-Ok.ensures.view,
    gives_set g.row.B c.args.view.now (disk_of g.row.B c.args.view.now c.args.elsewhere.items) c.args.fresh.now c.args.text.now
        (phases_of c.in-Ok.plan) (buffers c.args.writes.now c.args.bytes.now)
        (buffers c.put_plan.new.writes c.put_plan.new.bytes) c.put_plan.result.status c.put_plan.result.reply c.in-Ok.ensures.ok
        c.put_plan.ensures.says,
  );
}

pub returns-in-Err : goal.returns-in-Err
returns-in-Err g c = record {
  says = sets_not g.row.B c.args.view.now (disk_of g.row.B c.args.view.now c.args.elsewhere.items) c.args.fresh.now c.args.text.now _ _
      _ _ refl c.in-Err.ensures.err;
}
