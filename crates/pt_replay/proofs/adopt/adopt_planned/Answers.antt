use Rattle.std.proofs.Common.{refl}
use Rattle.pt_apply.specs.Plans.{phases_of}
use Rattle.pt_replay.specs.Given.{buffers}
use Rattle.pt_replay.specs.Wanted.{disk_of}
use Rattle.pt_replay.proofs.SayingLike.{gives_adopting, adopts_not}
use Rattle.pt_replay.proofs.adopt.adopt_planned.Goals as goal

pub returns-in-Ok : goal.returns-in-Ok
returns-in-Ok g c = record {
  says = gives_adopting g.row.B c.args.view.now c.args.other.now (disk_of g.row.B c.args.view.now c.args.elsewhere.items)
      (disk_of g.row.B c.args.other.now c.args.beyond.items) (phases_of c.in-Ok.plan)
      (buffers c.args.writes.now c.args.bytes.now) (buffers c.put_plan.new.writes c.put_plan.new.bytes) c.put_plan.result.status
      c.put_plan.result.reply c.if-other.false c.in-Ok.ensures.view c.in-Ok.ensures.other c.in-Ok.ensures.count
      c.in-Ok.ensures.ok c.put_plan.ensures.says;
}

pub returns-in-Err : goal.returns-in-Err
returns-in-Err g c = record {
  says = adopts_not g.row.B c.args.view.now c.args.other.now (disk_of g.row.B c.args.view.now c.args.elsewhere.items)
      (disk_of g.row.B c.args.other.now c.args.beyond.items) _ _ _ _ refl c.if-other.false c.in-Err.ensures.err;
}
