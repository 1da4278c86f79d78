use Rattle.pt_apply.specs.Plans.{phases_of}
use Rattle.pt_replay.specs.Wanted.{disk_of}
use Rattle.pt_replay.proofs.Saying.{no_rows, taken_is}
use Rattle.pt_replay.proofs.checking.checked.Goals as goal

pub returns-in-Ok : goal.returns-in-Ok
returns-in-Ok g c = record {
  says = taken_is g.row.B c.args.view.now (disk_of g.row.B c.args.view.now c.args.elsewhere.items) c.args.writes.now c.args.bytes.now
      (phases_of c.in-Ok.plan) c.plan_checked.result.status c.plan_checked.result.reply c.in-Ok.ensures.ok c.plan_checked.ensures.says;
}

pub returns-in-Err : goal.returns-in-Err
returns-in-Err g c = record {
  says = no_rows g.row.B c.args.view.now (disk_of g.row.B c.args.view.now c.args.elsewhere.items) c.args.writes.now c.args.bytes.now _ _
      c.in-Err.ensures.err;
}
