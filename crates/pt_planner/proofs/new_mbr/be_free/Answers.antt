use Rattle.std.proofs.Common.{arith}
use Rattle.pt_recover.specs.Spans.{IsIn}
use Rattle.pt_members.specs.Tables.{OwnedOf}
use Rattle.pt_planner.proofs.NewMbr.{last_touch, last_free}
use Rattle.pt_planner.proofs.Touching.{when, unless, lent_free}
use Rattle.pt_planner.proofs.new_mbr.be_free.Goals as goal

pub returns-then-touches-clause-err : goal.returns-then-touches-clause-err
returns-then-touches-clause-err g c = (
  lent_free (OwnedOf g.row.B c.args.old.now) c.args.plan.now.phases.items c.deref.result.now c.deref.ensures.value
      (unless _ c.if-touches_owned.ensures),
  last_touch (IsIn c.args.trace.now) c.args.plan.now.phases.items c.deref-2.result.now c.saturating_sub-before.result
      c.len-count.result c.deref-2.ensures.value c.saturating_sub-before.ensures (omega (arith, c.len-count.ensures))
      (when _ c.if-touches.ensures),
)

pub returns-clause-ok : goal.returns-clause-ok
returns-clause-ok g c = record {
  unowned = lent_free (OwnedOf g.row.B c.args.old.now) c.args.plan.now.phases.items c.deref.result.now c.deref.ensures.value
      (unless _ c.if-touches_owned.ensures);
  unread = last_free (IsIn c.args.trace.now) c.args.plan.now.phases.items c.deref-2.result.now c.saturating_sub-before.result
      c.len-count.result c.deref-2.ensures.value c.saturating_sub-before.ensures (omega (arith, c.len-count.ensures))
      (unless _ c.if-touches.ensures);
}
