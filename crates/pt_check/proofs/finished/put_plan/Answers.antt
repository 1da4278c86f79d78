use Rattle.std.proofs.Common.{rules, ap, arith, length}
use Rattle.pt_sector.specs.Overlays.{shown}
use Rattle.pt_apply.specs.Plans.{writes_of}
use Rattle.pt_apply.specs.inner.Plans.{phases_in}
use Rattle.pt_check.proofs.Firsts.{count_on, count_within, lent_phase, index_within, seen_on}
use Rattle.pt_check.proofs.finished.put_plan.Goals as goal

pub put_phase-requires : goal.put_phase-requires
put_phase-requires g c = (
  search rules,
  (
    search rules,
    (
      search rules,
      (
        search rules,
        omega (
          arith,
          c.loop-phase.invariant.room,
          count_within c.deref-phase-items.result.now c.loop-phase.phase-index c.phase-item.result c.loop-phase-test.true c.phase-item.is,
          ap length c.deref.ensures.value,
        ),
      ),
    ),
  ),
)

pub loop-phase-preserved : goal.loop-phase-preserved
loop-phase-preserved g c = record {
  same_reference = search rules;
  disk = search rules;
  faults = search rules;
  room = omega (
    arith,
    c.loop-phase.invariant.room,
    c.put_phase.ensures.room,
    count_on c.deref-phase-items.result.now c.loop-phase.phase-index c.phase-item.result c.loop-phase-test.true c.phase-item.is,
    ap length c.deref.ensures.value,
  );
  seen =
      seen_on (phases_in c.deref-phase-items.result.now)
      (shown (g.D.Disk.told c.args.over.now.disk.now).seen c.args.over.now.own) c.loop-phase.phase-index
      (writes_of c.deref.result.now) _ _
      (index_within c.deref-phase-items.result.now c.loop-phase.phase-index c.loop-phase-test.true)
      (lent_phase c.deref-phase-items.result.now c.loop-phase.phase-index c.phase-item.result c.loop-phase-test.true c.phase-item.is
      c.deref.result.now c.deref.ensures.value) c.loop-phase.invariant.seen c.put_phase.ensures.seen;
  own = λ d. seen_on (phases_in c.deref-phase-items.result.now) (shown d c.args.over.now.own) c.loop-phase.phase-index
      (writes_of c.deref.result.now) _ _
      (index_within c.deref-phase-items.result.now c.loop-phase.phase-index c.loop-phase-test.true)
      (lent_phase c.deref-phase-items.result.now c.loop-phase.phase-index c.phase-item.result c.loop-phase-test.true c.phase-item.is
      c.deref.result.now c.deref.ensures.value) (c.loop-phase.invariant.own d) (c.put_phase.ensures.own d);
}
