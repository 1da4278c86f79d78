use Rattle.std.proofs.Common.{rules, ◌∙◌, ap, arith, drop, ◌+◌}
use Rattle.pt_sector.specs.Sectors.{written}
use Rattle.pt_apply.specs.Plans.{writes_of}
use Rattle.pt_apply.proofs.ItemsLemmas.{drop-writes}
use Rattle.pt_check.proofs.trial.put_phase.Goals as goal

pub loop-write-preserved : goal.loop-write-preserved
loop-write-preserved g c = record {
  same_reference = search rules;
  disk = search rules;
  faults = search rules;
  room = omega (arith, c.put.ensures.room, c.loop-write.invariant.room);
  seen = ap (written (drop (c.loop-write.write-index + 1) (writes_of c.args.phase.now))) c.put.ensures.wrote.seen
      ∙ (rw (drop-writes c.args.phase.now c.loop-write.write-index c.write-item.result c.loop-write-test.true
      c.write-item.is) at c.loop-write.invariant.seen);
  own = λ d. ap (written (drop (c.loop-write.write-index + 1) (writes_of c.args.phase.now))) (c.put.ensures.own d)
      ∙ (rw (drop-writes c.args.phase.now c.loop-write.write-index c.write-item.result c.loop-write-test.true
      c.write-item.is) at (c.loop-write.invariant.own d));
}
