use Rattle.std.proofs.Common.{rules, arith}
use Rattle.pt_carry.specs.Data.{InRun}
use Rattle.pt_carry.proofs.Copies.{took_on, at_in_run, sector_done}
use Rattle.pt_carry.proofs.copy.copy_run.Goals as goal

pub returns-in_err-copy_sector-clause-took : goal.returns-in_err-copy_sector-clause-took
returns-in_err-copy_sector-clause-took g c = λ tells other.
    took_on _ _ (InRun c.args.run.now) _ _ _ _ (c.loop-at.invariant.same_other.same other)
    (λ k is. at_in_run c.args.run.now c.loop-at.at k c.loop-at.invariant.from (omega arith) is)
    (c.loop-at.invariant.took tells other) (c.in_err-copy_sector.ensures.took tells other)

pub loop-at-preserved : goal.loop-at-preserved
loop-at-preserved g c = record {
  count = search rules;
  name = search rules;
  quiet = search rules;
  same_other = g.met.E.Disk.reads_on _ _ _ c.loop-at.invariant.same_other c.in_ok-copy_sector.ensures.same_other;
  quiet_other = search rules;
  from = search rules;
  end = search rules;
  took = λ tells other.
      took_on _ _ (InRun c.args.run.now) _ _ _ _ (c.loop-at.invariant.same_other.same other)
      (λ k is. at_in_run c.args.run.now c.loop-at.at k c.loop-at.invariant.from (omega arith) is)
      (c.loop-at.invariant.took tells other) (c.in_ok-copy_sector.ensures.took tells other);
  done = λ tells other.
      sector_done _ _ _ _ _ c.args.run.now.first c.loop-at.at (c.loop-at.invariant.same_other.same other)
      (c.in_ok-copy_sector.ensures.took tells other) (c.loop-at.invariant.done tells other)
      (c.in_ok-copy_sector.ensures.done tells other);
}
