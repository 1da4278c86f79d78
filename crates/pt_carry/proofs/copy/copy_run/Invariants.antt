use Rattle.std.proofs.Common.{◌≡◌, ◌≤◌, ◌<◌, ◌+◌, ℕ}
use Rattle.pt_sector.specs.Sectors.{sector}
use Rattle.pt_sector.specs.Overlays.{OnlyReads}
use Rattle.pt_carry.specs.Data.{InRun}
use Rattle.pt_carry.specs.inner.Copying.{Took}
use Rattle.pt_carry.proofs.copy.copy_run.Given as goal

abbrev pub invariant-loop-at : goal.invariant-loop-at
invariant-loop-at g l = record {
  count : g.D.Disk.count l.disk ≡ g.D.Disk.count l.initial.disk;
  name : g.D.Disk.name l.disk ≡ g.D.Disk.name l.initial.disk;
  quiet : g.D.Disk.faults l.disk ≡ g.D.Disk.faults l.initial.disk;
  same_other : OnlyReads g.E.Disk l.initial.other l.other;
  quiet_other : g.E.Disk.faults l.other ≡ g.E.Disk.faults l.initial.other;
  from : l.run.first ≤ l.at;
  end : l.at-end ≡ l.run.last + 1;
  took : g.D.Disk.tells → g.E.Disk.tells
      → Took (g.E.Disk.told l.initial.other).seen (InRun l.run) (g.D.Disk.told l.initial.disk) (g.D.Disk.told l.disk);
  done : g.D.Disk.tells → g.E.Disk.tells → (k : ℕ) → l.run.first ≤ k → k < l.at
      → sector (g.D.Disk.told l.disk).seen k ≡ sector (g.E.Disk.told l.initial.other).seen k;
}
