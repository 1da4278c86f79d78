use Rattle.std.proofs.Common.{◌≡◌, take}
use Rattle.pt_sector.specs.Sectors.{after}
use Rattle.pt_sector.specs.Device.{LeavesOnly}
use Rattle.pt_apply.specs.Plans.{Settled, StoppedSomewhere, Reached}
use Rattle.pt_apply.specs.inner.Plans.{phases_in}
use Rattle.pt_apply.proofs.plan.apply.Given as goal

abbrev pub invariant-loop-phase : goal.invariant-loop-phase
invariant-loop-phase g l = record {
  count : g.D.Disk.count l.disk ≡ g.D.Disk.count l.initial.disk;
  name : g.D.Disk.name l.disk ≡ g.D.Disk.name l.initial.disk;
  quiet : g.D.Disk.faults l.disk ≡ g.D.Disk.faults l.initial.disk;
  settled : g.D.Disk.tells
      → Settled (g.D.Disk.told l.disk) (after (take l.phase-index (phases_in l.phase-items)) (g.D.Disk.told l.initial.disk).seen);
  leaves : g.D.Disk.tells
      → LeavesOnly (g.D.Disk.told l.initial.disk) (g.D.Disk.told l.disk)
      (StoppedSomewhere (phases_in l.phase-items) (g.D.Disk.told l.initial.disk).seen);
  reached : g.D.Disk.tells
      → Reached (phases_in l.phase-items) (g.D.Disk.told l.initial.disk).seen l.phase-index 0 (g.D.Disk.told l.initial.disk)
      (g.D.Disk.told l.disk);
}
