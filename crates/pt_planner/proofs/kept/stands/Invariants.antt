use Rattle.std.proofs.Common.{◌≡◌, take}
use Rattle.pt_sector.specs.Overlays.{OnlyReads}
use Rattle.pt_apply.specs.Plans.{writes_of}
use Rattle.pt_cases.specs.Kept.{AllStand}
use Rattle.pt_planner.proofs.kept.stands.Given as goal

abbrev pub invariant-loop-write : goal.invariant-loop-write
invariant-loop-write g l = record {
  same : OnlyReads g.D.Disk l.fn.disk l.disk;
  quiet : g.D.Disk.faults l.disk ≡ g.D.Disk.faults l.fn.disk;
  stand : g.D.Disk.tells → AllStand (g.D.Disk.told l.fn.disk).seen (writes_of (take l.write-index l.writes));
}
