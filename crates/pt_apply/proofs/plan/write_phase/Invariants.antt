use Rattle.std.proofs.Common.{◌≡◌, drop}
use Rattle.pt_apply.specs.Plans.{writes_of}
use Rattle.pt_apply.proofs.Writing.{Writing}
use Rattle.pt_apply.proofs.plan.write_phase.Given as goal

abbrev pub invariant-loop-write : goal.invariant-loop-write
invariant-loop-write g l = record {
  count : g.D.Disk.count l.disk ≡ g.D.Disk.count l.initial.disk;
  name : g.D.Disk.name l.disk ≡ g.D.Disk.name l.initial.disk;
  quiet : g.D.Disk.faults l.disk ≡ g.D.Disk.faults l.initial.disk;
  writing : g.D.Disk.tells
      → Writing (g.D.Disk.told l.initial.disk).seen (writes_of l.phase) (drop l.write-index (writes_of l.phase)) l.write-index
      (g.D.Disk.told l.initial.disk) (g.D.Disk.told l.disk);
}
