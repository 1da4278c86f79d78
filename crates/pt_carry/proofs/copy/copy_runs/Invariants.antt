use Rattle.std.proofs.Common.{◌≡◌, take}
use Rattle.pt_sector.specs.Overlays.{OnlyReads}
use Rattle.pt_carry.specs.Data.{IsIn}
use Rattle.pt_carry.specs.inner.Copying.{HasThose, Took}
use Rattle.pt_carry.proofs.copy.copy_runs.Given as goal

abbrev pub invariant-loop-run : goal.invariant-loop-run
invariant-loop-run g l = record {
  count : g.D.Disk.count l.disk ≡ g.D.Disk.count l.initial.disk;
  name : g.D.Disk.name l.disk ≡ g.D.Disk.name l.initial.disk;
  quiet : g.D.Disk.faults l.disk ≡ g.D.Disk.faults l.initial.disk;
  same_other : OnlyReads g.E.Disk l.initial.other l.other;
  quiet_other : g.E.Disk.faults l.other ≡ g.E.Disk.faults l.initial.other;
  took : g.D.Disk.tells → g.E.Disk.tells
      → Took (g.E.Disk.told l.initial.other).seen (IsIn l.runs) (g.D.Disk.told l.initial.disk) (g.D.Disk.told l.disk);
  done : g.D.Disk.tells → g.E.Disk.tells
      → HasThose (g.E.Disk.told l.initial.other).seen (IsIn (take l.run-index l.runs)) (g.D.Disk.told l.disk).seen;
}
