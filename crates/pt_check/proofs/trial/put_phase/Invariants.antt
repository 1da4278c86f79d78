use Rattle.std.proofs.Common.{◌≡◌, ◌≤◌, ◌+◌, drop}
use Rattle.pt_sector.specs.Sectors.{Sectors, written}
use Rattle.pt_sector.specs.Overlays.{room_left, shown}
use Rattle.pt_apply.specs.Plans.{writes_of}
use Rattle.pt_check.proofs.trial.put_phase.Given as goal

abbrev pub invariant-loop-write : goal.invariant-loop-write
invariant-loop-write g l = record {
  same_reference : l.over.disk.ghost_name ≡ l.initial.over.disk.ghost_name;
  disk : l.over.disk.now ≡ l.initial.over.disk.now;
  faults : l.over.failed ≡ l.initial.over.failed;
  room : room_left l.initial.over.own ≤ room_left l.over.own + l.write-index;
  seen : written (drop l.write-index (writes_of l.phase)) (shown (g.D.Disk.told l.over.disk.now).seen l.over.own)
      ≡ written (writes_of l.phase) (shown (g.D.Disk.told l.initial.over.disk.now).seen l.initial.over.own);
  own : (d : Sectors) → written (drop l.write-index (writes_of l.phase)) (shown d l.over.own)
      ≡ written (writes_of l.phase) (shown d l.initial.over.own);
}
