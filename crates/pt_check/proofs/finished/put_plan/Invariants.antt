use Rattle.std.proofs.Common.{◌≡◌, ◌≤◌, ◌+◌, length, take}
use Rattle.pt_sector.specs.Sectors.{Sectors}
use Rattle.pt_sector.specs.Overlays.{room_left, shown}
use Rattle.pt_apply.specs.Plans.{writes_in}
use Rattle.pt_apply.specs.inner.Plans.{phases_in}
use Rattle.pt_check.specs.Answers.{disk_after}
use Rattle.pt_check.proofs.finished.put_plan.Given as goal

abbrev pub invariant-loop-phase : goal.invariant-loop-phase
invariant-loop-phase g l = record {
  same_reference : l.over.disk.ghost_name ≡ l.initial.over.disk.ghost_name;
  disk : l.over.disk.now ≡ l.initial.over.disk.now;
  faults : l.over.failed ≡ l.initial.over.failed;
  room : length (writes_in (phases_in l.phase-items)) ≤ room_left l.over.own + length
      (writes_in (take l.phase-index (phases_in l.phase-items)));
  seen : shown (g.D.Disk.told l.over.disk.now).seen l.over.own ≡ disk_after (phases_in l.phase-items)
      (shown (g.D.Disk.told l.initial.over.disk.now).seen l.initial.over.own) l.phase-index;
  own : (d : Sectors) → shown d l.over.own ≡ disk_after (phases_in l.phase-items) (shown d l.initial.over.own) l.phase-index;
}
