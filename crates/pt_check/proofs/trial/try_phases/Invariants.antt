use Rattle.std.proofs.Common.{◌≡◌, ◌≤◌, ◌+◌, length, take}
use Rattle.pt_sector.specs.Sectors.{Sectors}
use Rattle.pt_sector.specs.Overlays.{room_left, shown, OnlyReads}
use Rattle.pt_apply.specs.Plans.{phases_of, writes_in}
use Rattle.pt_recover.specs.Denotes.{Denotes, Reads}
use Rattle.pt_check.specs.Answers.{disk_after, Course}
use Rattle.pt_check.specs.inner.Answers.{current_of}
use Rattle.pt_check.specs.inner.Following.{AreFollowed}
use Rattle.pt_check.proofs.Trying.{Reading}
use Rattle.pt_check.proofs.trial.try_phases.Given as goal

abbrev pub invariant-loop-i : goal.invariant-loop-i
invariant-loop-i g l = record {
  same_reference : l.over.disk.ghost_name ≡ l.initial.over.disk.ghost_name;
  same : OnlyReads g.D.Disk l.fn.disk l.over.disk.now;
  quiet : g.D.Disk.faults l.over.disk.now ≡ g.D.Disk.faults l.fn.disk;
  room : length (writes_in (phases_of l.plan)) ≤ room_left l.over.own + length (writes_in (take l.i (phases_of l.plan)));
  seen : g.D.Disk.tells
      → shown (g.D.Disk.told l.over.disk.now).seen l.over.own ≡ disk_after (phases_of l.plan) (g.D.Disk.told l.fn.disk).seen l.i;
  own : (d : Sectors) → shown d l.over.own ≡ disk_after (phases_of l.plan) d l.i;
  trace : g.D.Disk.tells → Reading (Reads g.row.B) (disk_after (phases_of l.plan) (g.D.Disk.told l.fn.disk).seen l.i) l.before;
  course : g.D.Disk.tells
      → Course (Denotes g.row.B) (Reads g.row.B) (phases_of l.plan) (g.D.Disk.told l.fn.disk).seen l.layouts.old l.layouts.new l.i l.switch;
  few : l.recoveries ≤ l.i;
  followed : g.D.Disk.tells → AreFollowed g.row.B (disk_after (phases_of l.plan) (g.D.Disk.told l.fn.disk).seen l.i)
      (current_of l.layouts.old l.layouts.new l.switch) l.followed;
}
