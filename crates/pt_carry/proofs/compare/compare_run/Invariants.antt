use Rattle.std.proofs.Common.{◌≡◌, ◌≤◌, ◌+◌}
use Rattle.pt_sector.specs.Overlays.{OnlyReads}
use Rattle.pt_carry.proofs.compare.compare_run.Given as goal

abbrev pub invariant-loop-at : goal.invariant-loop-at
invariant-loop-at g l = record {
  same : OnlyReads g.D.Disk l.initial.disk l.disk;
  same_other : OnlyReads g.E.Disk l.initial.other l.other;
  quiet : g.D.Disk.faults l.disk ≡ g.D.Disk.faults l.initial.disk;
  quiet_other : g.E.Disk.faults l.other ≡ g.E.Disk.faults l.initial.other;
  from : l.run.first ≤ l.at;
  end : l.at-end ≡ l.run.last + 1;
}
