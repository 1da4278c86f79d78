use Rattle.std.specs.Prelude.{◌≡◌, drop}
use Rattle.pt_sector.specs.Overlays.{OnlyReads}
use Rattle.pt_members.specs.Members.{IsPlace}
use Rattle.pt_recover.proofs.Traces.{Left}
use Rattle.pt_recover.proofs.LabelSteps.{Continues}
use Rattle.pt_recover.proofs.labels.traced_labels.Given as goal

abbrev pub invariant-loop-k : goal.invariant-loop-k
invariant-loop-k g l = record {
  same : OnlyReads g.D.Disk l.fn.disk l.disk;
  quiet : g.D.Disk.faults l.disk ≡ g.D.Disk.faults l.fn.disk;
  labels : g.D.Disk.tells → Continues (g.D.Disk.told l.fn.disk).seen l.slices l.k l.labels.items;
  traced : Left l.fn.trace l.trace (IsPlace l.slices) (IsPlace (drop l.k l.slices));
}
