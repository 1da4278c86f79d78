use Rattle.std.proofs.Common.{◌≡◌, length, Some}
use Rattle.pt_sector.specs.Overlays.{OnlyReads}
use Rattle.pt_mbr.specs.Chain.{lba, span_of, IsInside, Walk}
use Rattle.pt_mbr.proofs.chain.follow.Given as goal

-- the walk so far leads here, and here is inside
abbrev pub invariant-loop : goal.invariant-loop
invariant-loop g l = record {
  same : OnlyReads g.D.Disk l.initial.disk l.disk;
  quiet : g.D.Disk.faults l.disk ≡ g.D.Disk.faults l.initial.disk;
  long : length l.list.items ≡ l.counter;
  inside : IsInside (span_of l.extent) (g.D.Disk.count l.initial.disk) l.at;
  reached : g.D.Disk.tells
      → Walk (g.D.Disk.told l.initial.disk).seen (span_of l.extent) (Some (lba (span_of l.extent).first)) l.list.items (Some l.at);
}
