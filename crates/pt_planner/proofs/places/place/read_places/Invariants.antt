use Rattle.std.proofs.Common.{◌≡◌, All, take, map}
use Rattle.pt_sector.specs.Overlays.{OnlyReads}
use Rattle.pt_planner.specs.inner.Places.{spot_of, IsAt, IsRead}
use Rattle.pt_planner.proofs.places.place.read_places.Given as goal

abbrev pub invariant-loop-k : goal.invariant-loop-k
invariant-loop-k g l = record {
  same : OnlyReads g.D.Disk l.fn.disk l.disk;
  quiet : g.D.Disk.faults l.disk ≡ g.D.Disk.faults l.fn.disk;
  spots : map spot_of l.places.items ≡ take l.k l.spots;
  at : All (IsAt (g.D.Disk.count l.fn.disk)) l.places.items;
  bytes : g.D.Disk.tells → All (IsRead (g.D.Disk.told l.fn.disk).seen) l.places.items;
}
