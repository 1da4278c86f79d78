use Rattle.std.proofs.Common.{◌≡◌, get_or}
use Rattle.pt_sector.specs.Overlays.{OnlyReads}
use Rattle.pt_members.specs.Tables.{NextSectorIs}
use Rattle.pt_layout.specs.inner.Surveys.{ForeignOf, no_slice}
use Rattle.pt_members.proofs.Lowest.{Under}
use Rattle.pt_layout.proofs.foreign.lowest_foreign.Given as goal

abbrev pub invariant-loop-k : goal.invariant-loop-k
invariant-loop-k g l = record {
  same : OnlyReads g.D.Disk l.fn.disk l.disk;
  quiet : g.D.Disk.faults l.disk ≡ g.D.Disk.faults l.fn.disk;
  lowest : g.D.Disk.tells → NextSectorIs (Under (λ j. ForeignOf (g.D.Disk.told l.fn.disk).seen
      (get_or l.slices j no_slice)) l.k) 0 l.lowest;
}
