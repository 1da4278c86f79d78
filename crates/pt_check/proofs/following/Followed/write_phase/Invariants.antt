use Rattle.std.proofs.Common.{◌≡◌, length, drop}
use Rattle.pt_sector.specs.Sectors.{Sectors, written}
use Rattle.pt_apply.specs.Plans.{writes_of}
use Rattle.pt_check.specs.inner.Following.{AreCopies}
use Rattle.pt_check.proofs.following.Followed.write_phase.Given as goal

abbrev pub invariant-loop-write : goal.invariant-loop-write
invariant-loop-write g l = record {
  copies : (d : Sectors) → length d ≡ l.sectors → AreCopies g.row.B d l.table l.initial.self
      → (x : Sectors) × (length x ≡ l.sectors) × (written (drop l.write-index (writes_of l.phase)) x ≡ written (writes_of l.phase) d)
      × AreCopies g.row.B x l.table l.self;
  deciding : l.self.deciding ≡ l.initial.self.deciding;
}
