-- The layout before an edit.
use Rattle.std.specs.Prelude.{◌≡◌, ℕ, Option, Some, None}
use Rattle.pt_members.specs.declared.layout.Layout.{Layout}
use Rattle.pt_cases.specs.Writes.{Shaped}

-- a layout that a disk of n sectors may denote, or nothing
abbrev pub MayBe : ℕ → ℕ → Option Layout → Type 0
MayBe b n None = Unit {0}
MayBe b n (Some o) = (o.sectors ≡ n) × Shaped b o
