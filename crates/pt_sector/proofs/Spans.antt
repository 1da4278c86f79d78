-- Lemmas on specs/Sectors.antt: spans as sets of sectors.
use Rattle.std.specs.Prelude.{ℕ, ◌≤◌}
use Rattle.std.proofs.Common.{◌⊎◌, inl, inr, arith}
use Rattle.pt_sector.specs.Sectors.{Span, InSpan, Share, IsWithin}

-- by their ends
at_most : (a b : ℕ) → (a ≤ b) ⊎ (b ≤ a)
at_most a b = grind arith

pub share_ends : (x y : Span) → x.first ≤ x.last → y.first ≤ y.last → x.first ≤ y.last → y.first ≤ x.last → Share x y
share_ends x y x_some y_some xy yx = elim (at_most x.first y.first) [
  | inl before ↦ (y.first, (before, yx), (omega arith, y_some))
  | inr after ↦ (x.first, (omega arith, x_some), (after, xy))
]

pub ends_share : (x y : Span) → Share x y → (x.first ≤ y.last) × (y.first ≤ x.last)
ends_share x y both =
    let on_x : InSpan x both.0 = both.1 in
    let on_y : InSpan y both.0 = both.2 in
    (omega (arith, on_x.0, on_y.1), omega (arith, on_x.1, on_y.0))

pub within_ends : (x y : Span) → y.first ≤ x.first → x.last ≤ y.last → IsWithin x y
within_ends x y first last s in_x = (omega (arith, first, in_x.0), omega (arith, last, in_x.1))

pub ends_within : (x y : Span) → x.first ≤ x.last → IsWithin x y → (y.first ≤ x.first) × (x.last ≤ y.last)
ends_within x y some within = ((within x.first (omega arith, some)).0, (within x.last (some, omega arith)).1)
