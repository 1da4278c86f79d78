-- The first of some members and sectors.
use Rattle.std.proofs.Common.{◌≡◌, ◌<◌, ◌+◌, ℕ, Option, Some, None, sym, subst, arith, inl, inr}
use Rattle.std.specs.Prelude.{◌⊎◌}
use Rattle.std.proofs.lemmas.Bool.{cases_lt}
use Rattle.pt_path.specs.declared.path.Path.{Path}
use Rattle.pt_layout.specs.declared.sound.spot.Spot.{Spot}
use Rattle.pt_path.specs.Paths.{rank}
use Rattle.pt_layout.specs.inner.Sound.{SpotIsBefore, spot, LeastIs, FirstSpotIs}

lower : (a b x y z w : ℕ) → (a < b) ⊎ ((a ≡ b) × (x < y)) → (b < z) ⊎ ((b ≡ z) × (y < w)) → (a < z) ⊎ ((a ≡ z) × (x < w))
lower a b x y z w (inl p) (inl q) = inl (omega arith)
lower a b x y z w (inl p) (inr q) = inl (omega arith)
lower a b x y z w (inr p) (inl q) = inl (omega arith)
lower a b x y z w (inr p) (inr q) = inr (omega arith, omega arith)

before_on : (a b c : Spot) → SpotIsBefore a b → SpotIsBefore b c → SpotIsBefore a c
before_on a b c p q = lower (rank a.path) (rank b.path) a.lba b.lba (rank c.path) c.lba p q

-- a before c, and b not before c
apart : (a x b y c z : ℕ) → (a < c) ⊎ ((a ≡ c) × (x < z)) → ¬ ((b < c) ⊎ ((b ≡ c) × (y < z))) → (a < b) ⊎ ((a ≡ b) × (x < y))
apart a x b y c z p q = elim (cases_lt b c) as (λ _. (a < b) ⊎ ((a ≡ b) × (x < y))) [
  | inl lt ↦ absurd (q (inl lt))
  | inr ge ↦ elim (cases_lt c b) as (λ _. (a < b) ⊎ ((a ≡ b) × (x < y))) [
    | inl up ↦ elim p as (λ _. (a < b) ⊎ ((a ≡ b) × (x < y))) [ inl low ↦ inl (omega arith) | inr same ↦ inl (omega arith) ]
    | inr le ↦ (let e : b ≡ c = omega arith in elim (cases_lt y z) as (λ _. (a < b) ⊎ ((a ≡ b) × (x < y))) [
      | inl lt ↦ absurd (q (inr (e, lt)))
      | inr high ↦ elim p as (λ _. (a < b) ⊎ ((a ≡ b) × (x < y))) [
        | inl low ↦ inl (omega arith)
        | inr same ↦ inr
            (omega arith, omega arith)
      ]
    ])
  ]
]

before_apart : (a b c : Spot) → SpotIsBefore a c → ¬ SpotIsBefore b c → SpotIsBefore a b
before_apart a b c p q = apart (rank a.path) a.lba (rank b.path) b.lba (rank c.path) c.lba p q

pub least_same : (P Q : Path → ℕ → Type 0) (r : Option Spot) → ((q : Path) (t : ℕ) → P q t → Q q t)
    → ((q : Path) (t : ℕ) → Q q t → P q t) → LeastIs P r → LeastIs Q r
least_same P Q None there back is = λ q t x. is q t (back q t x)
least_same P Q (Some s) there back is = (there s.path s.lba is.0, λ q t x. is.1 q t (back q t x))

abbrev both : (P Q : Path → ℕ → Type 0) → Path → ℕ → Type 0
both P Q q t = P q t ⊎ Q q t

pub least_or : (P Q : Path → ℕ → Type 0) (a b r : Option Spot) → LeastIs P a → LeastIs Q b → FirstSpotIs a b r
    → LeastIs (λ q t. P q t ⊎ Q q t) r
least_or P Q None None r p q is =
    subst (λ (o : Option Spot). LeastIs (both P Q) o) (sym is) (λ u t x. elim x as (λ _. ⊥) [ inl y ↦ p u t y | inr y ↦ q u t y ])
least_or P Q None (Some y) r p q is =
    subst (λ (o : Option Spot). LeastIs (both P Q) o) (sym is)
    (inr q.0, λ u t x. elim x as (λ _. ¬ SpotIsBefore (spot u t) y) [ inl z ↦ absurd (p u t z) | inr z ↦ q.1 u t z ])
least_or P Q (Some x) None r p q is =
    subst (λ (o : Option Spot). LeastIs (both P Q) o) (sym is)
    (inl p.0, λ u t y. elim y as (λ _. ¬ SpotIsBefore (spot u t) x) [ inl z ↦ p.1 u t z | inr z ↦ absurd (q u t z) ])
least_or P Q (Some x) (Some y) r p q (inl second) = subst (λ (o : Option Spot). LeastIs (both P Q) o) (sym second.1) (
  inr q.0,
  λ u t z before. elim z as (λ _. ⊥) [
    | inl w ↦ p.1 u t w (before_on (spot u t) y x before second.0)
    | inr w ↦
        q.1 u t w before
  ],
)
least_or P Q (Some x) (Some y) r p q (inr first) = subst (λ (o : Option Spot). LeastIs (both P Q) o) (sym first.1) (
  inl p.0,
  λ u t z before. elim z as (λ _. ⊥) [
    | inl w ↦ p.1 u t w before
    | inr w ↦ q.1 u t w
        (before_apart (spot u t) y x before first.0)
  ],
)

-- one more of a row
abbrev pub Below : (ℕ → Path → ℕ → Type 0) → ℕ → Path → ℕ → Type 0
Below F k q t = (j : ℕ) × (j < k) × F j q t

pub below_none : (F : ℕ → Path → ℕ → Type 0) → LeastIs (Below F 0) None
below_none F q t is = omega (arith, is.1)

pub below_more : (F : ℕ → Path → ℕ → Type 0) (k : ℕ) (a b r : Option Spot) → LeastIs (Below F k) a → LeastIs (F k) b → FirstSpotIs a b r
    → LeastIs (Below F (k + 1)) r
below_more F k a b r p q is =
    least_same (λ u t. Below F k u t ⊎ F k u t) (Below F (k + 1)) r there back (least_or (Below F k) (F k) a b r p q is) where
      there : (u : Path) (t : ℕ) → Below F k u t ⊎ F k u t → Below F (k + 1) u t
      there u t (inl (j, lt, x)) = (j, omega arith, x)
      there u t (inr x) = (k, omega arith, x)

      back : (u : Path) (t : ℕ) → Below F (k + 1) u t → Below F k u t ⊎ F k u t
      back u t (j, lt, x) = elim (cases_lt j k) as (λ _. Below F k u t ⊎ F k u t) [
        | inl low ↦ inl (j, low, x)
        | inr high ↦ (let e : j ≡ k = omega arith in inr (subst (λ (i : ℕ). F i u t) e x))
      ]
