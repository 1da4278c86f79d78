-- The first number of a range that passes a test.
use Rattle.std.proofs.Common.{◌≡◌, ◌<◌, ◌≤◌, ◌+◌, ℕ, zero, suc, Bool, true, false, Some, None, subst, sym, refl, inl, inr, arith}
use Rattle.std.specs.Prelude.{find}
use Rattle.std.specs.List.{range_with_len}
use Rattle.std.proofs.lemmas.Bool.{cases_eq}
use Rattle.std.proofs.lemmas.Option.{same_Some}

pub found_in_range : (p : ℕ → Bool) (a n k : ℕ) → a ≤ k → k < a + n → ((j : ℕ) → a ≤ j → j < k → p j ≡ false) → p k ≡ true
    → find p (range_with_len a n) ≡ Some k
found_in_range p a zero k low high below here = absurd (omega arith)
found_in_range p a (suc n) k low high below here = elim (cases_eq a k) as (λ _. find p (range_with_len a (suc n)) ≡ Some k) [
  | inl same ↦ subst (λ (m : ℕ). find p (range_with_len a (suc n)) ≡ Some m) same
      (let first : p a ≡ true = subst (λ (m : ℕ). p m ≡ true) (sym same) here in rw first)
  | inr other ↦ (let first : p a ≡ false = below a (omega arith) (omega arith) in
      rw first (found_in_range p (a + 1) n k (omega arith) (omega arith) (λ j up down. below j (omega arith) down) here))
]

pub none_in_range : (p : ℕ → Bool) (a n : ℕ) → ((j : ℕ) → a ≤ j → j < a + n → p j ≡ false) → find p (range_with_len a n) ≡ None
none_in_range p a zero all = refl
none_in_range p a (suc n) all =
    let first : p a ≡ false = all a (omega arith) (omega arith) in
    rw first (none_in_range p (a + 1) n (λ j up down. all j (omega arith) (omega arith)))

-- what passes is in the range, and what stands below it doesn't pass
pub in_range : (p : ℕ → Bool) (a n k : ℕ) → find p (range_with_len a n) ≡ Some k → (a ≤ k) × (k < a + n) × (p k ≡ true)
in_range p a zero k is = cc
in_range p a (suc n) k is = by_case (p a) refl (λ rest. in_range p (a + 1) n k rest) where
  by_case : (t : Bool) → p a ≡ t → (find p (range_with_len (a + 1) n) ≡ Some k → (a + 1 ≤ k) × (k < a + 1 + n) × (p k ≡ true))
      → (a ≤ k) × (k < a + suc n) × (p k ≡ true)
  by_case true here rest =
      let same : a ≡ k = same_Some a k (rw here at is) in
      (omega arith, omega arith, subst (λ (m : ℕ). p m ≡ true) same here)
  by_case false not rest = let (low, high, pass) = rest (rw not at is) in (omega arith, omega arith, pass)

pub below_found : (p : ℕ → Bool) (a n k j : ℕ) → find p (range_with_len a n) ≡ Some k → a ≤ j → j < k → p j ≡ false
below_found p a zero k j is low lt = cc
below_found p a (suc n) k j is low lt = by_case (p a) refl (λ rest up. below_found p (a + 1) n k j rest up lt) where
  by_case : (t : Bool) → p a ≡ t → (find p (range_with_len (a + 1) n) ≡ Some k → a + 1 ≤ j → p j ≡ false) → p j ≡ false
  by_case true here rest = let same : a ≡ k = same_Some a k (rw here at is) in absurd (omega arith)
  by_case false not rest = elim (cases_eq a j) as (λ _. p j ≡ false) [
    | inl same ↦ subst (λ (m : ℕ). p m ≡ false) same not
    | inr other ↦ rest (rw not at is) (omega arith)
  ]

pub passed_by : (p : ℕ → Bool) (a n j : ℕ) → find p (range_with_len a n) ≡ None → a ≤ j → j < a + n → p j ≡ false
passed_by p a zero j is low lt = absurd (omega arith)
passed_by p a (suc n) j is low lt = by_case (p a) refl (λ rest up. passed_by p (a + 1) n j rest up (omega arith)) where
  by_case : (t : Bool) → p a ≡ t → (find p (range_with_len (a + 1) n) ≡ None → a + 1 ≤ j → p j ≡ false) → p j ≡ false
  by_case true here rest = let was = rw here at is in cc
  by_case false not rest = elim (cases_eq a j) as (λ _. p j ≡ false) [
    | inl same ↦ subst (λ (m : ℕ). p m ≡ false) same not
    | inr other ↦ rest (rw not at is) (omega arith)
  ]
