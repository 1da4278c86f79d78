-- Sorted targets ascend where no two neighbours are of one sector; two of one sector are two in any order.
use Rattle.std.proofs.Common.{◌≡◌, ◌∙◌, ⊎_elim, ℕ, zero, suc, ◌+◌, ◌-◌, ◌<◌, ◌≤◌, List, [], ◌∷◌, length, get_or, refl, sym, ap, subst}
use Rattle.std.proofs.Common.{arith, sum_by}
use Rattle.std.specs.Prelude.{IsPermutation}
use Rattle.std.specs.List.Sorted.{IsNonDecreasingBy}
use Rattle.std.proofs.lemmas.Bool.{cases_lt}
use Rattle.std.proofs.lemmas.List.Sorted.{IsPermutation-sym, Contains-permutation, length_permutation, sum_by-IsPermutation}
use Rattle.std.proofs.lemmas.List.Sums.{sum_by-cons}
use Rattle.pt_sector.specs.Sectors.{IsAscending}
use Rattle.pt_cases.specs.inner.Targets.{HasTwinTargets}
use Rattle.pt_cases.proofs.SelectedLemmas.{count_targeted}
use Rattle.pt_cases.specs.Targets.{targeted, sector_of, HasTwoOfOne, InSectorOrder}
use Rattle.pt_cases.specs.declared.targets.target.TargetKind.TheVariants.{Stays}
use Rattle.pt_cases.specs.declared.targets.target.Target.{Target}

sector_get : {b : ℕ} (ts : List (Target b)) (i : ℕ) (t : Target b) → i < length ts → sector_of ts i ≡ (get_or ts i t).at.0
sector_get [] i t lt = absurd (omega (arith, lt))
sector_get (x ∷ ts) zero t lt = refl
sector_get (x ∷ ts) (suc i) t lt = sector_get ts i t (omega (arith, lt))

module _ {b : ℕ} (ts : List (Target b)) where
  pub twins_at : (k : ℕ) (t u : Target b) → 1 ≤ k → k < length ts → (get_or ts (k - 1) t).at.0 ≡ (get_or ts k u).at.0 → HasTwinTargets ts
  twins_at k t u from lt same =
      let back : k ≡ k - 1 + 1 = omega (arith, from) in (
        k - 1,
        omega (arith, lt, from),
        sector_get ts (k - 1) t (omega (arith, lt, from)) ∙ same ∙ sym (sector_get ts k u lt)
            ∙ ap (sector_of ts) back,
      )

  pub apart_more : (k : ℕ) (t u : Target b) → 1 ≤ k → k < length ts → ¬ ((get_or ts (k - 1) t).at.0 ≡ (get_or ts k u).at.0)
      → ((j : ℕ) → j + 1 < k → ¬ (sector_of ts j ≡ sector_of ts (j + 1))) → (j : ℕ) → j + 1 < k + 1
      → ¬ (sector_of ts j ≡ sector_of ts (j + 1))
  apart_more k t u from lt other before j less same = ⊎_elim
      (λ below. before j below same)
      (λ last.
      let here : k - 1 ≡ j = omega (arith, last, less, from) in
      let next : j + 1 ≡ k = omega (arith, last, less, from) in
      other (sym (sector_get ts (k - 1) t (omega (arith, lt, from))) ∙ ap (sector_of ts) here ∙ same ∙ ap (sector_of ts) next
      ∙ sector_get ts k u lt))
      (cases_lt (j + 1) k)

  ascends : IsNonDecreasingBy (λ (t : Target b). t.at.0) ts → ¬ HasTwinTargets ts → IsAscending (targeted ts)
  ascends up apart i j less lt =
      let within : j < length ts = omega (arith, lt, count_targeted ts) in
      let any : Target b = record { at = record { 0 = 0 }; bytes = []; under = []; kind = Stays } in
      let next = up i (i + 1) any (omega arith) (omega (arith, less, within)) in
      let far = up (i + 1) j any (omega (arith, less)) within in
      let at_i = sector_get ts i any (omega (arith, less, within)) in
      let at_next = sector_get ts (i + 1) any (omega (arith, less, within)) in
      let at_j = sector_get ts j any within in
      ⊎_elim
      (λ below. below)
      (λ not. absurd (apart (i, omega (arith, less, within), omega (arith, next, far, at_i, at_next, at_j, not))))
      (cases_lt (sector_of ts i) (sector_of ts j))

-- 1 where it is of sector s, and otherwise 0
abbrev is_of : {b : ℕ} → ℕ → Target b → ℕ
is_of s t = 1 - ((t.at.0 - s) + (s - t.at.0))

abbrev count_of : {b : ℕ} → ℕ → List (Target b) → ℕ
count_of s ts = sum_by (is_of s) ts

one_at : {b : ℕ} (s : ℕ) (ts : List (Target b)) (i : ℕ) → i < length ts → sector_of ts i ≡ s → 1 ≤ count_of s ts
one_at s [] i lt at = absurd (omega (arith, lt))
one_at s (t ∷ ts) zero lt at = (let here : t.at.0 ≡ s = at in omega (arith, here, sum_by-cons (is_of s) t ts))
one_at s (t ∷ ts) (suc i) lt at = (let later = one_at s ts i (omega (arith, lt)) at in omega (arith, later, sum_by-cons (is_of s) t ts))

two_at : {b : ℕ} (s : ℕ) (ts : List (Target b)) (i j : ℕ) → i < j → j < length ts → sector_of ts i ≡ s → sector_of ts j ≡ s
    → 2 ≤ count_of s ts
two_at s [] i j less lt at_i at_j = absurd (omega (arith, lt))
two_at s (t ∷ ts) i zero less lt at_i at_j = absurd (omega (arith, less))
two_at s (t ∷ ts) zero (suc j) less lt at_i at_j =
    let here : t.at.0 ≡ s = at_i in
    let later = one_at s ts j (omega (arith, lt)) at_j in
    omega (arith, here, later, sum_by-cons (is_of s) t ts)
two_at s (t ∷ ts) (suc i) (suc j) less lt at_i at_j =
    (let later = two_at s ts i j (omega (arith, less)) (omega (arith, lt)) at_i at_j in omega (arith, later, sum_by-cons (is_of s) t ts))

find_one : {b : ℕ} (s : ℕ) (ts : List (Target b)) → 1 ≤ count_of s ts → (i : ℕ) × (i < length ts) × (sector_of ts i ≡ s)
find_one s [] some = absurd (omega (arith, some))
find_one s (t ∷ ts) some = ⊎_elim
    (λ here. (0, omega arith, omega (arith, here)))
    (λ not. (let later = find_one s ts (omega (arith, some, not, sum_by-cons (is_of s) t ts)) in
    (suc later.0, omega (arith, later.1), later.2)))
    (cases_lt 0 (is_of s t))

find_two : {b : ℕ} (s : ℕ) (ts : List (Target b)) → 2 ≤ count_of s ts → HasTwoOfOne ts
find_two s [] some = absurd (omega (arith, some))
find_two s (t ∷ ts) some = ⊎_elim
    (λ here. (let later = find_one s ts (omega (arith, some, sum_by-cons (is_of s) t ts)) in
    let at : t.at.0 ≡ s = omega (arith, here) in
    record { i = 0; j = suc later.0; order = omega arith; within = omega (arith, later.1); same = at ∙ sym later.2 }))
    (λ not. (let later = find_two s ts (omega (arith, some, not, sum_by-cons (is_of s) t ts)) in
    record {
      i = suc later.i;
      j = suc later.j;
      order = omega (arith, later.order);
      within = omega (arith, later.within);
      same = later.same;
    }))
    (cases_lt 0 (is_of s t))

module _ {b : ℕ} (ts sorted : List (Target b)) (same : IsPermutation ts sorted) where
  pub two_of_one : HasTwinTargets sorted → HasTwoOfOne ts
  two_of_one (k, lt, twins) =
      let s = sector_of sorted k in
      let two = two_at s sorted k (k + 1) (omega arith) lt refl (sym twins) in
      find_two s ts (subst (λ (n : ℕ). 2 ≤ n) (sum_by-IsPermutation (is_of s) ts sorted same) two)

  pub in_order : IsNonDecreasingBy (λ (t : Target b). t.at.0) sorted → ¬ HasTwinTargets sorted → InSectorOrder ts sorted
  in_order up apart = record {
    ascending = ascends sorted up apart;
    count = length_permutation ts sorted same;
    all = λ t has. Contains-permutation ts sorted t same has;
    only = λ t has. Contains-permutation sorted ts t (IsPermutation-sym ts sorted same) has;
  }
