-- Sectors that are listed, and the lowest of them from one on.
use Rattle.std.proofs.Common.{◌≡◌, ◌<◌, ◌≤◌, ◌+◌, ℕ, suc, List, [], ◌∷◌, ◌++◌, length, get_or, take, Option, Some, None, true, false, ltb}
use Rattle.std.proofs.Common.{sym, subst, arith, inl, inr, ⊎_elim}
use Rattle.std.specs.Prelude.{◌⊎◌, ◌↔◌, Contains, IsPermutation}
use Rattle.std.specs.List.Sorted.{IsNonDecreasing, IsPartitionPoint}
use Rattle.std.proofs.lemmas.Bool.{cases_lt, ltb-true, ltb-false}
use Rattle.std.proofs.lemmas.List.Elements.{Contains-push, Contains-push_cases, Contains-append_left}
use Rattle.std.proofs.lemmas.List.Sorted.{Contains-permutation, IsPermutation-sym}
use Rattle.pt_members.specs.Tables.{Lists, NextSectorIs}
use Rattle.pt_members.specs.inner.Tables.{Gains}
use Rattle.pt_mbr.specs.Chain.{StandsAt}
use Rattle.pt_mbr.specs.declared.ebr.Ebr.{Ebr}
use Rattle.pt_members.specs.declared.layout.Slice.{Slice}
use Rattle.pt_members.specs.Members.{IsPlace, place_of}
use Rattle.pt_members.proofs.Lowest.{stands_more, stands_back, next_same}
use Rattle.pt_members.proofs.LabelPlaces.{place_more, place_back}

-- one number more
pub gains_more : (P Q : ℕ → Type 0) (old mid new : List ℕ) (x : ℕ) → Gains P old mid → new ≡ mid ++ x ∷ []
    → ((s : ℕ) → P s ⊎ (s ≡ x) → Q s) → ((s : ℕ) → Q s → P s ⊎ (s ≡ x)) → Gains Q old new
gains_more P Q old mid new x so_far is there back s =
    subst (λ (l : List ℕ). Contains l s ↔ (Contains old s ⊎ Q s)) (sym is) (
      (λ at. ⊎_elim (λ was. ⊎_elim (λ before. inl before) (λ p. inr (there s (inl p))) ((so_far s).0 was))
          (λ same. inr (there s (inr (sym same)))) (Contains-push_cases mid x s at)),
      (λ is. ⊎_elim (λ before. Contains-append_left mid (x ∷ []) s ((so_far s).1 (inl before)))
          (λ q. ⊎_elim (λ p. Contains-append_left mid (x ∷ []) s ((so_far s).1 (inr p)))
          (λ same. subst (λ (u : ℕ). Contains (mid ++ x ∷ []) u) (sym same) (Contains-push mid x)) (back s q)) is),
    )

-- what an empty list gained, in order
pub listed : (P : ℕ → Type 0) (xs ys : List ℕ) → Gains P [] xs → IsPermutation xs ys → IsNonDecreasing ys → Lists P ys
listed P xs ys gains moved up = (
  up,
  λ s. (
    (λ at. ⊎_elim (λ none. absurd (omega (arith, none.1))) (λ p. p)
        ((gains s).0 (Contains-permutation ys xs s (IsPermutation-sym xs ys moved) at))),
    (λ p. Contains-permutation xs ys s moved ((gains s).1 (inr p))),
  ),
)

abbrev pub IsPoint : List ℕ → ℕ → ℕ → Type 0
IsPoint xs from i = IsPartitionPoint (λ (y : ℕ). ltb y from ≡ true) (λ (y : ℕ). ltb y from ≡ false) xs i

-- what a search for the first number that isn't below one has reported
pub next_some : (xs : List ℕ) (i from t : ℕ) → IsNonDecreasing xs → IsPoint xs from i → i < length xs
    → ((d : ℕ) → t ≡ get_or xs i d) → NextSectorIs (Contains xs) from (Some t)
next_some xs i from t up point lt at = (
  (i, lt, sym (at t)),
  omega (arith, ltb-false (get_or xs i t) from (point.1 i t (omega arith) lt), at t),
  (λ u low less is. ⊎_elim
      (λ before. omega (arith, ltb-true (get_or xs is.0 u) from (point.0 is.0 u (omega arith) before), is.2, low))
      (λ past. omega (arith, up i is.0 u past is.1, at u, is.2, less)) (cases_lt is.0 i)),
)

pub next_none : (xs : List ℕ) (i from : ℕ) → IsPoint xs from i → length xs ≤ i → NextSectorIs (Contains xs) from None
next_none xs i from point past u low is =
    omega (arith, ltb-true (get_or xs is.0 u) from (point.0 is.0 u (omega arith) (omega (arith, is.1, past))), is.2, low)

pub gains_none : (P : ℕ → Type 0) (xs : List ℕ) → ((s : ℕ) → ¬ P s) → Gains P xs xs
gains_none P xs none s = (λ at. inl at, λ is. ⊎_elim (λ at. at) (λ p. absurd (none s p)) is)

-- one extended boot record more
pub ebrs_more : (old mid new : List ℕ) (es : List Ebr) (k : ℕ) (z : Ebr) → k < length es → Gains (λ s. StandsAt s (take k es)) old mid
    → new ≡ mid ++ (get_or es k z).at.0 ∷ [] → Gains (λ s. StandsAt s (take (k + 1) es)) old new
ebrs_more old mid new es k z lt so_far is =
    let e : suc k ≡ k + 1 = omega arith in
    subst (λ (n : ℕ). Gains (λ s. StandsAt s (take n es)) old new) e
    (gains_more (λ s. StandsAt s (take k es)) (λ s. StandsAt s (take (suc k) es)) old mid new (get_or es k z).at.0 so_far is
    (λ s. stands_back s k es z lt) (λ s. stands_more s k es z lt))

-- one label place more
pub places_more : (old mid new : List ℕ) (ps : List Slice) (k : ℕ) (z : Slice) → k < length ps → Gains (IsPlace (take k ps)) old mid
    → new ≡ mid ++ place_of (get_or ps k z) ∷ [] → Gains (IsPlace (take (k + 1) ps)) old new
places_more old mid new ps k z lt so_far is =
    gains_more (IsPlace (take k ps)) (IsPlace (take (k + 1) ps)) old mid new (place_of (get_or ps k z)) so_far is
    (λ s. place_back ps k s z lt) (λ s. place_more ps k s z lt)

pub next_listed : (P : ℕ → Type 0) (xs : List ℕ) (from : ℕ) (r : Option ℕ) → Lists P xs → NextSectorIs (Contains xs) from r
    → NextSectorIs P from r
next_listed P xs from r lists is = next_same (Contains xs) P from r (λ u at. (lists.1 u).0 at) (λ u p. (lists.1 u).1 p) is
