-- Searching runs that ascend.
use Rattle.std.proofs.Common.{◌≡◌, ◌<◌, ◌≤◌, ℕ, zero, suc, List, [], ◌∷◌, length, get_or, true, false, leb, ltb, ap, arith, inl, inr}
use Rattle.std.specs.Prelude.{◌↔◌}
use Rattle.std.specs.Bool.{Decides}
use Rattle.std.specs.List.Sorted.{IsNonDecreasingBy, IsPartitionPoint}
use Rattle.std.proofs.lemmas.Bool.{leb-true, ltb-true, ltb-false}
use Rattle.std.proofs.lemmas.Bool.Decides.{nat_tests}
use Rattle.pt_recover.specs.Spans.{IsIn, Apart}
use Rattle.pt_recover.specs.declared.trace.TracedRun.{TracedRun}

above_all : (r : TracedRun) (rs : List TracedRun) (k : ℕ) (z : TracedRun) → Apart (r ∷ rs) → k < length rs
    → (r.last < (get_or rs k z).first) × ((get_or rs k z).first ≤ (get_or rs k z).last)
unfolding Apart
above_all r [] k z apart lt = absurd (omega arith)
above_all r (t ∷ ts) zero z apart lt = (omega (arith, apart.1), apart.2.0)
above_all r (t ∷ ts) (suc k) z apart lt =
    let later = above_all t ts k z apart.2 (omega arith) in
    (omega (arith, apart.1, apart.2.0, later.0), later.1)

rising : (rs : List TracedRun) (i j : ℕ) (z : TracedRun) → Apart rs → i ≤ j → j < length rs → (get_or rs i z).last ≤ (get_or rs j z).last
unfolding Apart
rising [] i j z apart le lt = absurd (omega arith)
rising (r ∷ rs) zero zero z apart le lt = omega arith
rising (r ∷ rs) zero (suc j) z apart le lt =
    let above = above_all r rs j z apart (omega arith) in
    omega (arith, above.0, above.1)
rising (r ∷ rs) (suc i) zero z apart le lt = absurd (omega arith)
rising (r ∷ rs) (suc i) (suc j) z apart le lt = rising rs i j z apart.2 (omega arith) (omega arith)

pub lasts_rise : (rs : List TracedRun) → Apart rs → IsNonDecreasingBy (λ r. r.last) rs
lasts_rise rs apart = λ i j z le lt. rising rs i j z apart le lt

none_later : (r : TracedRun) (rs : List TracedRun) (s : ℕ) → Apart (r ∷ rs) → s ≤ r.last → ¬ IsIn rs s
unfolding Apart IsIn
none_later r [] s apart le is = is
none_later r (t ∷ ts) s apart le (inl here) = absurd (omega (arith, apart.1, here.0, le))
none_later r (t ∷ ts) s apart le (inr later) = none_later t ts s apart.2 (omega (arith, apart.1, apart.2.0, le)) later

pub found_at : (rs : List TracedRun) (i s : ℕ) (z : TracedRun) → Apart rs → ((k : ℕ) → k < i → k < length rs → (get_or rs k z).last < s)
    → i < length rs → s ≤ (get_or rs i z).last → IsIn rs s ↔ ((get_or rs i z).first ≤ s)
unfolding Apart IsIn
found_at [] i s z apart below lt le = absurd (omega arith)
found_at (r ∷ rs) zero s z apart below lt le =
    (λ h. elim h [ inl here ↦ here.0 | inr later ↦ absurd (none_later r rs s apart le later) ], λ first. inl (first, le))
found_at (r ∷ rs) (suc i) s z apart below lt le =
    let rest = found_at rs i s z apart.2 (λ k under within. below (suc k) (omega arith) (omega arith)) (omega arith) le in (
      λ h. elim h [ inl here ↦ absurd (omega (arith, here.1, below 0 (omega arith) (omega arith))) | inr later ↦ rest.0 later ],
      λ first. inr (rest.1 first),
    )

pub found_none : (rs : List TracedRun) (i s : ℕ) (z : TracedRun) → ((k : ℕ) → k < i → k < length rs → (get_or rs k z).last < s)
    → length rs ≤ i → ¬ IsIn rs s
unfolding IsIn
found_none [] i s z below past is = is
found_none (r ∷ rs) zero s z below past is = absurd (omega arith)
found_none (r ∷ rs) (suc i) s z below past (inl here) = absurd (omega (arith, here.1, below 0 (omega arith) (omega arith)))
found_none (r ∷ rs) (suc i) s z below past (inr later) =
    found_none rs i s z (λ k under within. below (suc k) (omega arith) (omega arith)) (omega arith) later

-- what a search for the first run that doesn't end before s has reported
abbrev pub IsPoint : List TracedRun → ℕ → ℕ → Type 0
IsPoint rs s i = IsPartitionPoint (λ (y : TracedRun). ltb y.last s ≡ true) (λ (y : TracedRun). ltb y.last s ≡ false) rs i

leb_decides : (a b : ℕ) → Decides (leb a b) (a ≤ b)
leb_decides a b = (λ t. leb-true a b t, λ le. grind (arith, nat_tests))

pub search_some : (rs : List TracedRun) (i s : ℕ) (r : TracedRun) → Apart rs → IsPoint rs s i → i < length rs
    → ((d : TracedRun) → r ≡ get_or rs i d) → Decides (leb r.first s) (IsIn rs s)
search_some rs i s r apart point lt at =
    let le : s ≤ (get_or rs i r).last = ltb-false (get_or rs i r).last s (point.1 i r (omega arith) lt) in
    let found = found_at rs i s r apart (λ k under within. ltb-true (get_or rs k r).last s (point.0 k r (omega arith) under)) lt le in
    let here : r.first ≡ (get_or rs i r).first = ap (λ (x : TracedRun). x.first) (at r) in
    (λ t. found.1 (omega (arith, (leb_decides r.first s).0 t, here)), λ is. (leb_decides r.first s).1 (omega (arith, found.0 is, here)))

pub search_none : (rs : List TracedRun) (i s : ℕ) → IsPoint rs s i → length rs ≤ i → ¬ IsIn rs s
search_none rs i s point past =
    let z : TracedRun = record { first = 0; last = 0 } in
    found_none rs i s z (λ k under within. ltb-true (get_or rs k z).last s (point.0 k z (omega arith) under)) past
