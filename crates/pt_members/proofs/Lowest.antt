-- The lowest of some sectors from one on.
use Rattle.std.proofs.Common.{◌≡◌, ◌<◌, ◌≤◌, ◌+◌, ℕ, zero, suc, List, [], ◌∷◌, length, get_or, take, Option, Some, None, sym, ap, subst}
use Rattle.std.proofs.Common.{arith, inl, inr}
use Rattle.std.specs.Prelude.{◌⊎◌}
use Rattle.std.proofs.lemmas.Bool.{cases_lt}
use Rattle.pt_mbr.specs.Chain.{StandsAt}
use Rattle.pt_mbr.specs.declared.ebr.Ebr.{Ebr}
use Rattle.pt_members.specs.Tables.{NextSectorIs, least_of}

pub next_same : (P Q : ℕ → Type 0) (from : ℕ) (r : Option ℕ) → ((u : ℕ) → P u → Q u) → ((u : ℕ) → Q u → P u) → NextSectorIs P from r
    → NextSectorIs Q from r
next_same P Q from None there back is = λ u low q. is u low (back u q)
next_same P Q from (Some t) there back is = (there t is.0, is.1, λ u low lt q. is.2 u low lt (back u q))

lower : (x y : ℕ) → y < x → least_of (Some x) (Some y) ≡ Some y
lower x y lt = grind arith

upper : (x y : ℕ) → x ≤ y → least_of (Some x) (Some y) ≡ Some x
upper x y le = grind arith

abbrev either : (P Q : ℕ → Type 0) → ℕ → Type 0
either P Q s = P s ⊎ Q s

pub next_or : (P Q : ℕ → Type 0) (from : ℕ) (a b : Option ℕ) → NextSectorIs P from a → NextSectorIs Q from b
    → NextSectorIs (λ s. P s ⊎ Q s) from (least_of a b)
next_or P Q from None None p q = λ u low is. elim is as (λ _. ⊥) [ inl x ↦ p u low x | inr x ↦ q u low x ]
next_or P Q from None (Some y) p q = (inr q.0, q.1, λ u low lt is. elim is as (λ _. ⊥) [ inl x ↦ p u low x | inr x ↦ q.2 u low lt x ])
next_or P Q from (Some x) None p q = (inl p.0, p.1, λ u low lt is. elim is as (λ _. ⊥) [ inl z ↦ p.2 u low lt z | inr z ↦ q u low z ])
next_or P Q from (Some x) (Some y) p q = elim (cases_lt y x) as (λ _. NextSectorIs (either P Q) from (least_of (Some x) (Some y))) [
  | inl lt ↦ (let same : Some y ≡ least_of (Some x) (Some y) = sym (lower x y lt) in
      subst (λ (r : Option ℕ). NextSectorIs (either P Q) from r) same
      (inr q.0, q.1, λ u low below is. elim is as (λ _. ⊥) [ inl z ↦ p.2 u low (omega arith) z | inr z ↦ q.2 u low below z ]))
  | inr ge ↦ (let same : Some x ≡ least_of (Some x) (Some y) = sym (upper x y ge) in
      subst (λ (r : Option ℕ). NextSectorIs (either P Q) from r) same
      (inl p.0, p.1, λ u low below is. elim is as (λ _. ⊥) [ inl z ↦ p.2 u low below z | inr z ↦ q.2 u low (omega arith) z ]))
]

-- the lowest from s on is s exactly where s is one
pub next_here : (P : ℕ → Type 0) (s : ℕ) → NextSectorIs P s (Some s) → P s
next_here P s is = is.0

pub next_past : (P : ℕ → Type 0) (s : ℕ) (r : Option ℕ) → NextSectorIs P s r → ¬ (r ≡ Some s) → ¬ P s
next_past P s None is other p = is s (omega arith) p
next_past P s (Some t) is other p =
    elim (cases_lt s t) as (λ _. ⊥) [
      | inl lt ↦ is.2 s (omega arith) lt p
      | inr ge ↦ (let low : s ≤ t = is.1 in let same : t ≡ s = omega arith in other (ap (λ (n : ℕ). Some n) same))
    ]

-- one more extended boot record
pub stands_more : (s k : ℕ) (es : List Ebr) (z : Ebr) → k < length es → StandsAt s (take (suc k) es)
    → StandsAt s (take k es) ⊎ (s ≡ (get_or es k z).at.0)
stands_more s k [] z lt is = absurd (omega arith)
stands_more s zero (e ∷ es) z lt (inl here) = inr here
stands_more s zero (e ∷ es) z lt (inr there) = absurd there
stands_more s (suc k) (e ∷ es) z lt (inl here) = inl (inl here)
stands_more s (suc k) (e ∷ es) z lt (inr there) =
    elim (stands_more s k es z (omega arith) there) as (λ _. StandsAt s (take (suc k) (e ∷ es))
    ⊎ (s ≡ (get_or es k z).at.0)) [ inl x ↦ inl (inr x) | inr x ↦ inr x ]

pub stands_back : (s k : ℕ) (es : List Ebr) (z : Ebr) → k < length es → StandsAt s (take k es) ⊎ (s ≡ (get_or es k z).at.0)
    → StandsAt s (take (suc k) es)
stands_back s k [] z lt is = absurd (omega arith)
stands_back s zero (e ∷ es) z lt (inl none) = absurd none
stands_back s zero (e ∷ es) z lt (inr here) = inl here
stands_back s (suc k) (e ∷ es) z lt (inl (inl here)) = inl here
stands_back s (suc k) (e ∷ es) z lt (inl (inr there)) = inr (stands_back s k es z (omega arith) (inl there))
stands_back s (suc k) (e ∷ es) z lt (inr here) = inr (stands_back s k es z (omega arith) (inr here))

pub ebr_more : (k from : ℕ) (es : List Ebr) (z : Ebr) (a b : Option ℕ) → k < length es → NextSectorIs (λ s. StandsAt s (take k es)) from a
    → NextSectorIs (λ s. s ≡ (get_or es k z).at.0) from b
    → NextSectorIs (λ s. StandsAt s (take (k + 1) es)) from (least_of a b)
ebr_more k from es z a b lt p q =
    let e : suc k ≡ k + 1 = omega arith in
    subst (λ (n : ℕ). NextSectorIs (λ (s : ℕ). StandsAt s (take n es)) from (least_of a b)) e
    (next_same (λ (s : ℕ). StandsAt s (take k es) ⊎ (s ≡ (get_or es k z).at.0)) (λ (s : ℕ). StandsAt s (take (suc k) es)) from
    (least_of a b) (λ u. stands_back u k es z lt) (λ u. stands_more u k es z lt) (next_or _ _ from a b p q))

-- one more of a row
abbrev pub Under : (ℕ → ℕ → Type 0) → ℕ → ℕ → Type 0
Under F k s = (j : ℕ) × (j < k) × F j s

pub under_more : (F : ℕ → ℕ → Type 0) (k s : ℕ) → Under F (k + 1) s → Under F k s ⊎ F k s
under_more F k s (j, lt, is) = elim (cases_lt j k) as (λ _. Under F k s ⊎ F k s) [
  | inl below ↦ inl (j, below, is)
  | inr up ↦ (let same : j ≡ k = omega arith in inr (subst (λ (i : ℕ). F i s) same is))
]

pub under_back : (F : ℕ → ℕ → Type 0) (k s : ℕ) → Under F k s ⊎ F k s → Under F (k + 1) s
under_back F k s (inl (j, lt, is)) = (j, omega arith, is)
under_back F k s (inr here) = (k, omega arith, here)

pub next_more : (F : ℕ → ℕ → Type 0) (k from : ℕ) (a b : Option ℕ) → NextSectorIs (Under F k) from a → NextSectorIs (F k) from b
    → NextSectorIs (Under F (k + 1)) from (least_of a b)
next_more F k from a b p q =
    next_same (λ (s : ℕ). Under F k s ⊎ F k s) (Under F (k + 1)) from (least_of a b) (λ u. under_back F k u) (λ u. under_more F k u)
    (next_or _ _ from a b p q)
