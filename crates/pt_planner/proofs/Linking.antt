-- Extended boot records that link on, one after another.
use Rattle.std.proofs.Common.{◌≡◌, ℕ, zero, suc, ◌+◌, ◌<◌, ◌≤◌, List, [], ◌∷◌, length, get_or, drop, Option, Some, None, refl, sym, ap}
use Rattle.std.proofs.Common.{◌∙◌, drop-cons, subst, arith, inl, inr}
use Rattle.std.specs.Prelude.{◌↔◌}
use Rattle.std.proofs.lemmas.List.{drop_all}
use Rattle.pt_sector.specs.Sectors.{Span}
use Rattle.pt_sector.specs.declared.address.Lba.{Lba}
use Rattle.pt_mbr.specs.Chain.{IsInside, IsUpward, StandsAt, lba}
use Rattle.pt_mbr.specs.declared.ebr.Ebr.{Ebr}
use Rattle.pt_mbr.specs.declared.record.Record.{Record}
use Rattle.pt_cases.specs.Writes.{LinkedOn, IsLoneChain}
use Rattle.pt_mbr.specs.Records.{extent_of}

-- what is left from a place on opens with what stands there
pub opened : {X : Type 0} (xs : List X) (k : ℕ) (z x : X) → k < length xs → get_or xs k z ≡ x → drop k xs ≡ x ∷ drop (k + 1) xs
opened xs k z x lt at =
    let e : suc k ≡ k + 1 = omega arith in
    drop-cons xs k z lt ∙ ap (λ (n : ℕ). get_or xs k z ∷ drop n xs) e ∙ ap (λ (y : _). y ∷ drop (k + 1) xs) at

-- it stands where the one before it links to
abbrev pub IsNext : Span → ℕ → Option Lba → Ebr → Type 0
IsNext x n to e = (to ≡ Some e.at) × IsInside x n e.at × IsUpward e.at e.next

linked_next : (x : Span) (n : ℕ) (to : Option Lba) (e : Ebr) (es : List Ebr) → LinkedOn x n to (e ∷ es)
    → IsNext x n to e × LinkedOn x n e.next es
linked_next x n None e es linked = absurd linked
linked_next x n (Some at) e es linked = (
  (
    ap (λ (y : Lba). Some y) (sym linked.0),
    subst (λ (y : Lba). IsInside x n y) (sym linked.0) linked.1,
    subst (λ (y : Lba). IsUpward y e.next) (sym linked.0) linked.2,
  ),
  linked.3,
)

next_linked : (x : Span) (n : ℕ) (to : Option Lba) (e : Ebr) (es : List Ebr) → IsNext x n to e → LinkedOn x n e.next es
    → LinkedOn x n to (e ∷ es)
next_linked x n to e es next rest = subst (λ (o : Option Lba). LinkedOn x n o (e ∷ es)) (sym next.0) (refl, next.1, next.2, rest)

-- the whole links on where what is left does
abbrev pub GoesOn : Span → ℕ → Option Lba → List Ebr → Option Lba → ℕ → Type 0
GoesOn x n from chain to k = LinkedOn x n from chain ↔ LinkedOn x n to (drop k chain)

pub goes_on : (x : Span) (n : ℕ) (from : Option Lba) (chain : List Ebr) (to : Option Lba) (k : ℕ) (z : Ebr) → k < length chain
    → IsNext x n to (get_or chain k z) → GoesOn x n from chain to k → GoesOn x n from chain (get_or chain k z).next (k + 1)
goes_on x n from chain to k z lt next before = (
  (λ whole. (linked_next x n to (get_or chain k z) (drop (k + 1) chain)
      (subst (λ (l : List Ebr). LinkedOn x n to l) (opened chain k z (get_or chain k z) lt refl) (before.0 whole))).1),
  (λ rest. before.1 (subst (λ (l : List Ebr). LinkedOn x n to l) (sym (opened chain k z (get_or chain k z) lt refl))
      (next_linked x n to (get_or chain k z) (drop (k + 1) chain) next rest))),
)

pub stops : (x : Span) (n : ℕ) (from : Option Lba) (chain : List Ebr) (to : Option Lba) (k : ℕ) (z : Ebr) → k < length chain
    → ¬ IsNext x n to (get_or chain k z) → GoesOn x n from chain to k → ¬ LinkedOn x n from chain
stops x n from chain to k z lt other before whole =
    other (linked_next x n to (get_or chain k z) (drop (k + 1) chain)
    (subst (λ (l : List Ebr). LinkedOn x n to l) (opened chain k z (get_or chain k z) lt refl) (before.0 whole))).0

last_none : (x : Span) (n : ℕ) (to : Option Lba) → LinkedOn x n to [] ↔ (to ≡ None)
last_none x n None = ((λ h. refl), (λ h. tt))
last_none x n (Some at) = ((λ h. absurd h), (λ h. absurd (cc)))

pub ended : (x : Span) (n : ℕ) (from : Option Lba) (chain : List Ebr) (to : Option Lba) (k : ℕ) → length chain ≤ k
    → GoesOn x n from chain to k → LinkedOn x n from chain ↔ (to ≡ None)
ended x n from chain to k past before =
    let empty = drop_all k chain past in (
      (λ whole. (last_none x n to).0 (subst (λ (l : List Ebr). LinkedOn x n to l) empty (before.0 whole))),
      (λ none. before.1 (subst (λ (l : List Ebr). LinkedOn x n to l) (sym empty) ((last_none x n to).1 none))),
    )

-- each that links on is on the disk
on_disk : (x : Span) (n : ℕ) (to : Option Lba) (chain : List Ebr) → LinkedOn x n to chain → (k : ℕ) (z : Ebr) → k < length chain
    → (get_or chain k z).at.0 < n
on_disk x n to [] linked k z lt = absurd (omega (arith, lt))
on_disk x n None (e ∷ es) linked k z lt = absurd linked
on_disk x n (Some at) (e ∷ es) linked zero z lt = let next = linked_next x n (Some at) e es linked in next.0.1.1
on_disk x n (Some at) (e ∷ es) linked (suc k) z lt = on_disk x n e.next es linked.3 k z (omega (arith, lt))

pub all_on_disk : (n : ℕ) (rs : List Record) (chain : List Ebr) → IsLoneChain n rs chain → (k : ℕ) (z : Ebr) → k < length chain
    → (get_or chain k z).at.0 < n
all_on_disk n [] chain none k z lt = absurd (let e = ap length none in omega (arith, e, lt))
all_on_disk n (r ∷ []) chain linked k z lt = on_disk (extent_of r) n (Some (lba (extent_of r).first)) chain linked.1 k z lt
all_on_disk n (r ∷ s ∷ rs) chain linked k z lt = absurd linked

pub stands_on_disk : (n : ℕ) (chain : List Ebr) (s : ℕ) → ((k : ℕ) (z : Ebr) → k < length chain → (get_or chain k z).at.0 < n)
    → StandsAt s chain → s < n
stands_on_disk n [] s each at = absurd at
stands_on_disk n (e ∷ es) s each (inl here) = let first = each 0 e (omega arith) in omega (arith, here, first)
stands_on_disk n (e ∷ es) s each (inr later) = stands_on_disk n es s (λ k z lt. each (suc k) z (omega (arith, lt))) later
