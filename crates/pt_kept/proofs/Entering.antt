-- How one more extended boot record enters a chain that fits.
use Rattle.std.specs.Prelude.{◌≡◌, ◌<◌, ◌⊎◌, ◌∷◌, [], ℕ, zero, suc, Bool, true, false, List, flat_map, length, slice_index_or, slice_set}
use Rattle.std.specs.Prelude.{slice_get, Option, Some, None, Contains}
use Rattle.std.specs.List.{insert}
use Rattle.std.proofs.Common.{refl, sym, ap, subst, ◌∙◌, inl, inr, arith}
use Rattle.pt_sector.specs.Sectors.{Span, InSpan}
use Rattle.pt_sector.specs.declared.address.Lba.{Lba}
use Rattle.pt_mbr.specs.Chain.{IsUpward, lba}
use Rattle.pt_mbr.specs.declared.record.Record.{Record}
use Rattle.pt_mbr.specs.declared.ebr.Ebr.{Ebr}
use Rattle.pt_mbr.specs.Records.{is_extended, extended_of, extent_of}
use Rattle.pt_edit.specs.Chains.{ebr_at, empty_sector}
use Rattle.pt_cases.specs.Writes.{FitsRecord, FitsSlot, FitsLogical, Linked, FitsChain, FitsExtended}
use Rattle.pt_kept.proofs.Lists.{contains_cases, contains_later}
use Rattle.pt_kept.proofs.Tables.{contains_append}
use Rattle.pt_edit.proofs.RecordSteps.{IsEmptyIn}

-- where a link leads, a sector below it is below the next one's
below_next : (x : Span) (from : Option Lba) (cs : List Ebr) (s : ℕ) → Linked x from cs → (0 < length cs → s < (ebr_at cs 0).at.0)
    → IsUpward (lba s) from
below_next x None cs s is below = tt
below_next x (Some p) [] s is below = absurd is
below_next x (Some p) (c ∷ cs) s is below = let lt = below (omega arith) in omega (arith, lt, ap (λ (a : Lba). a.0) is.0)

-- one more behind another: it takes over that one's link, and that one links to it
pub linked_enter : (x : Span) (from : Option Lba) (chain : List Ebr) (j s : ℕ) (e : Ebr) → j < length chain → e.at ≡ lba s
    → e.next ≡ (ebr_at chain j).next → InSpan x s → (ebr_at chain j).at.0 < s
    → (suc j < length chain → s < (ebr_at chain (suc j)).at.0) → FitsLogical e.logical → Linked x from chain
    → Linked x from (insert (slice_set chain j (record (ebr_at chain j) { next = Some (lba s) })) (suc j) e)
linked_enter x from [] j s e lt at next within below above fits is = absurd (omega (arith, lt))
linked_enter x None (c ∷ cs) j s e lt at next within below above fits is = absurd is
linked_enter x (Some p) (c ∷ cs) zero s e lt at next within below above fits is = (
  is.0,
  is.1,
  omega (arith, below, ap (λ (a : Lba). a.0) is.0),
  is.3,
  (
    at,
    within,
    subst (IsUpward (lba s)) (sym next) (below_next x c.next cs s is.4 (λ some. above (omega (arith, some)))),
    fits,
    subst (λ (n : Option Lba). Linked x n cs) (sym next) is.4,
  ),
)
linked_enter x (Some p) (c ∷ cs) (suc j) s e lt at next within below above fits is = (
  is.0,
  is.1,
  is.2,
  is.3,
  linked_enter x c.next cs j s e (omega (arith, lt)) at next within below (λ more. above (omega (arith, more)))
      fits is.4,
)

-- the first one stands in the extended partition's first sector
pub first_at : (x : Span) (chain : List Ebr) → FitsChain x chain → (0 < length chain) × ((ebr_at chain 0).at ≡ lba x.first)
first_at x [] fits = absurd fits.linked
first_at x (c ∷ cs) fits = (omega arith, fits.linked.0)

pub contains_insert : (xs : List Ebr) (k : ℕ) (x y : Ebr) → Contains (insert xs k x) y → (x ≡ y) ⊎ Contains xs y
contains_insert xs zero x y is = contains_cases x y xs is
contains_insert [] (suc k) x y is = elim (contains_cases x y [] is) [ inl here ↦ inl here | inr later ↦ inr later ]
contains_insert (z ∷ xs) (suc k) x y is = elim (contains_cases z y (insert xs k x) is) [
  | inl here ↦ inr (0, omega arith, here)
  | inr later ↦ elim (contains_insert xs k x y later) [ inl same ↦ inl same | inr behind ↦ inr (contains_later z y xs behind) ]
]

sector_of : (c : Ebr) (o : Option Record) → c.logical ≡ o → empty_sector c ≡ (elim o as (λ o. List ℕ) [ None ↦ c.at.0 ∷ [] | Some r ↦ [] ])
sector_of c None is = rw is refl
sector_of c (Some r) is = rw is refl

empty_one : (c : Ebr) (s : ℕ) (o : Option Record) → c.logical ≡ o
    → Contains (elim o as (λ o. List ℕ) [ None ↦ c.at.0 ∷ [] | Some r ↦ [] ]) s → IsEmptyIn s c
empty_one c s None none is = elim (contains_cases c.at.0 s [] is) [
  | inl here ↦ record { at = here; unused = none }
  | inr later ↦ absurd (omega (arith, later.1))
]
empty_one c s (Some r) has is = absurd (omega (arith, is.1))

-- an empty one's sector is that of one that stands there
pub empty_listed : (chain : List Ebr) (s : ℕ) → Contains (flat_map empty_sector chain) s → (k : ℕ) × (k < length chain)
    × IsEmptyIn s (ebr_at chain k)
empty_listed [] s is = absurd (omega (arith, is.1))
empty_listed (c ∷ cs) s is = elim (contains_append s (empty_sector c) (flat_map empty_sector cs) is) [
  | inl here ↦ (0, omega arith, empty_one c s c.logical refl (subst (λ (l : List ℕ). Contains l s) (sector_of c c.logical refl) here))
  | inr later ↦ (let m = empty_listed cs s later in (suc m.0, omega (arith, m.1), m.2))
]

-- the record of a lone extended partition is one of the records
slot_fits : (r : Record) (rs : List (Option Record)) (p : Record) (t : Bool) → is_extended r.kind ≡ t → FitsRecord r
    → (slice_get (extended_of rs) 0 ≡ Some p → FitsRecord p) → slice_get (extended_of (Some r ∷ rs)) 0 ≡ Some p → FitsRecord p
unfolding extended_of
slot_fits r rs p true so fits more is =
    let list : extended_of (Some r ∷ rs) ≡ r ∷ extended_of rs = rw so refl in
    let found : Some r ≡ Some p = sym (ap (λ (l : List Record). slice_get l 0) list) ∙ is in
    let same : r ≡ p = cc in
    subst FitsRecord same fits
slot_fits r rs p false so fits more is =
    let list : extended_of (Some r ∷ rs) ≡ extended_of rs = rw so refl in
    more (sym (ap (λ (l : List Record). slice_get l 0) list) ∙ is)

pub extended_fits : (rs : List (Option Record)) (p : Record) → ((k : ℕ) → k < length rs → FitsSlot (slice_index_or rs k None))
    → slice_get (extended_of rs) 0 ≡ Some p → FitsRecord p
unfolding extended_of
extended_fits [] p each is = absurd cc
extended_fits (None ∷ rs) p each is = extended_fits rs p (λ k lt. each (suc k) (omega (arith, lt))) is
extended_fits (Some r ∷ rs) p each is = slot_fits r rs p (is_extended r.kind) refl (each 0 (omega arith))
    (extended_fits rs p (λ k lt. each (suc k) (omega (arith, lt)))) is

-- where there is one, the chain is its
pub chain_of : (rs : List Record) (p : Record) (chain : List Ebr) → slice_get rs 0 ≡ Some p → FitsExtended rs chain
    → FitsChain (extent_of p) chain
chain_of [] p chain is fits = absurd cc
chain_of (r ∷ []) p chain is fits = let same : r ≡ p = cc in subst (λ (q : Record). FitsChain (extent_of q) chain) same fits
chain_of (r ∷ s ∷ rs) p chain is fits = absurd fits

-- and a chain of it fits
pub refit_one : (rs : List Record) (p : Record) (chain made : List Ebr) → slice_get rs 0 ≡ Some p → FitsExtended rs chain
    → FitsChain (extent_of p) made → FitsExtended rs made
refit_one [] p chain made is fits new = absurd cc
refit_one (r ∷ []) p chain made is fits new = let same : p ≡ r = cc in subst (λ (q : Record). FitsChain (extent_of q) made) same new
refit_one (r ∷ s ∷ rs) p chain made is fits new = absurd fits
