-- Where the extended boot records and the label places of a shaped and sound layout stand.
use Rattle.std.specs.Prelude.{◌≡◌, ◌<◌, ◌≤◌, ◌+◌, ◌-◌, ◌∷◌, [], ℕ, suc, Bool, true, false, List, Option, Some, None, option_map}
use Rattle.std.proofs.Common.{refl, sym, ap, subst, ◌∙◌, arith, inl, inr}
use Rattle.pt_sector.specs.Sectors.{Span, InSpan}
use Rattle.pt_sector.specs.declared.address.Lba.{Lba}
use Rattle.pt_mbr.specs.Chain.{StandsAt, lba}
use Rattle.pt_mbr.specs.declared.record.Record.{Record}
use Rattle.pt_mbr.specs.declared.ebr.Ebr.{Ebr}
use Rattle.pt_gpt.specs.Copies.{array_len}
use Rattle.pt_gpt.specs.declared.table.Table.{Table}
use Rattle.pt_mbr.specs.Records.{is_extended, extended_of, extent_of}
use Rattle.pt_members.specs.Members.{places_of, IsPlace, record_kind, record_member, records_as, tops, top_group}
use Rattle.pt_members.specs.declared.layout.Layout.{Layout}
use Rattle.pt_members.specs.declared.layout.Labelled.{Labelled}
use Rattle.pt_members.specs.declared.layout.Body.{Body}
use Rattle.pt_members.specs.declared.layout.Body.TheVariants.{Mbr, Gpt}
use Rattle.pt_members.specs.declared.member.Kind.TheVariants.{Extended}
use Rattle.pt_members.specs.declared.member.Member.{Member}
use Rattle.pt_members.proofs.Grouped.{kind_extended}
use Rattle.pt_members.proofs.Standing.{AtPlace}
use Rattle.pt_layout.specs.Sound.{Sound}
use Rattle.pt_members.specs.Tables.{IsEbr}
use Rattle.pt_cases.specs.Writes.{FitsTable, Linked, FitsExtended, FitsBody, Shaped}
use Rattle.pt_cases.proofs.Slots.{top_of}
use Rattle.pt_cases.specs.Keeps.{EndsOnDisk}
use Rattle.pt_cases.proofs.LabelPlaces.{place_lies_lem}

-- the slot of an extended record
pub record HasExtended (b : ℕ) (places : List (Option Member)) (r : Record) : Type 0 where
  pub number : ℕ
  pub at : AtPlace places (record_member b number r)
  pub kind : record_kind b r.kind ≡ Extended

extended_later : (b : ℕ) (o : Option Member) (os : List (Option Member)) (r : Record) → HasExtended b os r → HasExtended b (o ∷ os) r
extended_later b o os r has = record { number = has.number; at = (suc has.at.0, omega (arith, has.at.1), has.at.2); kind = has.kind }

pub extended_slot : (b n : ℕ) (rs : List (Option Record)) (r : Record) (es : List Record) → extended_of rs ≡ r ∷ es
    → HasExtended b (records_as b n rs) r
unfolding extended_of records_as
extended_slot b n [] r es e = absurd cc
extended_slot b n (None ∷ rs) r es e = extended_later b None (records_as b (n + 1) rs) r (extended_slot b (n + 1) rs r es e)
extended_slot b n (Some x ∷ rs) r es e = by_kind (extended_slot b (n + 1) rs r es) (is_extended x.kind) refl where
  by_kind : (extended_of rs ≡ r ∷ es → HasExtended b (records_as b (n + 1) rs) r) → (c : Bool) → is_extended x.kind ≡ c
      → HasExtended b (records_as b n (Some x ∷ rs)) r
  by_kind more true is =
      let first : extended_of (Some x ∷ rs) ≡ x ∷ extended_of rs = rw (is, extended_of) refl in
      let both : x ∷ extended_of rs ≡ r ∷ es = sym first ∙ e in
      let same : x ≡ r = cc in
      record {
        number = n;
        at = (0, omega arith, ap (λ (q : Record). Some (record_member b n q)) same);
        kind = ap (λ (q : Record). record_kind b q.kind) (sym same) ∙ kind_extended b x.kind is;
      }
  by_kind more false is =
      let behind : extended_of (Some x ∷ rs) ≡ extended_of rs = rw (is, extended_of) refl in
      extended_later b (option_map (record_member b n) (Some x)) (records_as b (n + 1) rs) r (more (sym behind ∙ e))

-- where a chain stands in the extended partition
pub linked_in : (x : Span) (from : Option Lba) (chain : List Ebr) (s : ℕ) → Linked x from chain → StandsAt s chain → InSpan x s
linked_in x None [] s linked at = absurd at
linked_in x (Some f) [] s linked at = absurd at
linked_in x None (e ∷ es) s linked at = absurd linked
linked_in x (Some f) (e ∷ es) s linked (inl here) =
    (let same : f.0 ≡ s = sym (ap (λ (l : Lba). l.0) linked.0) ∙ sym here in subst (λ (n : ℕ). InSpan x n) same linked.1)
linked_in x (Some f) (e ∷ es) s linked (inr there) = linked_in x e.next es s linked.4 there

-- the layout of an extended partition's record
abbrev pub layout_of : ℕ → Body → List Labelled → Layout
layout_of n y ls = record { sectors = n; body = y; labels = ls }

-- an extended partition lies on the disk, past sector 0
pub extended_lies : (b n : ℕ) (rs : List (Option Record)) (chain : List Ebr) (ls : List Labelled) (r : Record) (es : List Record)
    → Sound b (layout_of n (Mbr rs chain) ls) → extended_of rs ≡ r ∷ es → (1 ≤ r.start) × (r.start + r.size - 1 ≤ n - 1)
unfolding tops top_group
extended_lies b n rs chain ls r es sound e =
    let o : Layout = layout_of n (Mbr rs chain) ls in
    let slot = extended_slot b 1 rs r es e in
    let inside =
    sound.inside (top_group b n (Mbr rs chain)) (record_member b slot.number r) (top_of b o (record_member b slot.number r) slot.at) in
    (inside.low, inside.high)

chain_lies : (b n : ℕ) (rs : List (Option Record)) (chain : List Ebr) (ls : List Labelled) (s : ℕ) (es : List Record)
    → extended_of rs ≡ es → FitsExtended es chain → Sound b (layout_of n (Mbr rs chain) ls) → StandsAt s chain → (0 < s) × (s < n)
chain_lies b n rs chain ls s [] e fits sound at = absurd (subst (λ (c : List Ebr). StandsAt s c) fits at)
chain_lies b n rs chain ls s (r ∷ []) e fits sound at =
    let x = extended_lies b n rs chain ls r [] sound e in
    let in_x = linked_in (extent_of r) (Some (lba (extent_of r).first)) chain s fits.linked at in
    (omega (arith, x.0, in_x.0), omega (arith, x, in_x))
chain_lies b n rs chain ls s (r ∷ q ∷ es) e fits sound at = absurd fits

body_lies : (b n : ℕ) (y : Body) (ls : List Labelled) (s : ℕ) → FitsBody b n y → Sound b (layout_of n y ls) → IsEbr y s → (0 < s) × (s < n)
body_lies b n (Mbr rs chain) ls s fits sound ebr = chain_lies b n rs chain ls s (extended_of rs) refl fits.extended sound ebr
body_lies b n (Gpt t) ls s fits sound ebr = absurd ebr

-- an extended boot record stands on the disk, and not in sector 0
pub ebr_lies_lem : (b : ℕ) (o : Layout) (s : ℕ) → Shaped b o → Sound b o → IsEbr o.body s → (0 < s) × (s < o.sectors)
ebr_lies_lem b o s shaped sound ebr = body_lies b o.sectors o.body o.labels s shaped.body sound ebr

-- the usable sectors of a shaped layout end on the disk
pub fits_ends : (b n : ℕ) (y : Body) → FitsBody b n y → EndsOnDisk n y
fits_ends b n (Mbr rs chain) fits = tt
fits_ends b n (Gpt t) fits = omega (arith, fits.low, fits.order, fits.high)

between : (b n : ℕ) (y : Body) (t : Table) (s : ℕ) → y ≡ Gpt t → FitsBody b n y → (top_group b n y).low < s → s ≤ (top_group b n y).high
    → (array_len b + 2 < s) × (s ≤ n - (array_len b + 2))
unfolding top_group
between b n (Mbr rs chain) t s is fits low high = absurd cc
between b n (Gpt u) t s is fits low high = (omega (arith, fits.low, low), omega (arith, fits.high, high))

-- a label place of a sound GPT on n sectors that its table fits lies between the copies
pub place_usable : (b : ℕ) (o : Layout) (t : Table) (n s : ℕ) → o.sectors ≡ n → Sound b o → o.body ≡ Gpt t → FitsTable b n t
    → IsPlace (places_of b o.sectors o.body) s → (array_len b + 2 ≤ s) × (s < n - (array_len b + 1))
place_usable b o t n s count sound is fits at =
    let lies = place_lies_lem b o s sound at in
    let body : FitsBody b o.sectors o.body = subst (FitsBody b o.sectors) (sym is) (subst (λ (m : ℕ). FitsTable b m t) (sym count) fits) in
    let mid = between b o.sectors o.body t s is body lies.low lies.high in
    (omega (arith, mid.0), omega (arith, mid.1, count, fits.room))

-- a label place of a GPT lies between the arrays
pub place_in_gpt_lem : (b : ℕ) (o : Layout) (t : Table) (s : ℕ) → Shaped b o → Sound b o → o.body ≡ Gpt t
    → IsPlace (places_of b o.sectors o.body) s → (array_len b + 2 < s) × (s ≤ o.sectors - (array_len b + 2))
place_in_gpt_lem b o t s shaped sound is at =
    let lies = place_lies_lem b o s sound at in between b o.sectors o.body t s is shaped.body lies.low lies.high
