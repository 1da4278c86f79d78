-- Lemmas on specs/Writes.antt: the records, the extended boot records and the links of a shaped MBR.
use Rattle.std.specs.Prelude.{◌≡◌, ◌<◌, ◌≤◌, ◌^◌, ◌+◌, ◌-◌, ◌∷◌, [], ℕ, zero, suc, Bool, true, false, List, Contains, length, get_or}
use Rattle.std.specs.Prelude.{Option, Some, None, option_map, is_some, if◌then◌else◌}
use Rattle.std.proofs.Common.{refl, sym, ap, subst, ◌∙◌, arith, inl, inr}
use Rattle.pt_sector.specs.Sectors.{Span, InSpan}
use Rattle.pt_sector.specs.declared.address.Lba.{Lba}
use Rattle.pt_mbr.specs.Chain.{IsUpward, StandsAt, lba}
use Rattle.pt_mbr.specs.Changes.{IsPlainRecord, ArePlain, IsPlainLogical, LinksTo, reach_of, FitsLink}
use Rattle.pt_mbr.specs.declared.record.Record.{Record}
use Rattle.pt_mbr.specs.declared.ebr.Ebr.{Ebr}
use Rattle.pt_mbr.specs.Records.{is_extended, extended_of, extent_of}
use Rattle.pt_members.specs.declared.layout.Layout.{Layout}
use Rattle.pt_members.specs.declared.layout.Labelled.{Labelled}
use Rattle.pt_members.specs.declared.layout.Body.{Body}
use Rattle.pt_members.specs.declared.layout.Body.TheVariants.{Mbr}
use Rattle.pt_members.specs.Members.{record_member, logical_member, logicals_as, tops, logicals}
use Rattle.pt_members.proofs.Standing.{AtPlace}
use Rattle.pt_layout.specs.Sound.{Sound}
use Rattle.pt_members.proofs.Grouped.{contains_head, contains_tail}
use Rattle.pt_cases.specs.Writes.{FitsRecord, FitsSlot, FitsLogical, Linked, FitsChain, FitsExtended, FitsMbr, FitsBody, Shaped, start_of}
use Rattle.pt_cases.specs.Writes.{AllLeadOn, Climbs, LinkedOn, IsLoneChain, link_to, AllLinkOn}
use Rattle.pt_cases.proofs.Slots.{logical_inside}
use Rattle.pt_cases.proofs.Stands.{layout_of, extended_slot, extended_lies, linked_in}

fits_mbr : (b : ℕ) (o : Layout) (rs : List (Option Record)) (chain : List Ebr) → Shaped b o → o.body ≡ Mbr rs chain → FitsMbr rs chain
fits_mbr b o rs chain shaped is = subst (λ (y : Body). FitsBody b o.sectors y) is shaped.body

slot_plain : (r : Option Record) → FitsSlot r → IsPlainRecord r
slot_plain None fits = tt
slot_plain (Some r) fits = record { boot = fits.boot; typed = fits.typed; sized = fits.sized; plain = fits.plain }

-- the records are such as sector 0 may have
pub shaped_plain_lem : (b : ℕ) (o : Layout) (rs : List (Option Record)) (chain : List Ebr) → Shaped b o → o.body ≡ Mbr rs chain
    → ArePlain rs
shaped_plain_lem b o rs chain shaped is k lt = slot_plain (get_or rs k None) ((fits_mbr b o rs chain shaped is).each k lt)

logical_plain : (r : Option Record) → FitsLogical r → IsPlainLogical r
logical_plain None fits = tt
logical_plain (Some r) fits = (slot_plain (Some r) fits.0, fits.1)

-- each extended boot record's logical partition fits
linked_fits : (x : Span) (from : Option Lba) (chain : List Ebr) (e : Ebr) → Linked x from chain → Contains chain e → FitsLogical e.logical
linked_fits x None [] e linked (k, lt, at) = absurd (omega (arith, lt))
linked_fits x (Some f) [] e linked (k, lt, at) = absurd (omega (arith, lt))
linked_fits x None (q ∷ es) e linked has = absurd linked
linked_fits x (Some f) (q ∷ es) e linked (zero, lt, at) = subst (λ (z : Ebr). FitsLogical z.logical) at linked.3
linked_fits x (Some f) (q ∷ es) e linked (suc k, lt, at) = linked_fits x q.next es e linked.4 (k, omega (arith, lt), at)

no_ebr : (e : Ebr) (chain : List Ebr) → chain ≡ [] → Contains chain e → ⊥
no_ebr e chain none has = (let empty : length chain ≡ 0 = ap length none in omega (arith, empty, has.1))

extended_fits : (rs : List Record) (chain : List Ebr) (e : Ebr) → FitsExtended rs chain → Contains chain e → FitsLogical e.logical
extended_fits [] chain e fits has = absurd (no_ebr e chain fits has)
extended_fits (r ∷ []) chain e fits has = linked_fits (extent_of r) (Some (lba (extent_of r).first)) chain e fits.linked has
extended_fits (r ∷ s ∷ rs) chain e fits has = absurd fits

-- the logical partitions are such as an extended boot record may have
pub shaped_logical_lem : (b : ℕ) (o : Layout) (rs : List (Option Record)) (chain : List Ebr) (e : Ebr) → Shaped b o
    → o.body ≡ Mbr rs chain → Contains chain e → IsPlainLogical e.logical
shaped_logical_lem b o rs chain e shaped is has =
    logical_plain e.logical (extended_fits (extended_of rs) chain e (fits_mbr b o rs chain shaped is).extended has)

linked_from : (x : Span) (from : Option Lba) (chain : List Ebr) → Linked x from chain → from ≡ start_of chain
linked_from x None [] linked = refl
linked_from x (Some f) [] linked = absurd linked
linked_from x None (e ∷ es) linked = absurd linked
linked_from x (Some f) (e ∷ es) linked = ap (λ (l : Lba). Some l) (sym linked.0)

linked_leads : (x : Span) (from : Option Lba) (chain : List Ebr) → Linked x from chain → AllLeadOn chain
linked_leads x None [] linked = tt
linked_leads x (Some f) [] linked = tt
linked_leads x None (e ∷ es) linked = absurd linked
linked_leads x (Some f) (e ∷ es) linked = (linked_from x e.next es linked.4, linked_leads x e.next es linked.4)

-- a place that isn't below
abbrev Above : ℕ → Option Lba → Type 0
Above low None = Unit {0}
Above low (Some at) = low ≤ at.0

above_next : (at : Lba) (next : Option Lba) → IsUpward at next → Above (at.0 + 1) next
above_next at None up = tt
above_next at (Some next) up = omega (arith, up)

linked_climbs : (x : Span) (low : ℕ) (from : Option Lba) (chain : List Ebr) → Above low from → Linked x from chain → Climbs low chain
linked_climbs x low None [] above linked = tt
linked_climbs x low (Some f) [] above linked = tt
linked_climbs x low None (e ∷ es) above linked = absurd linked
linked_climbs x low (Some f) (e ∷ es) above linked =
    let same : e.at.0 ≡ f.0 = ap (λ (l : Lba). l.0) linked.0 in (
      omega (arith, above, same),
      linked_climbs x (e.at.0 + 1) e.next es (subst (λ (n : ℕ). Above (n + 1) e.next) (sym same) (above_next f e.next linked.2)) linked.4,
    )

-- of no chain, or of the chain of a lone extended record
by_extended : (P : List Ebr → Type 0) (rs : List Record) (chain : List Ebr) → FitsExtended rs chain → P []
    → ((x : Span) (from : Option Lba) → Linked x from chain → P chain) → P chain
by_extended P [] chain fits none some = subst P (sym fits) none
by_extended P (r ∷ []) chain fits none some = some (extent_of r) (Some (lba (extent_of r).first)) fits.linked
by_extended P (r ∷ s ∷ rs) chain fits none some = absurd fits

pub chain_leads_lem : (b : ℕ) (o : Layout) (rs : List (Option Record)) (chain : List Ebr) → Shaped b o → o.body ≡ Mbr rs chain
    → AllLeadOn chain
chain_leads_lem b o rs chain shaped is =
    by_extended AllLeadOn (extended_of rs) chain (fits_mbr b o rs chain shaped is).extended tt
    (λ x from linked. linked_leads x from chain linked)

above_zero : (from : Option Lba) → Above 0 from
above_zero None = tt
above_zero (Some at) = omega arith

pub chain_climbs_lem : (b : ℕ) (o : Layout) (rs : List (Option Record)) (chain : List Ebr) → Shaped b o → o.body ≡ Mbr rs chain
    → Climbs 0 chain
chain_climbs_lem b o rs chain shaped is =
    by_extended (Climbs 0) (extended_of rs) chain (fits_mbr b o rs chain shaped is).extended tt
    (λ x from linked. linked_climbs x 0 from chain (above_zero from) linked)

-- an extended record is one of the records
extended_there : (rs : List (Option Record)) (r : Record) (es : List Record) → extended_of rs ≡ r ∷ es
    → (k : ℕ) × (k < length rs) × (get_or rs k None ≡ Some r)
unfolding extended_of
extended_there [] r es e = absurd cc
extended_there (None ∷ rs) r es e = (let h = extended_there rs r es e in (suc h.0, omega (arith, h.1), h.2))
extended_there (Some x ∷ rs) r es e = by_kind (extended_there rs r es) (is_extended x.kind) refl where
  by_kind : (extended_of rs ≡ r ∷ es → (k : ℕ) × (k < length rs) × (get_or rs k None ≡ Some r)) → (c : Bool) → is_extended x.kind ≡ c
      → (k : ℕ) × (k < length (Some x ∷ rs)) × (get_or (Some x ∷ rs) k None ≡ Some r)
  by_kind more true is =
      let first : extended_of (Some x ∷ rs) ≡ x ∷ extended_of rs = rw (is, extended_of) refl in
      let both : x ∷ extended_of rs ≡ r ∷ es = sym first ∙ e in
      let same : x ≡ r = cc in
      (0, omega arith, ap (λ (q : Record). Some q) same)
  by_kind more false is =
      let behind : extended_of (Some x ∷ rs) ≡ extended_of rs = rw (is, extended_of) refl in
      let h = more (sym behind ∙ e) in
      (suc h.0, omega (arith, h.1), h.2)

record_fits : (rs : List (Option Record)) (chain : List Ebr) (r : Record) (es : List Record) → FitsMbr rs chain
    → extended_of rs ≡ r ∷ es → FitsRecord r
record_fits rs chain r es fits e =
    (let h = extended_there rs r es e in subst (λ (o : Option Record). FitsSlot o) h.2 (fits.each h.0 (omega (arith, h.1, fits.four))))

ebr_stands : (chain : List Ebr) (e : Ebr) → Contains chain e → StandsAt e.at.0 chain
ebr_stands [] e (k, lt, at) = absurd (omega (arith, lt))
ebr_stands (q ∷ es) e (zero, lt, at) = inl (ap (λ (z : Ebr). z.at.0) (sym at))
ebr_stands (q ∷ es) e (suc k, lt, at) = inr (ebr_stands es e (k, omega (arith, lt), at))

-- the slot of a logical partition
logical_slot : (b n : ℕ) (chain : List Ebr) (e : Ebr) (r : Record) → Contains chain e → e.logical ≡ Some r
    → (k : ℕ) × AtPlace (logicals_as b n chain) (logical_member b k e.at.0 r)
unfolding logicals_as
logical_slot b n [] e r (k, lt, at) some = absurd (omega (arith, lt))
logical_slot b n (q ∷ es) e r (zero, lt, at) some =
    let same : q.logical ≡ Some r = ap (λ (z : Ebr). z.logical) at ∙ some in
    let place : q.at.0 ≡ e.at.0 = ap (λ (z : Ebr). z.at.0) at in
    (n, (0, omega arith, ap (option_map (logical_member b n q.at.0)) same ∙ ap (λ (s : ℕ). Some (logical_member b n s r)) place))
logical_slot b n (q ∷ es) e r (suc k, lt, at) some =
    let h = logical_slot b (if is_some q.logical then n + 1 else n) es e r (k, omega (arith, lt), at) some in
    (h.0, (suc h.1.0, omega (arith, h.1.1), h.1.2))

-- a logical partition ends in the extended one
logical_ends : (b n : ℕ) (rs : List (Option Record)) (chain : List Ebr) (ls : List Labelled) (x : Record) (es : List Record) (e : Ebr)
    (r : Record)
    → Sound b (layout_of n (Mbr rs chain) ls) → extended_of rs ≡ x ∷ es → Contains chain e → e.logical ≡ Some r
    → (e.at.0 + r.start + r.size - 1) ≤ (x.start + x.size - 1)
unfolding tops logicals
logical_ends b n rs chain ls x es e r sound extended has some =
    let slot = extended_slot b 1 rs x es extended in
    let part = logical_slot b 5 chain e r has some in
    let inside =
    logical_inside b (layout_of n (Mbr rs chain) ls) (record_member b slot.number x)
    (logical_member b part.0 e.at.0 r) sound slot.at slot.kind part.1 in
    inside.high

reach_fits : (b n : ℕ) (rs : List (Option Record)) (chain : List Ebr) (ls : List Labelled) (x : Record) (e : Ebr) (o : Option Record)
    → Sound b (layout_of n (Mbr rs chain) ls) → FitsRecord x → extended_of rs ≡ x ∷ [] → Contains chain e → x.start ≤ e.at.0
    → e.logical ≡ o → FitsLogical o → (0 < reach_of o) × (reach_of o < 2 ^ 32)
reach_fits b n rs chain ls x e None sound fits extended has above is logical = (omega arith, omega arith)
reach_fits b n rs chain ls x e (Some r) sound fits extended has above is logical =
    let ends = logical_ends b n rs chain ls x [] e r sound extended has is in
    (omega (arith, logical.0.sized), omega (arith, ends, above, fits.size, fits.sized, logical.0.sized))

link_fits : (b n : ℕ) (rs : List (Option Record)) (chain : List Ebr) (ls : List Labelled) (x : Record) (e : Ebr) → FitsMbr rs chain
    → Sound b (layout_of n (Mbr rs chain) ls) → extended_of rs ≡ x ∷ [] → Contains chain e → FitsLink x.start e
link_fits b n rs chain ls x e fits sound extended has =
    let lone : FitsChain (extent_of x) chain = subst (λ (l : List Record). FitsExtended l chain) extended fits.extended in
    let of = record_fits rs chain x [] fits extended in
    let at = linked_in (extent_of x) (Some (lba (extent_of x).first)) chain e.at.0 lone.linked (ebr_stands chain e has) in
    let reach =
    reach_fits b n rs chain ls x e e.logical sound of extended has at.0 refl (extended_fits (extended_of rs) chain e fits.extended has) in
    record { above = at.0; start = omega (arith, at, of.size, of.sized); some = reach.0; size = reach.1 }

sound_as : (b : ℕ) (o : Layout) (y : Body) → o.body ≡ y → Sound b o → Sound b (layout_of o.sectors y o.labels)
sound_as b o y is sound = subst (λ (z : Body). Sound b (layout_of o.sectors z o.labels)) is sound

-- the link to each extended boot record fits its fields
pub links_fit_lem : (b : ℕ) (o : Layout) (rs : List (Option Record)) (chain : List Ebr) (x : Record) (e : Ebr) → Shaped b o → Sound b o
    → o.body ≡ Mbr rs chain → extended_of rs ≡ x ∷ [] → Contains chain e → FitsLink x.start e
links_fit_lem b o rs chain x e shaped sound is extended has =
    link_fits b o.sectors rs chain o.labels x e (fits_mbr b o rs chain shaped is) (sound_as b o (Mbr rs chain) is sound) extended has

linked_on : (x : Span) (n : ℕ) (from : Option Lba) (chain : List Ebr) → ((s : ℕ) → InSpan x s → s < n) → Linked x from chain
    → LinkedOn x n from chain
linked_on x n None [] below linked = tt
linked_on x n (Some f) [] below linked = absurd linked
linked_on x n None (e ∷ es) below linked = absurd linked
linked_on x n (Some f) (e ∷ es) below linked = (linked.0, (linked.1, below f.0 linked.1), linked.2, linked_on x n e.next es below linked.4)

is_linked : (b n : ℕ) (rs : List (Option Record)) (chain : List Ebr) (ls : List Labelled) (es : List Record)
    → Sound b (layout_of n (Mbr rs chain) ls) → extended_of rs ≡ es → FitsExtended es chain → IsLoneChain n es chain
is_linked b n rs chain ls [] sound extended fits = fits
is_linked b n rs chain ls (r ∷ []) sound extended fits =
    let lies = extended_lies b n rs chain ls r [] sound extended in
    (fits.few, linked_on (extent_of r) n (Some (lba (extent_of r).first)) chain (λ s has. omega (arith, lies, has)) fits.linked)
is_linked b n rs chain ls (r ∷ s ∷ es) sound extended fits = absurd fits

-- the chain stands on the disk
pub chain_is_linked_lem : (b : ℕ) (o : Layout) (rs : List (Option Record)) (chain : List Ebr) → Shaped b o → Sound b o
    → o.body ≡ Mbr rs chain → IsLoneChain o.sectors (extended_of rs) chain
chain_is_linked_lem b o rs chain shaped sound is =
    is_linked b o.sectors rs chain o.labels (extended_of rs) (sound_as b o (Mbr rs chain) is sound) refl
    (fits_mbr b o rs chain shaped is).extended

link_leads : (first : ℕ) (next : Option Lba) (es : List Ebr) → next ≡ start_of es → ((e : Ebr) → Contains es e → FitsLink first e)
    → LinksTo first next (link_to first es)
link_leads first None [] same fits = tt
link_leads first (Some at) [] same fits = absurd cc
link_leads first None (e ∷ es) same fits = absurd cc
link_leads first (Some at) (e ∷ es) same fits =
    let link = fits e (contains_head e es) in
    let here : at ≡ e.at = cc in
    let place : at.0 ≡ e.at.0 = ap (λ (l : Lba). l.0) here in
    record {
      boot = inl refl;
      extended = inl refl;
      sized = λ none. omega (arith, none, link.some);
      there = omega (arith, place, link.above);
    }

all_link : (first : ℕ) (chain : List Ebr) → AllLeadOn chain → ((e : Ebr) → Contains chain e → FitsLink first e) → AllLinkOn first chain
all_link first [] leads fits = tt
all_link first (e ∷ es) leads fits =
    let more : (f : Ebr) → Contains es f → FitsLink first f = λ f has. fits f (contains_tail e es f has) in
    (link_leads first e.next es leads.0 more, all_link first es leads.1 more)

-- the links of the chain lead where they should
pub links_lead_lem : (b : ℕ) (o : Layout) (rs : List (Option Record)) (chain : List Ebr) (x : Record) → Shaped b o → Sound b o
    → o.body ≡ Mbr rs chain → extended_of rs ≡ x ∷ [] → AllLinkOn x.start chain
links_lead_lem b o rs chain x shaped sound is extended =
    all_link x.start chain (chain_leads_lem b o rs chain shaped is) (λ e has. links_fit_lem b o rs chain x e shaped sound is extended has)
