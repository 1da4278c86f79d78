-- Layouts that disks denote are in order.
use Rattle.std.proofs.Common.{◌≡◌, ◌∙◌, ◌+◌, ℕ, List, [], ◌∷◌, ◌++◌, length, filter, flat_map, Bool, true, false, Option, Some, None}
use Rattle.std.proofs.Common.{append-nil, is_some, ap, inl, inr, option_map, refl, subst, sym}
use Rattle.std.specs.Prelude.{if◌then◌else◌}
use Rattle.pt_sector.specs.Sectors.{Sectors}
use Rattle.pt_sector.specs.declared.address.Lba.{Lba}
use Rattle.pt_gpt.specs.declared.entry.Entry.{Entry}
use Rattle.pt_mbr.specs.Records.{extended_of, extent_of}
use Rattle.pt_mbr.specs.declared.ebr.Ebr.{Ebr}
use Rattle.pt_mbr.specs.declared.record.Record.{Record}
use Rattle.pt_edit.specs.Chains.{IsLinked}
use Rattle.pt_edit.proofs.LinkLaws.{chain_linked_lem}
use Rattle.pt_members.specs.Members.{entries_as, has_place, logicals, logicals_as, places_of, records_as, slice_as, slice_from, slice_in}
use Rattle.pt_members.specs.Members.{logical_member, slices_of, slots, tops}
use Rattle.pt_members.specs.declared.layout.Body.{Body}
use Rattle.pt_members.specs.declared.layout.Body.TheVariants.{Gpt, Mbr}
use Rattle.pt_members.specs.declared.layout.Labelled.{Labelled}
use Rattle.pt_members.specs.declared.layout.Layout.{Layout}
use Rattle.pt_members.specs.declared.member.Kind.{Kind}
use Rattle.pt_members.specs.declared.member.Kind.TheVariants as kind
use Rattle.pt_members.specs.declared.member.Member.{Member}
use Rattle.pt_recover.specs.Denotes.{BodyIs, Denotes, HasChain, LabelsAre}
use Rattle.pt_tables.specs.Records.{number_after}
use Rattle.pt_tables.specs.Shown.{AreLabelsAt, InOrder, LeadsOn, logical_number, logical_numbers, numbers_from, numbers_of}

-- ## The numbers of members.

abbrev numbers_in : List (Option Member) → List ℕ
numbers_in [] = []
numbers_in (None ∷ ms) = numbers_in ms
numbers_in (Some m ∷ ms) = m.path.number ∷ numbers_in ms

numbers_more : (ms os : List (Option Member)) → numbers_in (ms ++ os) ≡ numbers_in ms ++ numbers_in os
numbers_more [] os = refl
numbers_more (None ∷ ms) os = numbers_more ms os
numbers_more (Some m ∷ ms) os = ap (λ ns. m.path.number ∷ ns) (numbers_more ms os)

of_records : (b n : ℕ) (rs : List (Option Record)) → numbers_in (records_as b n rs) ≡ numbers_from n rs
unfolding records_as numbers_from
of_records b n [] = refl
of_records b n (None ∷ rs) = of_records b (n + 1) rs
of_records b n (Some r ∷ rs) = ap (λ ns. n ∷ ns) (of_records b (n + 1) rs)

of_entries : (b n : ℕ) (es : List (Option Entry)) → numbers_in (entries_as b n es) ≡ numbers_from n es
unfolding entries_as numbers_from
of_entries b n [] = refl
of_entries b n (None ∷ es) = of_entries b (n + 1) es
of_entries b n (Some e ∷ es) = ap (λ ns. n ∷ ns) (of_entries b (n + 1) es)

of_logicals : (b n : ℕ) (es : List Ebr) → numbers_in (logicals_as b n es) ≡ logical_numbers n es
unfolding logicals_as logical_numbers
of_logicals b n [] = refl
of_logicals b n (e ∷ es) = by_logical e.logical (of_logicals b n es) (of_logicals b (n + 1) es) where
  by_logical : (o : Option Record) → numbers_in (logicals_as b n es) ≡ logical_numbers n es
      → numbers_in (logicals_as b (n + 1) es) ≡ logical_numbers (n + 1) es
      → numbers_in (option_map (logical_member b n e.at.0) o ∷ logicals_as b (if is_some o then n + 1 else n) es)
      ≡ logical_number n o ++ logical_numbers (number_after n o) es
  by_logical None here next = here
  by_logical (Some r) here next = ap (λ ns. n ∷ ns) next

numbers_of_slots : (b : ℕ) (y : Body) → numbers_in (slots b y) ≡ numbers_of y
unfolding tops logicals numbers_of
numbers_of_slots b (Gpt t) = ap numbers_in (append-nil (entries_as b 1 t.entries)) ∙ of_entries b 1 t.entries
numbers_of_slots b (Mbr rs es) =
    numbers_more (records_as b 1 rs) (logicals_as b 5 es)
    ∙ ap (λ ns. ns ++ numbers_in (logicals_as b 5 es)) (of_records b 1 rs)
    ∙ ap (λ ns. numbers_from 1 rs ++ ns) (of_logicals b 5 es)

-- ## Labels of slices are labels of members.

module _ (d : Sectors) (n : ℕ) where
  at_slots : (ms : List (Option Member)) (labels : List Labelled) → LabelsAre d (filter (has_place n) (flat_map slice_in ms)) labels
      → AreLabelsAt (numbers_in ms) labels
  at_slots [] labels are = are
  at_slots (None ∷ ms) labels are = at_slots ms labels are
  at_slots (Some m ∷ ms) labels are = by_kind m.kind (at_slots ms) are where
    by_kind : (k : Kind)
        → ((ls : List Labelled) → LabelsAre d (filter (has_place n) (flat_map slice_in ms)) ls → AreLabelsAt (numbers_in ms) ls)
        → LabelsAre d (filter (has_place n) (slice_as k (slice_from m.path.number m.first m.last) ++ flat_map slice_in ms)) labels
        → AreLabelsAt (m.path.number ∷ numbers_in ms) labels
    by_kind kind.Leaf rest are = inr (rest labels are)
    by_kind kind.Extended rest are = inr (rest labels are)
    by_kind kind.Slice rest are = by_place (has_place n (slice_from m.path.number m.first m.last)) are where
      by_place : (t : Bool)
          → LabelsAre d (if t then slice_from m.path.number m.first m.last ∷ filter (has_place n) (flat_map slice_in ms)
          else filter (has_place n) (flat_map slice_in ms)) labels
          → AreLabelsAt (m.path.number ∷ numbers_in ms) labels
      by_place false are = inr (rest labels are)
      by_place true (inl (l, more, is, at, others)) = inl (l, more, is, rest more others)
      by_place true (inr (none, others)) = inr (rest labels others)

-- ## Chains.

leads_on : (d : Sectors) (rs : List Record) (es : List Ebr) → HasChain d rs es → (first : Option Lba) × IsLinked first es
leads_on d [] es is = (None, subst (IsLinked None) (sym is) refl)
leads_on d (r ∷ []) es is = (_, chain_linked_lem d (extent_of r) es is)
leads_on d (r ∷ s ∷ rs) es is = absurd is

body_leads_on : (b : ℕ) (d : Sectors) (y : Body) → BodyIs b d y → LeadsOn y
body_leads_on b d (Gpt t) is = tt
body_leads_on b d (Mbr rs es) is = leads_on d (extended_of rs) es is.1

pub denoted_in_order : (b : ℕ) (d : Sectors) (o : Layout) → Denotes b d (Some o) → InOrder o
unfolding places_of slices_of
denoted_in_order b d o is = record {
  labels = subst (λ (ns : List ℕ). AreLabelsAt ns o.labels) (numbers_of_slots b o.body)
      (at_slots d (length d) (slots b o.body) o.labels is.2);
  chain = body_leads_on b d o.body is.1;
}
