-- What edits of logical partitions keep.
use Rattle.std.specs.Prelude.{◌≡◌, ◌≢◌, ◌<◌, ◌≤◌, ◌⊎◌, ◌++◌, ◌∷◌, [], ℕ, zero, suc, Bool, true, false, List, length, slice_index_or}
use Rattle.std.specs.Prelude.{slice_set, Option, Some, None, Contains, nat_eq}
use Rattle.std.proofs.Common.{refl, sym, ap, subst, ◌∙◌, inl, inr, arith}
use Rattle.std.proofs.lemmas.Bool.{eqb-false, true≢false}
use Rattle.pt_sector.specs.Sectors.{Span}
use Rattle.pt_mbr.specs.Records.{IsExtendedKind, is_extended, extended_of, extent_of}
use Rattle.pt_mbr.specs.declared.record.Record.{Record}
use Rattle.pt_mbr.specs.declared.ebr.Ebr.{Ebr}
use Rattle.pt_sector.specs.declared.address.Lba.{Lba}
use Rattle.pt_mbr.specs.Chain.{lba}
use Rattle.pt_members.proofs.SliceLists.{logical_some, record_no, slices_mbr, primary_slices, logical_slice, logical_slices}
use Rattle.pt_members.proofs.SliceListsLemmas.{next_number}
use Rattle.pt_members.specs.Members.{slices_of, no_ebr, label_of}
use Rattle.pt_members.specs.declared.layout.Slice.{Slice}
use Rattle.pt_members.specs.declared.layout.Labelled.{Labelled}
use Rattle.pt_members.specs.declared.layout.Layout.{Layout}
use Rattle.pt_members.specs.declared.layout.Body.TheVariants.{Mbr}
use Rattle.pt_edit.specs.SliceLabels.{lowered}
use Rattle.pt_words.specs.declared.word.Code.{Code}
use Rattle.pt_words.specs.declared.word.Code.TheVariants.{Two, Four}
use Rattle.pt_edit.specs.Records.{record_type, is_container}
use Rattle.pt_edit.specs.Chains.{ebr_at}
use Rattle.pt_cases.specs.Writes.{FitsRecord, FitsLogical, Linked, FitsExtended, FitsMbr, AreLabelsOf, Shaped}
use Rattle.pt_cases.specs.Keeps.{IsOldLabel, IsNewLabel, IsRetyped, IsMadeLogical, Keeps}
use Rattle.pt_kept.proofs.Lists.{slices_by, contains_filter}
use Rattle.pt_kept.proofs.Entries.{is_not, is_not_false}
use Rattle.pt_kept.proofs.Chain.{primaries_below, renumbered, number_by, number_least, next_of, chain_same, chain_lowered, lower}
use Rattle.pt_kept.proofs.Chain.{slices_lowered, lowered_append, lowered_low}
use Rattle.pt_kept.proofs.Moved.{are_lowered, label_of_lowered}
use Rattle.pt_kept.proofs.Mbr.{mbr_of, WasLogical, keeps_mbr, body_fits, old_labels, same_slice, same_records, same_logical, any_default}
use Rattle.pt_kept.proofs.Mbr.{contains_set, contains_at, contains_map, fits_set, number_same}
use Rattle.pt_edit.proofs.RecordSteps.{LogicalDeleted, LogicalTyped}

-- a type that a code gives a record is none of an unused or of a protective one
pub type_plain : (code : Code) (kind : ℕ) → record_type code ≡ Some kind → (kind ≢ 0) × (kind ≢ 0xEE)
type_plain (Four n) kind is = absurd cc
type_plain (Two n) kind is = by_zero (nat_eq n 0) (nat_eq n 0xEE) refl refl where
  by_zero : (s t : Bool) → nat_eq n 0 ≡ s → nat_eq n 0xEE ≡ t → (kind ≢ 0) × (kind ≢ 0xEE)
  by_zero true t a b = let none : None ≡ Some kind = sym (rw a refl) ∙ is in absurd cc
  by_zero false true a b = let none : None ≡ Some kind = sym (rw (a, b) refl) ∙ is in absurd cc
  by_zero false false a b =
      let some : Some n ≡ Some kind = sym (rw (a, b) refl) ∙ is in
      let same : n ≡ kind = cc in
      (λ e. eqb-false n 0 a (same ∙ e), λ e. eqb-false n 0xEE b (same ∙ e))

-- no container's type is an extended one's, nor with sectors of 512 bytes a slice's
pub container_plain : (b kind : ℕ) → is_container b kind ≡ false → is_extended kind ≡ false
container_plain b kind is = by_case (is_extended kind) refl where
  by_case : (t : Bool) → is_extended kind ≡ t → is_extended kind ≡ false
  by_case true so = let both : true ≡ false = sym (rw so refl) ∙ is in absurd (true≢false both)
  by_case false so = so

pub container_leaf : (b kind : ℕ) → nat_eq b 512 ≡ true → is_container b kind ≡ false → nat_eq kind 0xA5 ≡ false
container_leaf b kind large is = by_case (is_extended kind) (nat_eq kind 0xA5) refl refl where
  by_case : (s t : Bool) → is_extended kind ≡ s → nat_eq kind 0xA5 ≡ t → nat_eq kind 0xA5 ≡ false
  by_case true t a c = let both : true ≡ false = sym (rw a refl) ∙ is in absurd (true≢false both)
  by_case false true a c = let both : true ≡ false = sym (rw (a, large, c) refl) ∙ is in absurd (true≢false both)
  by_case false false a c = c

pub not_extended : (kind : ℕ) → is_extended kind ≡ false → ¬ IsExtendedKind kind
not_extended kind none (inl is) = true≢false (sym (rw is refl) ∙ none)
not_extended kind none (inr is) = true≢false (sym (rw is refl) ∙ none)

leaf_slice : (m : ℕ) (e : Ebr) (r : Record) → e.logical ≡ Some r → nat_eq r.kind 0xA5 ≡ false → logical_slice m e ≡ []
leaf_slice m e r has leaf = logical_some m e r has ∙ record_no m e.at.0 r leaf

next_same : (m : ℕ) (e f : Ebr) (r q : Record) → e.logical ≡ Some r → f.logical ≡ Some q → next_number m e ≡ next_number m f
next_same m e f r q has also = next_of m e (Some r) has ∙ sym (next_of m f (Some q) also)

-- the extended boot record at a place, read with any default
pub read_at : (chain : List Ebr) (k : ℕ) (d : Ebr) → k < length chain → ebr_at chain k ≡ slice_index_or chain k d
read_at chain k d lt = any_default chain k no_ebr d lt

pub logical_of : (r : Record) (kind : ℕ) → FitsRecord r → kind ≢ 0 → kind ≢ 0xEE → FitsRecord (record r { kind = kind })
logical_of r kind fits some plain =
    record { typed = some; plain = plain; sized = fits.sized; start = fits.start; size = fits.size; boot = fits.boot }

-- what the chain's logical partitions are
pub linked_logical : (x : Span) (from : Option Lba) (chain : List Ebr) (k : ℕ) (d : Ebr) → k < length chain → Linked x from chain
    → FitsLogical (slice_index_or chain k d).logical
linked_logical x from [] k d lt is = absurd (omega (arith, lt))
linked_logical x None (e ∷ es) k d lt is = absurd is
linked_logical x (Some at) (e ∷ es) zero d lt is = is.3
linked_logical x (Some at) (e ∷ es) (suc k) d lt is = linked_logical x e.next es k d (omega (arith, lt)) is.4

chain_logical : (rs : List Record) (chain : List Ebr) (k : ℕ) (d : Ebr) → k < length chain → FitsExtended rs chain
    → FitsLogical (slice_index_or chain k d).logical
chain_logical [] chain k d lt is = let none : length chain ≡ 0 = ap length is in absurd (omega (arith, lt, none))
chain_logical (r ∷ []) chain k d lt is = linked_logical (extent_of r) (Some (lba (extent_of r).first)) chain k d lt is.linked
chain_logical (r ∷ s ∷ rs) chain k d lt is = absurd is

-- `t` of a logical partition
pub keeps_logical_typed : (b number : ℕ) (code : Code) (o : Layout) (rs : List (Option Record)) (chain made : List Ebr) → Shaped b o
    → o.body ≡ Mbr rs chain → LogicalTyped b number code chain made → Keeps b o.sectors (Some o) (mbr_of o rs made o.labels)
keeps_logical_typed b number code o rs chain made shaped is typed =
    subst (λ (c : List Ebr). Keeps b o.sectors (Some o) (mbr_of o rs c o.labels)) (sym typed.is)
    (keeps_mbr b o rs chain rs (slice_set chain k x) o.labels is (fits_set rs chain k x lt at next fits old)
    (subst (λ (l : List Slice). AreLabelsOf l o.labels) (sym slices) (old_labels b o rs chain shaped is))
    (λ s stands. same_slice b o rs chain s s (label_of o.labels s.number) is
    (subst (λ (l : List Slice). Contains l s) slices stands) refl refl refl)
    (same_records rs) logicals) where
      k : ℕ
      k = typed.place

      lt : k < length chain
      lt = typed.is_logical.within

      r : Record
      r = record typed.partition { kind = typed.kind }

      x : Ebr
      x = record (ebr_at chain k) { logical = Some r }

      old : FitsMbr rs chain
      old = body_fits b o rs chain shaped is

      at : (d : Ebr) → x.at ≡ (slice_index_or chain k d).at
      at d = ap (λ (e : Ebr). e.at) (read_at chain k d lt)

      next : (d : Ebr) → x.next ≡ (slice_index_or chain k d).next
      next d = ap (λ (e : Ebr). e.next) (read_at chain k d lt)

      was : FitsLogical (Some typed.partition)
      was = subst FitsLogical typed.is_logical.has (chain_logical (extended_of rs) chain k no_ebr lt old.extended)

      fits : FitsLogical x.logical
      fits =
          let plain = type_plain code typed.kind typed.known in
          (logical_of typed.partition typed.kind was.0 plain.0 plain.1, not_extended typed.kind (container_plain b typed.kind typed.new))

      slices_by_size : (c : Bool) → nat_eq b 512 ≡ c → slices_of b (Mbr rs (slice_set chain k x)) ≡ slices_of b (Mbr rs chain)
      slices_by_size true large =
          slices_mbr b rs (slice_set chain k x) true large
          ∙ (ap (λ (l : List Slice). primary_slices 1 rs ++ l)
          (chain_same 5 k x chain lt
          (λ m d. leaf_slice m x r refl (container_leaf b typed.kind large typed.new)
          ∙ sym (leaf_slice m (slice_index_or chain k d) typed.partition
          (ap (λ (e : Ebr). e.logical) (sym (read_at chain k d lt)) ∙ typed.is_logical.has)
          (container_leaf b typed.partition.kind large typed.old)))
          (λ m d. next_same m x (slice_index_or chain k d) r typed.partition refl
          (ap (λ (e : Ebr). e.logical) (sym (read_at chain k d lt)) ∙ typed.is_logical.has)))
          ∙ sym (slices_mbr b rs chain true large))
      slices_by_size false small = slices_mbr b rs (slice_set chain k x) false small ∙ sym (slices_mbr b rs chain false small)

      slices : slices_of b (Mbr rs (slice_set chain k x)) ≡ slices_of b (Mbr rs chain)
      slices = slices_by_size (nat_eq b 512) refl

      logicals : (e : Ebr) (q : Record) → Contains (slice_set chain k x) e → e.logical ≡ Some q → WasLogical chain e q ⊎ IsMadeLogical q
      logicals e q stands has = elim (contains_set chain k x e stands) [
        | inl here ↦ (
            let same : Some r ≡ Some q = ap (λ (y : Ebr). y.logical) here ∙ has in
            let one : r ≡ q = cc in
            inl (
              ebr_at chain k,
              typed.partition,
              contains_at chain k no_ebr lt,
              ap (λ (y : Ebr). y.at) here,
              typed.is_logical.has,
              subst (IsRetyped typed.partition) one refl,
            ))
        | inr there ↦ same_logical chain e q there has
      ]

-- the slices after the logical partition at a place went
lowered_slices : (b k number : ℕ) (rs : List (Option Record)) (chain : List Ebr) (x : Ebr) (r : Record) → length rs ≡ 4
    → k < length chain → ((d : Ebr) → (slice_index_or chain k d).logical ≡ Some r) → x.logical ≡ None → number_by 5 k chain ≡ number
    → slices_of b (Mbr rs (slice_set chain k x)) ≡ slices_lowered number (slices_of b (Mbr rs chain))
lowered_slices b k number rs chain x r four lt has none at = by_size (nat_eq b 512) refl where
  least : 5 ≤ number
  least = omega (arith, at, number_least 5 k chain)

  by_size : (c : Bool) → nat_eq b 512 ≡ c → slices_of b (Mbr rs (slice_set chain k x)) ≡ slices_lowered number (slices_of b (Mbr rs chain))
  by_size true large =
      slices_mbr b rs (slice_set chain k x) true large
      ∙ (ap (λ (l : List Slice). primary_slices 1 rs ++ l)
      (chain_lowered 5 k x r chain lt has none ∙ ap (λ (m : ℕ). slices_lowered m (logical_slices 5 chain)) at)
      ∙ sym (ap (slices_lowered number) (slices_mbr b rs chain true large)
      ∙ (lowered_append number (primary_slices 1 rs) (logical_slices 5 chain)
      ∙ ap (λ (l : List Slice). l ++ slices_lowered number (logical_slices 5 chain))
      (lowered_low number 5 (primary_slices 1 rs) least (primaries_below 1 5 rs (omega (arith, four)))))))
  by_size false small = slices_mbr b rs (slice_set chain k x) false small
      ∙ sym (ap (slices_lowered number) (slices_mbr b rs chain false small))

-- `d` of a logical partition
pub keeps_logical_deleted : (b number : ℕ) (o : Layout) (rs : List (Option Record)) (chain made : List Ebr) (left : List Labelled)
    → Shaped b o → o.body ≡ Mbr rs chain → LogicalDeleted number chain o.labels made left
    → Keeps b o.sectors (Some o) (mbr_of o rs made left)
keeps_logical_deleted b number o rs chain made left shaped is gone =
    subst (λ (c : List Ebr). Keeps b o.sectors (Some o) (mbr_of o rs c left)) (sym gone.is)
    (subst (λ (l : List Labelled). Keeps b o.sectors (Some o) (mbr_of o rs (slice_set chain k x) l)) (sym gone.moved)
    (keeps_mbr b o rs chain rs (slice_set chain k x) (lowered number o.labels) is
    (fits_set rs chain k x lt (λ d. ap (λ (e : Ebr). e.at) (read_at chain k d lt))
    (λ d. ap (λ (e : Ebr). e.next) (read_at chain k d lt)) tt old)
    (subst (λ (l : List Slice). AreLabelsOf l (lowered number o.labels)) (sym slices)
    (are_lowered number (slices_of b (Mbr rs chain)) o.labels (old_labels b o rs chain shaped is)))
    labels (same_records rs) logicals)) where
      k : ℕ
      k = gone.place

      lt : k < length chain
      lt = gone.is_logical.within

      x : Ebr
      x = record (ebr_at chain k) { logical = None }

      old : FitsMbr rs chain
      old = body_fits b o rs chain shaped is

      at : number_by 5 k chain ≡ number
      at = number_same 5 k chain (omega (arith, lt)) ∙ gone.is_logical.counted

      slices : slices_of b (Mbr rs (slice_set chain k x)) ≡ slices_lowered number (slices_of b (Mbr rs chain))
      slices = lowered_slices b k number rs chain x gone.partition old.four lt
          (λ d. ap (λ (e : Ebr). e.logical) (sym (read_at chain k d lt)) ∙ gone.is_logical.has) refl at

      labels : (s : Slice) → Contains (slices_of b (Mbr rs (slice_set chain k x))) s
          → IsOldLabel b (Some o) s (label_of (lowered number o.labels) s.number)
          ⊎ IsNewLabel s (label_of (lowered number o.labels) s.number)
      labels s stands =
          let m = contains_map (renumbered (lower number)) (slices_by (is_not number) (slices_of b (Mbr rs chain))) s
          (subst (λ (l : List Slice). Contains l s) slices stands) in
          let kept = contains_filter (λ (y : Slice). is_not number y.number) m.0 (slices_of b (Mbr rs chain)) m.1 in
          let other : m.0.number ≢ number = λ e. true≢false (sym kept.1 ∙ is_not_false number m.0.number e) in
          let label : label_of o.labels m.0.number ≡ label_of (lowered number o.labels) s.number =
          sym (label_of_lowered number m.0.number o.labels other) ∙ ap (λ (y : Slice). label_of (lowered number o.labels) y.number) m.2 in
          same_slice b o rs chain s m.0 (label_of (lowered number o.labels) s.number) is kept.0 (ap (λ (y : Slice). y.first) m.2)
          (ap (λ (y : Slice). y.len) m.2) label

      logicals : (e : Ebr) (q : Record) → Contains (slice_set chain k x) e → e.logical ≡ Some q → WasLogical chain e q ⊎ IsMadeLogical q
      logicals e q stands has = elim (contains_set chain k x e stands) [
        | inl here ↦ (let none : None ≡ Some q = ap (λ (y : Ebr). y.logical) here ∙ has in absurd cc)
        | inr there ↦ same_logical chain e q there has
      ]
