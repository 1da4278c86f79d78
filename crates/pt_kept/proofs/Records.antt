-- What edits of an MBR's records keep.
use Rattle.std.specs.Prelude.{◌≡◌, ◌<◌, ◌≤◌, ◌⊎◌, ◌+◌, ◌-◌, ◌++◌, ◌∷◌, [], ℕ, zero, suc, Bool, true, false, List, length, slice_index_or}
use Rattle.std.specs.Prelude.{slice_set, Option, Some, None, Contains, nat_eq}
use Rattle.std.proofs.Common.{refl, sym, ap, subst, ◌∙◌, inl, arith}
use Rattle.std.proofs.lemmas.Bool.{eqb-true, eqb-false, lt-ltb, le-ltb}
use Rattle.std.proofs.lemmas.List.{length-set, get_or-set_same, get_or-set_other, length-append}
use Rattle.std.proofs.lemmas.List.Elements.{filter-append}
use Rattle.pt_mbr.specs.declared.record.Record.{Record}
use Rattle.pt_mbr.specs.declared.ebr.Ebr.{Ebr}
use Rattle.pt_mbr.specs.Records.{is_extended, extended_of}
use Rattle.pt_members.specs.Members.{logicals_as, slices_of, label_of}
use Rattle.pt_members.proofs.SliceLists.{primary_some, record_no, slices_mbr, primary_slice, primary_slices, logical_slices}
use Rattle.pt_members.specs.declared.layout.Slice.{Slice}
use Rattle.pt_members.specs.declared.layout.Layout.{Layout}
use Rattle.pt_members.specs.declared.layout.Body.TheVariants.{Mbr}
use Rattle.pt_edit.specs.SliceLabels.{without_label, without_logicals}
use Rattle.pt_words.specs.declared.word.Code.{Code}
use Rattle.pt_cases.specs.Writes.{FitsRecord, FitsSlot, FitsExtended, FitsMbr, AreLabelsOf, Shaped}
use Rattle.pt_cases.specs.Keeps.{IsRetyped, IsMadeRecord, Keeps}
use Rattle.pt_kept.proofs.Lists.{slices_by, are_filter, label_of_by, contains_filter}
use Rattle.pt_kept.proofs.Entries.{is_not, is_not_true, is_below, records_without, records_same}
use Rattle.pt_cases.proofs.Ascending.{logicals_ascend}
use Rattle.pt_kept.proofs.Chain.{ascending_kept, ascending_gone, by_below, primaries_below}
use Rattle.pt_kept.proofs.Mbr.{mbr_of, WasRecord, keeps_mbr, body_fits, old_labels, same_slice, same_records, same_logical}
use Rattle.pt_kept.proofs.Logicals.{type_plain, container_plain, container_leaf, logical_of}
use Rattle.pt_edit.proofs.RecordSteps.{IsPrimary, PrimaryDeleted, PrimaryTyped, extended, plain}

-- the extended records of one record
abbrev pub extended_in : Option Record → List Record
extended_in r = extended_of (r ∷ [])

pub extended_first : (r : Option Record) (rs : List (Option Record)) → extended_of (r ∷ rs) ≡ extended_in r ++ extended_of rs
unfolding extended_of
extended_first None rs = refl
extended_first (Some r) rs = by_type (is_extended r.kind) refl where
  by_type : (t : Bool) → is_extended r.kind ≡ t → extended_of (Some r ∷ rs) ≡ extended_in (Some r) ++ extended_of rs
  by_type true is = rw is refl
  by_type false is = rw is refl

pub extended_yes : (r : Record) → is_extended r.kind ≡ true → extended_in (Some r) ≡ r ∷ []
unfolding extended_of
extended_yes r is = rw is refl

pub extended_no : (r : Record) → is_extended r.kind ≡ false → extended_in (Some r) ≡ []
unfolding extended_of
extended_no r is = rw is refl

pub none_extended : extended_in None ≡ []
unfolding extended_of
none_extended = refl

-- a record that changes, and isn't extended before or after
pub extended_same : (rs : List (Option Record)) (k : ℕ) (x : Option Record) → k < length rs
    → extended_in x ≡ extended_in (slice_index_or rs k None) → extended_of (slice_set rs k x) ≡ extended_of rs
unfolding extended_of
extended_same [] k x lt same = absurd (omega (arith, lt))
extended_same (r ∷ rs) zero x lt same = extended_first x rs
    ∙ (ap (λ (l : List Record). l ++ extended_of rs) same ∙ sym (extended_first r rs))
extended_same (r ∷ rs) (suc k) x lt same =
    extended_first r (slice_set rs k x) ∙ (ap (λ (l : List Record). extended_in r ++ l) (extended_same rs k x (omega (arith, lt)) same)
    ∙ sym (extended_first r rs))

-- an extended one that goes
extended_less : (rs : List (Option Record)) (k : ℕ) (r : Record) → k < length rs → slice_index_or rs k None ≡ Some r
    → is_extended r.kind ≡ true → length (extended_of rs) ≡ length (extended_of (slice_set rs k None)) + 1
unfolding extended_of
extended_less [] k r lt has is = absurd (omega (arith, lt))
extended_less (x ∷ rs) zero r lt has is =
    let old : extended_of (x ∷ rs) ≡ r ∷ extended_of rs = ap (λ (o : Option Record). extended_of (o ∷ rs)) has
    ∙ (extended_first (Some r) rs ∙ ap (λ (l : List Record). l ++ extended_of rs) (extended_yes r is)) in
    omega (arith, ap length old)
extended_less (x ∷ rs) (suc k) r lt has is =
    let more = extended_less rs k r (omega (arith, lt)) has is in
    let a : length (extended_of (x ∷ rs)) ≡ length (extended_in x) + length (extended_of rs) = ap length (extended_first x rs)
    ∙ length-append (extended_in x) (extended_of rs) in
    let b : length (extended_of (x ∷ slice_set rs k None)) ≡ length (extended_in x) + length (extended_of (slice_set rs k None)) =
    ap length (extended_first x (slice_set rs k None)) ∙ length-append (extended_in x) (extended_of (slice_set rs k None)) in
    omega (arith, a, b, more)

at_most : (rs : List Record) (chain : List Ebr) → FitsExtended rs chain → length rs ≤ 1
at_most [] chain is = omega arith
at_most (r ∷ []) chain is = omega arith
at_most (r ∷ s ∷ rs) chain is = absurd is

no_chain : (rs : List Record) → length rs ≡ 0 → FitsExtended rs []
no_chain [] none = refl
no_chain (r ∷ rs) none = absurd (omega (arith, none))

-- each record fits where one changes and fits
pub slots_set : (rs : List (Option Record)) (k : ℕ) (x : Option Record) → k < length rs → FitsSlot x
    → ((j : ℕ) → j < 4 → FitsSlot (slice_index_or rs j None)) → (j : ℕ) → j < 4 → FitsSlot (slice_index_or (slice_set rs k x) j None)
slots_set rs k x within fits each j lt = by_place (nat_eq j k) refl where
  by_place : (t : Bool) → nat_eq j k ≡ t → FitsSlot (slice_index_or (slice_set rs k x) j None)
  by_place true so =
      subst (λ (i : ℕ). FitsSlot (slice_index_or (slice_set rs k x) i None)) (sym (eqb-true j k so))
      (subst FitsSlot (sym (get_or-set_same rs k x None within)) fits)
  by_place false so = subst FitsSlot (sym (get_or-set_other rs k j x None (eqb-false j k so))) (each j lt)

-- a record of the changed ones
pub set_records : (rs : List (Option Record)) (k : ℕ) (x : Option Record) → k < length rs
    → ((r : Record) → x ≡ Some r → WasRecord rs k r ⊎ IsMadeRecord r) → (j : ℕ) (r : Record)
    → slice_index_or (slice_set rs k x) j None ≡ Some r → WasRecord rs j r ⊎ IsMadeRecord r
set_records rs k x within new j r is = by_place (nat_eq j k) refl where
  by_place : (t : Bool) → nat_eq j k ≡ t → WasRecord rs j r ⊎ IsMadeRecord r
  by_place true so =
      let same : k ≡ j = sym (eqb-true j k so) in
      let found : x ≡ Some r = sym (get_or-set_same rs k x None within)
      ∙ (ap (λ (i : ℕ). slice_index_or (slice_set rs k x) i None) same ∙ is) in
      subst (λ (i : ℕ). WasRecord rs i r ⊎ IsMadeRecord r) same (new r found)
  by_place false so = same_records rs j r (sym (get_or-set_other rs k j x None (eqb-false j k so)) ∙ is)

pub leaf_record : (n : ℕ) (r : Record) → nat_eq r.kind 0xA5 ≡ false → primary_slice n (Some r) ≡ []
leaf_record n r is = primary_some n r ∙ record_no n 0 r is

pub no_record_slice : (n : ℕ) → primary_slice n None ≡ []
unfolding primary_slice
no_record_slice n = refl

pub within_four : (rs : List (Option Record)) (number : ℕ) → length rs ≡ 4 → IsPrimary number → number - 1 < length rs
within_four rs number four is = omega (arith, four, is.0, is.1)

-- `t` of a record
pub keeps_record_typed : (b number : ℕ) (code : Code) (o : Layout) (rs new : List (Option Record)) (chain : List Ebr) → Shaped b o
    → o.body ≡ Mbr rs chain → PrimaryTyped b number code rs new → Keeps b o.sectors (Some o) (mbr_of o new chain o.labels)
keeps_record_typed b number code o rs new chain shaped is typed =
    subst (λ (l : List (Option Record)). Keeps b o.sectors (Some o) (mbr_of o l chain o.labels)) (sym typed.made)
    (keeps_mbr b o rs chain (slice_set rs k (Some r)) chain o.labels is fits
    (subst (λ (l : List Slice). AreLabelsOf l o.labels) (sym slices) (old_labels b o rs chain shaped is))
    (λ s stands. same_slice b o rs chain s s (label_of o.labels s.number) is (subst (λ (l : List Slice). Contains l s) slices stands) refl
    refl refl)
    (set_records rs k (Some r) lt (λ q found. (let same : r ≡ q = cc in
    inl (typed.found, typed.is_record.used, subst (IsRetyped typed.found) same refl)))) (same_logical chain)) where
      k : ℕ
      k = number - 1

      old : FitsMbr rs chain
      old = body_fits b o rs chain shaped is

      lt : k < length rs
      lt = within_four rs number old.four typed.is_record.primary

      r : Record
      r = record typed.found { kind = typed.kind }

      was : FitsRecord typed.found
      was = subst FitsSlot typed.is_record.used (old.each k (omega (arith, lt, old.four)))

      good : FitsRecord r
      good = let p = type_plain code typed.kind typed.known in logical_of typed.found typed.kind was p.0 p.1

      same_extended : extended_of (slice_set rs k (Some r)) ≡ extended_of rs
      same_extended =
          extended_same rs k (Some r) lt
          (extended_no r (container_plain b typed.kind typed.stays)
          ∙ sym (ap extended_in typed.is_record.used ∙ extended_no typed.found (container_plain b typed.found.kind typed.plain)))

      fits : FitsMbr (slice_set rs k (Some r)) chain
      fits = record {
        four = length-set rs k (Some r) ∙ old.four;
        each = slots_set rs k (Some r) lt good old.each;
        extended = subst (λ (l : List Record). FitsExtended l chain) (sym same_extended) old.extended;
      }

      by_size : (c : Bool) → nat_eq b 512 ≡ c → slices_of b (Mbr (slice_set rs k (Some r)) chain) ≡ slices_of b (Mbr rs chain)
      by_size true large =
          slices_mbr b (slice_set rs k (Some r)) chain true large
          ∙ (ap (λ (l : List Slice). l ++ logical_slices 5 chain)
          (records_same 1 k (Some r) rs lt
          (leaf_record (1 + k) r (container_leaf b typed.kind large typed.stays)
          ∙ sym (ap (primary_slice (1 + k)) typed.is_record.used
          ∙ leaf_record (1 + k) typed.found (container_leaf b typed.found.kind large typed.plain))))
          ∙ sym (slices_mbr b rs chain true large))
      by_size false small = slices_mbr b (slice_set rs k (Some r)) chain false small ∙ sym (slices_mbr b rs chain false small)

      slices : slices_of b (Mbr (slice_set rs k (Some r)) chain) ≡ slices_of b (Mbr rs chain)
      slices = by_size (nat_eq b 512) refl

-- the slices where a record goes
gone_slices : (b number : ℕ) (rs : List (Option Record)) (chain : List Ebr) → length rs ≡ 4 → IsPrimary number
    → slices_of b (Mbr (slice_set rs (number - 1) None) chain) ≡ slices_by (is_not number) (slices_of b (Mbr rs chain))
gone_slices b number rs chain four primary = by_size (nat_eq b 512) refl where
  at : 1 + (number - 1) ≡ number
  at = omega (arith, primary.0)

  kept : slices_by (is_not number) (logical_slices 5 chain) ≡ logical_slices 5 chain
  kept = ascending_kept (is_not number) 5 (logical_slices 5 chain) (λ m le. is_not_true number m (omega (arith, le, primary.1)))
      (logicals_ascend 5 chain)

  by_size : (c : Bool) → nat_eq b 512 ≡ c → slices_of b (Mbr (slice_set rs (number - 1) None) chain) ≡ slices_by (is_not number)
      (slices_of b (Mbr rs chain))
  by_size true large =
      slices_mbr b (slice_set rs (number - 1) None) chain true large
      ∙ (ap (λ (l : List Slice). l ++ logical_slices 5 chain)
      (records_without 1 (number - 1) rs (within_four rs number four primary)
      ∙ ap (λ (m : ℕ). slices_by (is_not m) (primary_slices 1 rs)) at)
      ∙ sym (ap (slices_by (is_not number)) (slices_mbr b rs chain true large)
      ∙ (filter-append (λ (s : Slice). is_not number s.number) (primary_slices 1 rs) (logical_slices 5 chain)
      ∙ ap (λ (l : List Slice). slices_by (is_not number) (primary_slices 1 rs) ++ l) kept)))
  by_size false small = slices_mbr b (slice_set rs (number - 1) None) chain false small
      ∙ sym (ap (slices_by (is_not number)) (slices_mbr b rs chain false small))

-- and of an MBR without a chain
chainless : (b : ℕ) (rs : List (Option Record)) (chain : List Ebr) → length rs ≡ 4
    → slices_of b (Mbr rs []) ≡ slices_by (is_below 5) (slices_of b (Mbr rs chain))
unfolding logical_slices logicals_as
chainless b rs chain four = by_size (nat_eq b 512) refl where
  kept : slices_by (is_below 5) (primary_slices 1 rs) ≡ primary_slices 1 rs
  kept = by_below (is_below 5) 5 (primary_slices 1 rs) (λ m lt. lt-ltb m 5 lt) (primaries_below 1 5 rs (omega (arith, four)))

  gone : slices_by (is_below 5) (logical_slices 5 chain) ≡ []
  gone = ascending_gone (is_below 5) 5 (logical_slices 5 chain) (λ m le. le-ltb m 5 le) (logicals_ascend 5 chain)

  by_size : (c : Bool) → nat_eq b 512 ≡ c → slices_of b (Mbr rs []) ≡ slices_by (is_below 5) (slices_of b (Mbr rs chain))
  by_size true large =
      slices_mbr b rs [] true large
      ∙ sym (ap (slices_by (is_below 5)) (slices_mbr b rs chain true large)
      ∙ (filter-append (λ (s : Slice). is_below 5 s.number) (primary_slices 1 rs) (logical_slices 5 chain)
      ∙ (ap (λ (l : List Slice). l ++ slices_by (is_below 5) (logical_slices 5 chain)) kept
      ∙ ap (λ (l : List Slice). primary_slices 1 rs ++ l) gone)))
  by_size false small = slices_mbr b rs [] false small ∙ sym (ap (slices_by (is_below 5)) (slices_mbr b rs chain false small))

-- `d` of a record
pub keeps_record_deleted : (b number : ℕ) (o p : Layout) (rs : List (Option Record)) (chain : List Ebr) → Shaped b o
    → o.body ≡ Mbr rs chain → PrimaryDeleted number o rs chain p → Keeps b o.sectors (Some o) p
keeps_record_deleted b number o p rs chain shaped is (plain r has other made) =
    subst (λ (q : Layout). Keeps b o.sectors (Some o) q) (sym made)
    (keeps_mbr b o rs chain (slice_set rs (number - 1) None) chain (without_label number o.labels) is
    (record {
      four = length-set rs (number - 1) None ∙ old.four;
      each = slots_set rs (number - 1) None lt tt old.each;
      extended = subst (λ (l : List Record). FitsExtended l chain)
          (sym (extended_same rs (number - 1) None lt (none_extended ∙ sym (ap extended_in has.used ∙ extended_no r other)))) old.extended;
    })
    (subst (λ (l : List Slice). AreLabelsOf l (without_label number o.labels)) (sym slices)
    (are_filter (is_not number) (slices_of b (Mbr rs chain)) o.labels (old_labels b o rs chain shaped is)))
    (λ s stands. (
    let kept = contains_filter (λ (x : Slice). is_not number x.number) s (slices_of b (Mbr rs chain))
    (subst (λ (l : List Slice). Contains l s) slices stands) in
    same_slice b o rs chain s s (label_of (without_label number o.labels) s.number) is kept.0 refl refl
    (sym (label_of_by (is_not number) s.number o.labels kept.1))))
    (set_records rs (number - 1) None lt (λ q found. absurd cc)) (same_logical chain)) where
      old : FitsMbr rs chain
      old = body_fits b o rs chain shaped is

      lt : number - 1 < length rs
      lt = within_four rs number old.four has.primary

      slices : slices_of b (Mbr (slice_set rs (number - 1) None) chain) ≡ slices_by (is_not number) (slices_of b (Mbr rs chain))
      slices = gone_slices b number rs chain old.four has.primary
keeps_record_deleted b number o p rs chain shaped is (extended r has it made) =
    subst (λ (q : Layout). Keeps b o.sectors (Some o) q) (sym made)
    (keeps_mbr b o rs chain (slice_set rs (number - 1) None) [] (without_logicals (without_label number o.labels)) is
    (record {
      four = four;
      each = slots_set rs (number - 1) None lt tt old.each;
      extended =
          no_chain (extended_of (slice_set rs (number - 1) None))
          (omega (arith, extended_less rs (number - 1) r lt has.used it, at_most (extended_of rs) chain old.extended));
    })
    (subst (λ (l : List Slice). AreLabelsOf l (without_logicals (without_label number o.labels))) (sym slices)
    (are_filter (is_below 5) (slices_by (is_not number) all) (without_label number o.labels)
    (are_filter (is_not number) all o.labels (old_labels b o rs chain shaped is))))
    (λ s stands. (
    let low = contains_filter (λ (x : Slice). is_below 5 x.number) s (slices_by (is_not number) all)
    (subst (λ (l : List Slice). Contains l s) slices stands) in
    let kept = contains_filter (λ (x : Slice). is_not number x.number) s all low.0 in
    same_slice b o rs chain s s (label_of (without_logicals (without_label number o.labels)) s.number) is kept.0 refl refl
    (sym (label_of_by (is_below 5) s.number (without_label number o.labels) low.1 ∙ label_of_by (is_not number) s.number o.labels kept.1))))
    (set_records rs (number - 1) None lt (λ q found. absurd cc)) (λ e q stands logical. absurd (omega (arith, stands.1)))) where
      all : List Slice
      all = slices_of b (Mbr rs chain)

      old : FitsMbr rs chain
      old = body_fits b o rs chain shaped is

      lt : number - 1 < length rs
      lt = within_four rs number old.four has.primary

      four : length (slice_set rs (number - 1) None) ≡ 4
      four = length-set rs (number - 1) None ∙ old.four

      slices : slices_of b (Mbr (slice_set rs (number - 1) None) []) ≡ slices_by (is_below 5) (slices_by (is_not number) all)
      slices = chainless b (slice_set rs (number - 1) None) chain four
          ∙ ap (slices_by (is_below 5)) (gone_slices b number rs chain old.four has.primary)
