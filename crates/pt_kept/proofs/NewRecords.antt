-- What a new record of an MBR keeps.
use Rattle.std.specs.Prelude.{is_some}
use Rattle.std.specs.Prelude.{◌≡◌, ◌<◌, ◌≤◌, ◌⊎◌, ◌+◌, ◌-◌, ◌++◌, ◌∷◌, [], ℕ, zero, suc, Bool, true, false, List, length, slice_index_or}
use Rattle.std.specs.Prelude.{slice_set, slice_get, Option, Some, None, Contains, nat_eq}
use Rattle.std.proofs.Common.{refl, sym, ap, subst, ◌∙◌, inl, inr, arith, append_assoc}
use Rattle.std.proofs.lemmas.Bool.{and_from, both_ways, cases_lt, eqb-true, le-ltb, lt-ltb, true≢false}
use Rattle.std.proofs.lemmas.List.{length-set, append-nil, length-append}
use Rattle.std.proofs.lemmas.List.Elements.{filter-append}
use Rattle.pt_mbr.specs.Chain.{lba}
use Rattle.pt_mbr.specs.declared.record.Record.{Record}
use Rattle.pt_mbr.specs.declared.ebr.Ebr.{Ebr}
use Rattle.pt_bsd.specs.Labels.{empty_of}
use Rattle.pt_mbr.specs.Records.{is_extended, extended_of}
use Rattle.pt_members.specs.Members.{logicals_as, slice_from, slices_of, label_of}
use Rattle.pt_members.proofs.SliceListsLemmas.{next_number}
use Rattle.pt_members.proofs.SliceLists.{primary_some, record_yes, logical_slice, slices_mbr, primary_slice, primary_slices}
use Rattle.pt_members.proofs.SliceLists.{logical_slices}
use Rattle.pt_members.specs.declared.layout.Slice.{Slice}
use Rattle.pt_members.specs.declared.layout.Labelled.{Labelled}
use Rattle.pt_members.specs.declared.layout.Layout.{Layout}
use Rattle.pt_members.specs.declared.layout.Body.TheVariants.{Mbr}
use Rattle.pt_edit.specs.SliceLabels.{with_new_label}
use Rattle.pt_words.specs.declared.word.Code.{Code}
use Rattle.pt_words.specs.declared.word.End.{End}
use Rattle.pt_edit.proofs.Placing.{placed_is_free_lem}
use Rattle.pt_edit.specs.Records.{is_slice}
use Rattle.pt_edit.specs.Chains.{len_of}
use Rattle.pt_edit.specs.MbrEdits.{disk_area, extended_record, is_second, is_short_slice, new_chain, new_labels, record_at}
use Rattle.pt_cases.specs.Writes.{FitsRecord, FitsExtended, FitsMbr, AreLabelsOf, Shaped}
use Rattle.pt_cases.specs.Keeps.{IsMadeRecord, IsMadeLogical, Keeps}
use Rattle.pt_kept.proofs.Lists.{slices_by, are_entered, contains_cases}
use Rattle.pt_kept.proofs.Entries.{is_below, is_above, around, records_with, records_same}
use Rattle.pt_kept.proofs.Tables.{empty_fits, slice_len, entered_label}
use Rattle.pt_cases.proofs.Ascending.{logicals_ascend}
use Rattle.pt_kept.proofs.Chain.{ascending_kept, ascending_gone, emptied}
use Rattle.pt_kept.proofs.Mbr.{mbr_of, WasRecord, WasLogical, keeps_mbr, body_fits, old_labels, same_slice, same_logical}
use Rattle.pt_kept.proofs.NewLogicals.{new_plain}
use Rattle.pt_kept.proofs.Records.{extended_first, extended_same, extended_yes, extended_no, none_extended, extended_in, slots_set}
use Rattle.pt_kept.proofs.Records.{set_records, within_four, leaf_record, no_record_slice}
use Rattle.pt_edit.proofs.RecordSteps.{IsUnusedNumber, RecordMade}

-- the number of a new record is one of the four, and unused
-- higher slices stay behind
around_high : (k : ℕ) (new ss : List Slice) (es : List Ebr) → k < 5
    → around k new (ss ++ logical_slices 5 es) ≡ around k new ss ++ logical_slices 5 es
around_high k new ss es lt =
    let ts = logical_slices 5 es in
    let low : slices_by (is_below k) (ss ++ ts) ≡ slices_by (is_below k) ss =
    filter-append (λ (s : Slice). is_below k s.number) ss ts
    ∙ (ap (λ (l : List Slice). slices_by (is_below k) ss ++ l)
    (ascending_gone (is_below k) 5 ts (λ m le. le-ltb m k (omega (arith, le, lt))) (logicals_ascend 5 es))
    ∙ append-nil (slices_by (is_below k) ss)) in
    let high : slices_by (is_above k) (ss ++ ts) ≡ slices_by (is_above k) ss ++ ts =
    filter-append (λ (s : Slice). is_above k s.number) ss ts
    ∙ ap (λ (l : List Slice). slices_by (is_above k) ss ++ l)
    (ascending_kept (is_above k) 5 ts (λ m le. lt-ltb k m (omega (arith, le, lt))) (logicals_ascend 5 es)) in
    ap (λ (l : List Slice). l ++ (new ++ slices_by (is_above k) (ss ++ ts))) low
    ∙ (ap (λ (l : List Slice). slices_by (is_below k) ss ++ (new ++ l)) high
    ∙ (ap (λ (l : List Slice). slices_by (is_below k) ss ++ l) (sym (append_assoc new (slices_by (is_above k) ss) ts))
    ∙ sym (append_assoc (slices_by (is_below k) ss) (new ++ slices_by (is_above k) ss) ts)))

slice_record : (n : ℕ) (r : Record) → nat_eq r.kind 0xA5 ≡ true
    → primary_slice n (Some r) ≡ slice_from n (0 + r.start) (0 + r.start + r.size - 1) ∷ []
slice_record n r is = primary_some n r ∙ record_yes n 0 r is

-- no type is both an extended partition's and a slice's
other_type : (kind : ℕ) → is_extended kind ≡ true → nat_eq kind 0xA5 ≡ false
other_type kind is = by_slice (nat_eq kind 0xA5) refl where
  by_slice : (t : Bool) → nat_eq kind 0xA5 ≡ t → nat_eq kind 0xA5 ≡ false
  by_slice true so =
      let none : is_extended kind ≡ false = ap is_extended (eqb-true kind 0xA5 so) in
      absurd (true≢false (sym is ∙ none))
  by_slice false so = so

not_slice : (b kind : ℕ) → nat_eq kind 0xA5 ≡ false → is_slice b kind ≡ false
not_slice b kind other = by_size (nat_eq b 512) refl where
  by_size : (c : Bool) → nat_eq b 512 ≡ c → is_slice b kind ≡ false
  by_size true large = rw (large, other) refl
  by_size false small = rw small refl

small_sectors : (b kind : ℕ) → nat_eq b 512 ≡ false → is_slice b kind ≡ false
small_sectors b kind small = rw small refl

no_logicals : (e : Ebr) → e.logical ≡ None → logical_slices 5 (e ∷ []) ≡ logical_slices 5 []
unfolding logical_slices logical_slice logicals_as next_number
no_logicals e none = ap (λ (l : List Slice). l ++ []) (emptied 5 e none)

lone_empty : (e f : Ebr) (q : Record) → e.logical ≡ None → Contains (e ∷ []) f → f.logical ≡ Some q → ⊥
lone_empty e f q none stands has = elim (contains_cases e f [] stands) [
  | inl here ↦ (let both : None ≡ Some q = sym none ∙ (ap (λ (x : Ebr). x.logical) here ∙ has) in absurd cc)
  | inr later ↦ absurd (omega (arith, later.1))
]

no_items : (rs : List Record) → length rs ≡ 0 → rs ≡ []
no_items [] none = refl
no_items (r ∷ rs) none = absurd (omega (arith, none))

-- an extended record where there was none
extended_added : (rs : List (Option Record)) (k : ℕ) (r : Record) → k < length rs → slice_index_or rs k None ≡ None
    → is_extended r.kind ≡ true → extended_of rs ≡ [] → extended_of (slice_set rs k (Some r)) ≡ r ∷ []
extended_added [] k r lt none it lone = absurd (omega (arith, lt))
extended_added (x ∷ rs) zero r lt none it lone =
    let rest : extended_of rs ≡ [] = sym (ap (λ (o : Option Record). extended_of (o ∷ rs)) none
    ∙ (extended_first None rs ∙ ap (λ (l : List Record). l ++ extended_of rs) none_extended)) ∙ lone in
    extended_first (Some r) rs ∙ (ap (λ (l : List Record). l ++ extended_of rs) (extended_yes r it) ∙ ap (λ (l : List Record). r ∷ l) rest)
extended_added (x ∷ rs) (suc k) r lt none it lone =
    let both : length (extended_in x) + length (extended_of rs) ≡ 0 =
    sym (ap length (extended_first x rs) ∙ length-append (extended_in x) (extended_of rs)) ∙ ap length lone in
    let head : extended_in x ≡ [] = no_items (extended_in x) (omega (arith, both)) in
    let tail : extended_of rs ≡ [] = no_items (extended_of rs) (omega (arith, both)) in
    extended_first x (slice_set rs k (Some r)) ∙ (ap (λ (l : List Record). l ++ extended_of (slice_set rs k (Some r))) head
    ∙ extended_added rs k r (omega (arith, lt)) none it tail)

none_there : (rs : List Record) → slice_get rs 0 ≡ None → rs ≡ []
none_there [] is = refl
none_there (r ∷ rs) is = absurd cc

-- `n` of a record
pub keeps_record_new : (b asked alignment start : ℕ) (end : End) (code : Option Code) (o p : Layout) (rs : List (Option Record))
    (chain : List Ebr) → Shaped b o → o.body ≡ Mbr rs chain → RecordMade b asked alignment start end code o rs chain p
    → Keeps b o.sectors (Some o) p
keeps_record_new b asked alignment start end code o p rs chain shaped is new =
    subst (λ (q : Layout). Keeps b o.sectors (Some o) q) (sym new.made)
    (by_kind (is_extended kind) (nat_eq b 512) (nat_eq kind 0xA5) refl refl refl) where
      kind : ℕ
      kind = new.kind

      number : ℕ
      number = new.number

      k : ℕ
      k = number - 1

      r : Record
      r = record_at kind new.run

      made : List (Option Record)
      made = slice_set rs k (Some r)

      old : FitsMbr rs chain
      old = body_fits b o rs chain shaped is

      unused : IsUnusedNumber rs number
      unused = new.unused

      lt : k < length rs
      lt = within_four rs number old.four unused.primary

      at : 1 + k ≡ number
      at = omega (arith, unused.primary.0)

      first_low : 1 ≤ new.run.first
      first_low = let free = placed_is_free_lem (disk_area o.sectors rs) alignment start end new.run new.placed in
          (free.free new.run.first (omega arith, free.some)).0.0

      some : new.run.first ≤ new.run.last
      some = (placed_is_free_lem (disk_area o.sectors rs) alignment start end new.run new.placed).some

      last_high : new.run.last ≤ 4294967295
      last_high = let free = placed_is_free_lem (disk_area o.sectors rs) alignment start end new.run new.placed in
          let high = (free.free new.run.last (free.some, omega arith)).0.1 in omega (arith, high)

      good : FitsRecord r
      good =
          let plain = new_plain code kind new.known in
          record {
            typed = plain.0;
            plain = plain.1;
            sized = λ none. absurd (omega (arith, none, some));
            start = omega (arith, some, last_high);
            size = omega (arith, first_low, some, last_high);
            boot = inl refl;
          }

      is_made : (q : Record) → Some r ≡ Some q → IsMadeRecord q
      is_made q same = let one : r ≡ q = cc in subst IsMadeRecord one (record { boot = refl; start_chs = refl; end_chs = refl })

      records : (j : ℕ) (q : Record) → slice_index_or made j None ≡ Some q → WasRecord rs j q ⊎ IsMadeRecord q
      records = set_records rs k (Some r) lt (λ q same. inr (is_made q same))

      four : length made ≡ 4
      four = length-set rs k (Some r) ∙ old.four

      same_slices : (c : List Ebr) → logical_slices 5 c ≡ logical_slices 5 chain → primary_slices 1 made ≡ primary_slices 1 rs
          → slices_of b (Mbr made c) ≡ slices_of b (Mbr rs chain)
      same_slices c tail head = by_size (nat_eq b 512) refl where
        by_size : (t : Bool) → nat_eq b 512 ≡ t → slices_of b (Mbr made c) ≡ slices_of b (Mbr rs chain)
        by_size true large = slices_mbr b made c true large
            ∙ (ap (λ (l : List Slice). l ++ logical_slices 5 c) head
            ∙ (ap (λ (l : List Slice). primary_slices 1 rs ++ l) tail ∙ sym (slices_mbr b rs chain true large)))
        by_size false small = slices_mbr b made c false small ∙ sym (slices_mbr b rs chain false small)

      leaf : nat_eq kind 0xA5 ≡ false → primary_slices 1 made ≡ primary_slices 1 rs
      leaf other = records_same 1 k (Some r) rs lt (leaf_record (1 + k) r other
          ∙ sym (ap (primary_slice (1 + k)) unused.unused ∙ no_record_slice (1 + k)))

      plain_keeps : (c : List Ebr) → FitsMbr made c → slices_of b (Mbr made c) ≡ slices_of b (Mbr rs chain)
          → ((e : Ebr) (q : Record) → Contains c e → e.logical ≡ Some q → WasLogical chain e q ⊎ IsMadeLogical q)
          → Keeps b o.sectors (Some o) (mbr_of o made c o.labels)
      plain_keeps c fits slices logicals =
          keeps_mbr b o rs chain made c o.labels is fits
          (subst (λ (l : List Slice). AreLabelsOf l o.labels) (sym slices) (old_labels b o rs chain shaped is))
          (λ s stands. same_slice b o rs chain s s (label_of o.labels s.number) is
          (subst (λ (l : List Slice). Contains l s) slices stands) refl refl refl) records logicals

      Goal : Type 0
      Goal = Keeps b o.sectors (Some o) (mbr_of o made (new_chain kind new.run chain) (new_labels b number kind new.run o.labels))

      no_label : is_slice b kind ≡ false → new_labels b number kind new.run o.labels ≡ o.labels
      no_label none = rw none refl

      -- a new extended partition
      with_extended : is_extended kind ≡ true → Goal
      with_extended it =
          let first : Ebr = record { at = lba new.run.first; logical = None; next = None } in
          let plain : is_slice b kind ≡ false = not_slice b kind (other_type kind it) in
          let none : extended_of rs ≡ [] = none_there (extended_of rs) (no_second (extended_record rs) refl it) in
          let empty : chain ≡ [] = subst (λ (l : List Record). FitsExtended l chain) none old.extended in
          let lone : extended_of made ≡ r ∷ [] = extended_added rs k r lt unused.unused it none in
          let chain_is : new_chain kind new.run chain ≡ first ∷ [] = rw it refl in
          let fits : FitsMbr made (first ∷ []) = record {
            four = four;
            each = slots_set rs k (Some r) lt good old.each;
            extended = subst (λ (l : List Record). FitsExtended l (first ∷ [])) (sym lone)
                (record { few = omega arith; linked = (refl, (omega arith, omega (arith, some)), tt, tt, tt) });
          } in
          let slices = same_slices (first ∷ []) (no_logicals first refl ∙ ap (logical_slices 5) (sym empty)) (leaf (other_type kind it)) in
          subst (λ (c : List Ebr). Keeps b o.sectors (Some o) (mbr_of o made c (new_labels b number kind new.run o.labels))) (sym chain_is)
          (subst (λ (l : List Labelled). Keeps b o.sectors (Some o) (mbr_of o made (first ∷ []) l)) (sym (no_label plain))
          (plain_keeps (first ∷ []) fits slices (λ e q stands has. absurd (lone_empty first e q refl stands has)))) where
            no_second : (x : Option Record) → extended_record rs ≡ x → is_extended kind ≡ true → slice_get (extended_of rs) 0 ≡ None
            no_second None same it = same
            no_second (Some q) same it =
                absurd (both_ways (is_second rs kind) new.lone
                (and_from (is_extended kind) _ it (ap (λ (x : Option Record). is_some x) same)))

      -- any other
      fits_plain : is_extended kind ≡ false → FitsMbr made chain
      fits_plain other = record {
        four = four;
        each = slots_set rs k (Some r) lt good old.each;
        extended = subst (λ (l : List Record). FitsExtended l chain)
            (sym (extended_same rs k (Some r) lt (extended_no r other ∙ sym (ap extended_in unused.unused ∙ none_extended)))) old.extended;
      }

      without_label : is_extended kind ≡ false → is_slice b kind ≡ false → slices_of b (Mbr made chain) ≡ slices_of b (Mbr rs chain) → Goal
      without_label other plain slices =
          let chain_is : new_chain kind new.run chain ≡ chain = rw other refl in
          subst (λ (c : List Ebr). Keeps b o.sectors (Some o) (mbr_of o made c (new_labels b number kind new.run o.labels))) (sym chain_is)
          (subst (λ (l : List Labelled). Keeps b o.sectors (Some o) (mbr_of o made chain l)) (sym (no_label plain))
          (plain_keeps chain (fits_plain other) slices (same_logical chain)))

      -- a slice
      with_slice : is_extended kind ≡ false → nat_eq b 512 ≡ true → nat_eq kind 0xA5 ≡ true → (s : Slice)
          → s ≡ slice_from number (0 + new.run.first) (0 + new.run.first + len_of new.run - 1) → Goal
      with_slice other large a s s_is =
          let it : is_slice b kind ≡ true = rw (large, a) refl in
          let len : s.len ≡ len_of new.run =
          ap (λ (y : Slice). y.len) s_is ∙ (slice_len number (0 + new.run.first) (0 + new.run.first + len_of new.run - 1)
          (omega (arith, some)) (omega (arith, some, last_high)) ∙ omega (arith, some)) in
          let long : 2 ≤ s.len = elim (cases_lt (len_of new.run) 2)
          as (λ _. 2 ≤ s.len) [
            | inl short ↦ absurd (both_ways (is_short_slice b kind new.run) new.enough
                (and_from (is_slice b kind) _ it (lt-ltb _ 2 short)))
            | inr enough ↦ omega (arith, len, enough)
          ] in
          let chain_is : new_chain kind new.run chain ≡ chain = rw other refl in
          let labels : new_labels b number kind new.run o.labels ≡ with_new_label number (empty_of s.len) o.labels =
          rw it (ap (λ (n : ℕ). with_new_label number (empty_of n) o.labels) (sym len)) in
          let one : primary_slice number (Some r) ≡ s ∷ [] = slice_record number r a ∙ ap (λ (y : Slice). y ∷ []) (sym s_is) in
          let head : primary_slices 1 made ≡ around number (s ∷ []) (primary_slices 1 rs) =
          records_with 1 k (Some r) rs lt unused.unused
          ∙ (ap (λ (m : ℕ). around m (primary_slice m (Some r)) (primary_slices 1 rs)) at ∙ ap (λ (l : List Slice).
          around number l (primary_slices 1 rs)) one) in
          let slices : slices_of b (Mbr made chain) ≡ around number (s ∷ []) (slices_of b o.body) =
          slices_mbr b made chain true large ∙ (ap (λ (l : List Slice). l ++ logical_slices 5 chain) head
          ∙ (sym (around_high number (s ∷ []) (primary_slices 1 rs) chain (omega (arith, unused.primary.1)))
          ∙ ap (around number (s ∷ [])) (sym (slices_mbr b rs chain true large) ∙ ap (slices_of b) (sym is)))) in
          let at_number : s.number ≡ number = ap (λ (y : Slice). y.number) s_is in
          subst (λ (c : List Ebr). Keeps b o.sectors (Some o) (mbr_of o made c (new_labels b number kind new.run o.labels))) (sym chain_is)
          (subst (λ (l : List Labelled). Keeps b o.sectors (Some o) (mbr_of o made chain l)) (sym labels)
          (keeps_mbr b o rs chain made chain (with_new_label number (empty_of s.len) o.labels) is (fits_plain other)
          (subst (λ (l : List Slice). AreLabelsOf l (with_new_label number (empty_of s.len) o.labels)) (sym slices)
          (are_entered number s (empty_of s.len) (slices_of b o.body) o.labels at_number (empty_fits s long) shaped.labels))
          (λ x stands. entered_label b number o s x at_number (subst (λ (l : List Slice). Contains l x) slices stands)) records
          (same_logical chain)))

      by_kind : (x c a : Bool) → is_extended kind ≡ x → nat_eq b 512 ≡ c → nat_eq kind 0xA5 ≡ a → Goal
      by_kind true c a it size slice = with_extended it
      by_kind false true true other size slice = with_slice other size slice
          (slice_from number (0 + new.run.first) (0 + new.run.first + len_of new.run - 1)) refl
      by_kind false true false other size slice = without_label other (not_slice b kind slice) (same_slices chain refl (leaf slice))
      by_kind false false a other size slice =
          without_label other (small_sectors b kind size) (slices_mbr b made chain false size ∙ sym (slices_mbr b rs chain false size))
