-- What a new logical partition keeps.
use Rattle.std.specs.Prelude.{◌≡◌, ◌≢◌, ◌<◌, ◌≤◌, ◌⊎◌, ◌+◌, ◌-◌, ◌^◌, ◌++◌, ◌∷◌, [], ℕ, zero, suc, Bool, true, false, List, flat_map}
use Rattle.std.specs.Prelude.{length, slice_index_or, slice_set, slice_get, Option, Some, None, Contains, nat_eq}
use Rattle.std.specs.List.{insert}
use Rattle.std.proofs.Common.{refl, sym, ap, subst, ◌∙◌, inl, inr, arith}
use Rattle.std.proofs.lemmas.Bool.{cases_lt, ne_eqb}
use Rattle.std.proofs.lemmas.List.{length-set}
use Rattle.std.proofs.lemmas.List.Edits.{length-insert}
use Rattle.pt_sector.specs.declared.address.Lba.{Lba}
use Rattle.pt_mbr.specs.Chain.{lba}
use Rattle.pt_mbr.specs.declared.record.Record.{Record}
use Rattle.pt_mbr.specs.declared.ebr.Ebr.{Ebr}
use Rattle.pt_bsd.specs.Labels.{empty_of}
use Rattle.pt_mbr.specs.Records.{extended_of, extent_of}
use Rattle.pt_members.proofs.SliceLists.{logical_none, logical_some, record_yes, record_no, slices_mbr, record_slice, primary_slices}
use Rattle.pt_members.proofs.SliceLists.{logical_slice, logical_slices}
use Rattle.pt_members.specs.Members.{slice_from, slices_of, no_ebr, label_of}
use Rattle.pt_members.proofs.SliceListsLemmas.{next_number}
use Rattle.pt_members.specs.declared.layout.Slice.{Slice}
use Rattle.pt_members.specs.declared.layout.Labelled.{Labelled}
use Rattle.pt_members.specs.declared.layout.Layout.{Layout}
use Rattle.pt_members.specs.declared.layout.Body.{Body}
use Rattle.pt_members.specs.declared.layout.Body.TheVariants.{Mbr}
use Rattle.pt_edit.specs.SliceLabels.{raised, with_new_label}
use Rattle.pt_words.specs.declared.word.Code.{Code}
use Rattle.pt_words.specs.declared.word.End.{End}
use Rattle.pt_edit.specs.declared.space.Run.{Run}
use Rattle.pt_edit.specs.Space.{IsInRuns}
use Rattle.pt_edit.proofs.Placing.{placed_is_free_lem}
use Rattle.pt_edit.specs.Records.{new_type, is_slice}
use Rattle.pt_edit.specs.Chains.{ebr_at, number_at, with_logical, with_ebr, logical_area}
use Rattle.pt_edit.specs.Chains.{len_of, record_for, labels_with, empty_sector, taken_of}
use Rattle.pt_cases.specs.Writes.{FitsLogical, FitsChain, FitsExtended, FitsMbr, AreLabelsOf, Shaped, NumbersAscend}
use Rattle.pt_cases.specs.Keeps.{IsOldLabel, IsNewLabel, IsMadeLogical, Keeps}
use Rattle.pt_cases.proofs.Terms.{same_but_parts_refl}
use Rattle.pt_kept.proofs.Lists.{slices_by, are_entered, label_of_new, label_of_old, contains_cases, contains_filter}
use Rattle.pt_kept.proofs.Entries.{is_below, is_above, around}
use Rattle.pt_kept.proofs.Tables.{contains_append, empty_fits, slice_len}
use Rattle.pt_cases.proofs.Ascending.{slices_ascend_lem}
use Rattle.pt_kept.proofs.Chain.{AreBelow, below_append, below_more, primaries_below, logicals_below, renumbered, number_by, number_least}
use Rattle.pt_kept.proofs.Chain.{chain_same, next_of}
use Rattle.pt_kept.proofs.Raised.{greatest, raise, slices_raised, raised_low, chain_filled, chain_inserted}
use Rattle.pt_kept.proofs.Moved.{are_raised, label_of_raised, raise_free, raised_ascend, raised_free, split_at}
use Rattle.pt_kept.proofs.Mbr.{mbr_of, WasLogical, keeps_mbr, body_fits, old_labels, same_slice, same_records, same_logical, contains_set}
use Rattle.pt_kept.proofs.Mbr.{contains_at, contains_map, fits_set, number_same}
use Rattle.pt_kept.proofs.Logicals.{type_plain, not_extended, read_at}
use Rattle.pt_edit.proofs.LinkLaws.{not_own}
use Rattle.pt_kept.proofs.Entering.{linked_enter, first_at, contains_insert, empty_listed, extended_fits, chain_of, refit_one}
use Rattle.pt_edit.proofs.RecordSteps.{Entered, IsEmptyAt, IsMisfit, IsPlaceFor, LogicalNew, NewKind, added, reused}

-- the type of a new record is none of an unused or of a protective one
pub new_plain : (code : Option Code) (kind : ℕ) → new_type code ≡ Some kind → (kind ≢ 0) × (kind ≢ 0xEE)
new_plain None kind is = let same : 0x83 ≡ kind = cc in (λ e. absurd (omega (arith, same, e)), λ e. absurd (omega (arith, same, e)))
new_plain (Some code) kind is = type_plain code kind is

-- numbers of a chain of 128 and of four records
abbrev top : ℕ
top = 5 + 128

old_below : (b : ℕ) (rs : List (Option Record)) (chain : List Ebr) → length rs ≡ 4 → length chain ≤ 128 → (c : Bool)
    → nat_eq b 512 ≡ c → AreBelow top (slices_of b (Mbr rs chain))
old_below b rs chain four few true large =
    subst (AreBelow top) (sym (slices_mbr b rs chain true large))
    (below_append top (primary_slices 1 rs) (logical_slices 5 chain) (primaries_below 1 top rs (omega (arith, four)))
    (logicals_below 5 top chain (omega (arith, few))))
old_below b rs chain four few false small = subst (AreBelow top) (sym (slices_mbr b rs chain false small)) tt

-- the labels where slices move up and perhaps one is new
abbrev pub IsKept : ℕ → Layout → List Labelled → Slice → Type 0
IsKept b o ls s = IsOldLabel b (Some o) s (label_of ls s.number) ⊎ IsNewLabel s (label_of ls s.number)

raised_label : (b number : ℕ) (o : Layout) (rs : List (Option Record)) (chain : List Ebr) (ls : List Labelled) (x : Slice)
    → o.body ≡ Mbr rs chain → AreBelow top (slices_of b (Mbr rs chain)) → AreLabelsOf (slices_of b (Mbr rs chain)) o.labels
    → Contains (slices_raised number (slices_of b (Mbr rs chain))) x
    → ((m : ℕ) → m ≢ number → label_of ls m ≡ label_of (raised number o.labels) m) → IsKept b o ls x
raised_label b number o rs chain ls x is below are stands same =
    let old = slices_of b (Mbr rs chain) in
    let m = contains_map (renumbered (raise number)) old x stands in
    let small : m.0.number < greatest = small_number top old m.0 below m.1 (omega arith) in
    let moved : raise number m.0.number ≡ x.number = ap (λ (y : Slice). y.number) m.2 in
    let free : x.number ≢ number = λ e. raise_free number m.0.number small (cases_lt m.0.number number) (moved ∙ e) in
    let label : label_of o.labels m.0.number ≡ label_of ls x.number =
    sym (label_of_raised number m.0.number old o.labels (below_more top greatest old (omega arith) below) are small)
    ∙ (ap (label_of (raised number o.labels)) moved ∙ sym (same x.number free)) in
    same_slice b o rs chain x m.0 (label_of ls x.number) is m.1 (ap (λ (y : Slice). y.first) m.2) (ap (λ (y : Slice). y.len) m.2)
    label where
      small_number : (top : ℕ) (ss : List Slice) (s : Slice) → AreBelow top ss → Contains ss s → top ≤ greatest → s.number < greatest
      small_number top [] s below is le = absurd (omega (arith, is.1))
      small_number top (t ∷ ss) s below is le = elim (contains_cases t s ss is) [
        | inl here ↦ (let n = ap (λ (y : Slice). y.number) here in omega (arith, n, below.0, le))
        | inr later ↦ small_number top ss s below.1 later le
      ]

-- no slice is new
kept_plain : (b number : ℕ) (o : Layout) (rs : List (Option Record)) (chain : List Ebr) → Shaped b o → o.body ≡ Mbr rs chain
    → length chain ≤ 128
    → AreLabelsOf (around number [] (slices_raised number (slices_of b (Mbr rs chain)))) (raised number o.labels)
    × ((x : Slice) → Contains (around number [] (slices_raised number (slices_of b (Mbr rs chain)))) x
    → IsKept b o (raised number o.labels) x)
kept_plain b number o rs chain shaped is few =
    let old = slices_of b (Mbr rs chain) in
    let fits = body_fits b o rs chain shaped is in
    let below = old_below b rs chain fits.four few (nat_eq b 512) refl in
    let order : NumbersAscend 1 old = subst (λ (y : Body). NumbersAscend 1 (slices_of b y)) is (slices_ascend_lem b o shaped) in
    let up = raised_ascend number 1 old (omega arith) (below_more top (greatest - 1) old (omega arith) below) order in
    let all : around number [] (slices_raised number old) ≡ slices_raised number old =
    split_at number (raise number 1) (slices_raised number old) up
    (raised_free number old (below_more top greatest old (omega arith) below)) in
    let are = old_labels b o rs chain shaped is in (
      subst (λ (l : List Slice). AreLabelsOf l (raised number o.labels)) (sym all) (are_raised number old o.labels are),
      λ x stands. raised_label b number o rs chain (raised number o.labels) x is below are
          (subst (λ (l : List Slice). Contains l x) all stands) (λ m other. refl),
    )

-- one is
kept_slice : (b number : ℕ) (o : Layout) (rs : List (Option Record)) (chain : List Ebr) (s : Slice) → Shaped b o
    → o.body ≡ Mbr rs chain → length chain ≤ 128 → s.number ≡ number → 2 ≤ s.len
    → AreLabelsOf (around number (s ∷ []) (slices_raised number (slices_of b (Mbr rs chain))))
    (with_new_label number (empty_of s.len) (raised number o.labels))
    × ((x : Slice) → Contains (around number (s ∷ []) (slices_raised number (slices_of b (Mbr rs chain)))) x
    → IsKept b o (with_new_label number (empty_of s.len) (raised number o.labels)) x)
kept_slice b number o rs chain s shaped is few at long = (
  are_entered number s (empty_of s.len) moved (raised number o.labels) at (empty_fits s long)
      (are_raised number old o.labels are),
  labels,
) where
  old : List Slice
  old = slices_of b (Mbr rs chain)

  moved : List Slice
  moved = slices_raised number old

  are : AreLabelsOf old o.labels
  are = old_labels b o rs chain shaped is

  below : AreBelow top old
  below = old_below b rs chain (body_fits b o rs chain shaped is).four few (nat_eq b 512) refl

  ls : List Labelled
  ls = with_new_label number (empty_of s.len) (raised number o.labels)

  from_old : (f : ℕ → Bool) (x : Slice) → Contains (slices_by f moved) x → IsKept b o ls x
  from_old f x stands =
      raised_label b number o rs chain ls x is below are (contains_filter (λ (y : Slice). f y.number) x moved stands).0
      (λ m other. label_of_old number m (empty_of s.len) (raised number o.labels) other)

  from_new : (x : Slice) → s ≡ x → IsKept b o ls x
  from_new x same =
      let number_of : number ≡ x.number = sym at ∙ ap (λ (y : Slice). y.number) same in
      let has : Some (empty_of x.len) ≡ label_of ls x.number =
      ap (λ (y : Slice). Some (empty_of y.len)) (sym same)
      ∙ (sym (label_of_new number (empty_of s.len) (raised number o.labels)) ∙ ap (label_of ls) number_of) in
      inr (subst (IsNewLabel x) has (same_but_parts_refl (empty_of x.len)))

  labels : (x : Slice) → Contains (around number (s ∷ []) moved) x → IsKept b o ls x
  labels x stands = elim (contains_append x (slices_by (is_below number) moved) ((s ∷ []) ++ slices_by (is_above number) moved)
      stands) [
        | inl low ↦ from_old (is_below number) x low
        | inr later ↦ elim (contains_cases s x (slices_by (is_above number) moved) later)
            [ inl here ↦ from_new x here | inr high ↦ from_old (is_above number) x high ]
      ]

-- the slices of an MBR whose chain has one more logical partition
grown : (b number : ℕ) (rs : List (Option Record)) (chain made : List Ebr) (x : Ebr) → length rs ≡ 4 → 5 ≤ number → nat_eq b 512 ≡ true
    → logical_slices 5 made ≡ around number (logical_slice number x) (slices_raised number (logical_slices 5 chain))
    → slices_of b (Mbr rs made) ≡ around number (logical_slice number x) (slices_raised number (slices_of b (Mbr rs chain)))
grown b number rs chain made x four least large same =
    slices_mbr b rs made true large
    ∙ (ap (λ (l : List Slice). primary_slices 1 rs ++ l) same
    ∙ sym (ap (λ (l : List Slice). around number (logical_slice number x) (slices_raised number l)) (slices_mbr b rs chain true large)
    ∙ raised_low number 5 (logical_slice number x) (primary_slices 1 rs) (logical_slices 5 chain) least
    (primaries_below 1 5 rs (omega (arith, four)))))

slice_one : (number : ℕ) (x : Ebr) (r : Record) → x.logical ≡ Some r → nat_eq r.kind 0xA5 ≡ true
    → logical_slice number x ≡ slice_from number (x.at.0 + r.start) (x.at.0 + r.start + r.size - 1) ∷ []
slice_one number x r has kind = logical_some number x r has ∙ record_yes number x.at.0 r kind

slice_none : (number : ℕ) (x : Ebr) (r : Record) → x.logical ≡ Some r → nat_eq r.kind 0xA5 ≡ false → logical_slice number x ≡ []
slice_none number x r has kind = logical_some number x r has ∙ record_no number x.at.0 r kind

-- what a chain with one more logical partition is
record Grown (b number kind len s : ℕ) (rs : List (Option Record)) (chain made : List Ebr) : Type 0 where
  ebr : Ebr
  has : ebr.logical ≡ Some (record_for kind len)
  at : ebr.at.0 ≡ s
  least : 5 ≤ number
  slices : logical_slices 5 made ≡ around number (logical_slice number ebr) (slices_raised number (logical_slices 5 chain))
  fits : FitsMbr rs made
  logicals : (e : Ebr) (q : Record) → Contains made e → e.logical ≡ Some q → WasLogical chain e q ⊎ IsMadeLogical q

made_logical : (kind len : ℕ) → IsMadeLogical (record_for kind len)
made_logical kind len = record { made = record { boot = refl; start_chs = refl; end_chs = refl }; next = refl }

finish : (b number kind len s : ℕ) (o : Layout) (rs : List (Option Record)) (chain made : List Ebr) → Shaped b o
    → o.body ≡ Mbr rs chain → length chain ≤ 128 → 1 ≤ len → s + len < 2 ^ 63 → ¬ IsMisfit b kind len
    → Grown b number kind len s rs chain made
    → Keeps b o.sectors (Some o) (mbr_of o rs made (labels_with b kind len number o.labels))
finish b number kind len s o rs chain made shaped is few some small fit g = by_kind (nat_eq b 512) (nat_eq kind 0xA5) refl refl where
  four : length rs ≡ 4
  four = (body_fits b o rs chain shaped is).four

  old : List Slice
  old = slices_of b (Mbr rs chain)

  by_list : (new : List Slice) (ls : List Labelled) → slices_of b (Mbr rs made) ≡ around number new (slices_raised number old)
      → labels_with b kind len number o.labels ≡ ls
      → (AreLabelsOf (around number new (slices_raised number old)) ls
      × ((x : Slice) → Contains (around number new (slices_raised number old)) x → IsKept b o ls x))
      → Keeps b o.sectors (Some o) (mbr_of o rs made (labels_with b kind len number o.labels))
  by_list new ls slices labels kept =
      subst (λ (l : List Labelled). Keeps b o.sectors (Some o) (mbr_of o rs made l)) (sym labels)
      (keeps_mbr b o rs chain rs made ls is g.fits (subst (λ (l : List Slice). AreLabelsOf l ls) (sym slices) kept.0)
      (λ x stands. kept.1 x (subst (λ (l : List Slice). Contains l x) slices stands)) (same_records rs) g.logicals)

  new_slice : nat_eq b 512 ≡ true → nat_eq kind 0xA5 ≡ true → (t : Slice)
      → t ≡ slice_from number (g.ebr.at.0 + 1) (g.ebr.at.0 + 1 + len - 1)
      → Keeps b o.sectors (Some o) (mbr_of o rs made (labels_with b kind len number o.labels))
  new_slice large a t t_is =
      let slice : is_slice b kind ≡ true = rw (large, a) refl in
      let first : t.len ≡ len =
      ap (λ (y : Slice). y.len) t_is
      ∙ (slice_len number (g.ebr.at.0 + 1) (g.ebr.at.0 + 1 + len - 1) (omega (arith, some)) (omega (arith, small, g.at, some))
      ∙ omega (arith, some)) in
      let long : 2 ≤ t.len = elim (cases_lt len 2) as (λ _. 2 ≤ t.len)
      [ inl short ↦ absurd (fit (record { slice = slice; sectors = inl short })) | inr enough ↦ omega (arith, first, enough) ] in
      let one : logical_slice number g.ebr ≡ t ∷ [] = slice_one number g.ebr (record_for kind len) g.has a
      ∙ ap (λ (y : Slice). y ∷ []) (sym t_is) in
      let labels : labels_with b kind len number o.labels ≡ with_new_label number (empty_of t.len) (raised number o.labels) =
      rw slice (ap (λ (n : ℕ). with_new_label number (empty_of n) (raised number o.labels)) (sym first)) in
      by_list (t ∷ []) (with_new_label number (empty_of t.len) (raised number o.labels))
      (grown b number rs chain made g.ebr four g.least large g.slices
      ∙ ap (λ (l : List Slice). around number l (slices_raised number old)) one) labels
      (kept_slice b number o rs chain t shaped is few (ap (λ (y : Slice). y.number) t_is) long)

  by_kind : (c a : Bool) → nat_eq b 512 ≡ c → nat_eq kind 0xA5 ≡ a
      → Keeps b o.sectors (Some o) (mbr_of o rs made (labels_with b kind len number o.labels))
  by_kind true true large a = new_slice large a (slice_from number (g.ebr.at.0 + 1) (g.ebr.at.0 + 1 + len - 1)) refl
  by_kind true false large a =
      let labels : labels_with b kind len number o.labels ≡ raised number o.labels = rw (large, a) refl in
      by_list [] (raised number o.labels)
      (grown b number rs chain made g.ebr four g.least large g.slices
      ∙ ap (λ (l : List Slice). around number l (slices_raised number old))
      (slice_none number g.ebr (record_for kind len) g.has a)) labels
      (kept_plain b number o rs chain shaped is few)
  by_kind false a small_sectors kind_is =
      let labels : labels_with b kind len number o.labels ≡ raised number o.labels = rw small_sectors refl in
      by_list [] (raised number o.labels)
      (slices_mbr b rs made false small_sectors ∙ sym (ap (λ (l : List Slice). around number [] (slices_raised number l))
      (slices_mbr b rs chain false small_sectors))) labels
      (kept_plain b number o rs chain shaped is few)

slice_by_logical : (m : ℕ) (e f : Ebr) → e.logical ≡ f.logical → e.at.0 ≡ f.at.0 → logical_slice m e ≡ logical_slice m f
slice_by_logical m e f same at = by_one e.logical refl where
  by_one : (o : Option Record) → e.logical ≡ o → logical_slice m e ≡ logical_slice m f
  by_one None is = let also : f.logical ≡ None = sym same ∙ is in logical_none m e is ∙ sym (logical_none m f also)
  by_one (Some r) is =
      let also : f.logical ≡ Some r = sym same ∙ is in
      logical_some m e r is ∙ (ap (λ (n : ℕ). record_slice m n r) at ∙ sym (logical_some m f r also))

next_by_logical : (m : ℕ) (e f : Ebr) → e.logical ≡ f.logical → next_number m e ≡ next_number m f
next_by_logical m e f same = next_of m e f.logical same ∙ sym (next_of m f f.logical refl)

-- numbers are the same where an extended boot record links elsewhere
number_joined : (n j : ℕ) (y : Ebr) (chain : List Ebr) → j < length chain
    → ((m : ℕ) (d : Ebr) → next_number m y ≡ next_number m (slice_index_or chain j d))
    → number_by n (suc j) (slice_set chain j y) ≡ number_by n (suc j) chain
number_joined n j y [] lt same = absurd (omega (arith, lt))
number_joined n zero y (c ∷ cs) lt same = same n c
number_joined n (suc j) y (c ∷ cs) lt same = number_joined (next_number n c) j y cs (omega (arith, lt)) same

-- an empty extended boot record gets the partition
filled : (b number kind len s k : ℕ) (rs : List (Option Record)) (chain : List Ebr) → FitsMbr rs chain → length chain ≤ 128
    → IsEmptyAt chain s k → number ≡ number_at chain k → FitsLogical (Some (record_for kind len))
    → Grown b number kind len s rs chain (with_logical chain k (Some (record_for kind len)))
filled b number kind len s k rs chain fits few empty at good =
    let x : Ebr = record (ebr_at chain k) { logical = Some (record_for kind len) } in
    let count : number_by 5 k chain ≡ number = number_same 5 k chain (omega (arith, empty.within)) ∙ sym at in
    record {
      ebr = x;
      has = refl;
      at = empty.here.at;
      least = omega (arith, count, number_least 5 k chain);
      slices = subst (λ (m : ℕ). logical_slices 5 (slice_set chain k x) ≡ around m (logical_slice m x)
          (slices_raised m (logical_slices 5 chain))) count
          (chain_filled 5 k x (record_for kind len) chain empty.within (omega (arith, few))
          (λ d. ap (λ (e : Ebr). e.logical) (sym (read_at chain k d empty.within)) ∙ empty.here.unused) refl);
      fits = fits_set rs chain k x empty.within (λ d. ap (λ (e : Ebr). e.at) (read_at chain k d empty.within))
          (λ d. ap (λ (e : Ebr). e.next) (read_at chain k d empty.within)) good fits;
      logicals = λ e q stands has. elim (contains_set chain k x e stands) [
        | inl here ↦ (let same : Some (record_for kind len) ≡ Some q = ap (λ (y : Ebr). y.logical) here ∙ has in
            let one : record_for kind len ≡ q = cc in inr (subst IsMadeLogical one (made_logical kind len)))
        | inr there ↦ same_logical chain e q there has
      ];
    }

-- one more behind another, as a list
entered_is : (chain : List Ebr) (j s : ℕ) (r : Record)
    → with_ebr chain (suc j) s r ≡ insert (slice_set chain j (record (ebr_at chain j) { next = Some (lba s) })) (suc j)
    (record { at = lba s; logical = Some r; next = (ebr_at chain j).next })
entered_is chain j s r =
    let behind : nat_eq (suc j) 0 ≡ false = ne_eqb (suc j) 0 (omega arith) in
    let place : suc j - 1 ≡ j = omega arith in
    rw (behind, place) refl

-- or a new one, behind another
entered : (b number kind len s j : ℕ) (rs : List (Option Record)) (p : Record) (chain : List Ebr) → FitsMbr rs chain
    → slice_get (extended_of rs) 0 ≡ Some p → length chain < 128 → j < length chain → number ≡ number_at chain (suc j)
    → p.start ≤ s → s ≤ p.start + p.size - 1 → (ebr_at chain j).at.0 < s → (suc j < length chain → s < (ebr_at chain (suc j)).at.0)
    → FitsLogical (Some (record_for kind len))
    → Grown b number kind len s rs chain (insert (slice_set chain j (record (ebr_at chain j) { next = Some (lba s) })) (suc j)
    (record { at = lba s; logical = Some (record_for kind len); next = (ebr_at chain j).next }))
entered b number kind len s j rs p chain fits is few lt at low high below above good =
    let x : Ebr = record { at = lba s; logical = Some (record_for kind len); next = (ebr_at chain j).next } in
    let y : Ebr = record (ebr_at chain j) { next = Some (lba s) } in
    let joined : List Ebr = slice_set chain j y in
    let size : length joined ≡ length chain = length-set chain j y in
    let same : logical_slices 5 joined ≡ logical_slices 5 chain =
    chain_same 5 j y chain lt (λ m d. slice_by_logical m y (slice_index_or chain j d)
    (ap (λ (e : Ebr). e.logical) (read_at chain j d lt)) (ap (λ (e : Ebr). e.at.0) (read_at chain j d lt)))
    (λ m d. next_by_logical m y (slice_index_or chain j d) (ap (λ (e : Ebr). e.logical) (read_at chain j d lt))) in
    let numbers : number_by 5 (suc j) joined ≡ number =
    number_joined 5 j y chain lt (λ m d. next_by_logical m y (slice_index_or chain j d)
    (ap (λ (e : Ebr). e.logical) (read_at chain j d lt)))
    ∙ (number_same 5 (suc j) chain (omega (arith, lt)) ∙ sym at) in
    let insertion = chain_inserted 5 (suc j) x (record_for kind len) joined (omega (arith, lt, size)) (omega (arith, few, size)) refl in
    let old = chain_of (extended_of rs) p chain is fits.extended in
    let total : length (insert joined (suc j) x) ≡ length joined + 1 = length-insert joined (suc j) x (omega (arith, lt, size)) in
    record {
      ebr = x;
      has = refl;
      at = refl;
      least = omega (arith, numbers, number_least 5 (suc j) joined);
      slices = subst (λ (l : List Slice). logical_slices 5 (insert joined (suc j) x) ≡ around number (logical_slice number x)
          (slices_raised number l)) same
          (subst (λ (m : ℕ). logical_slices 5 (insert joined (suc j) x) ≡ around m (logical_slice m x)
          (slices_raised m (logical_slices 5 joined))) numbers insertion);
      fits = record {
        four = fits.four;
        each = fits.each;
        extended = refit_one (extended_of rs) p chain (insert joined (suc j) x) is fits.extended
            (record {
              few = omega (arith, total, size, few);
              linked =
                  linked_enter (extent_of p) (Some (lba (extent_of p).first)) chain j s x lt refl refl (low, high) below above good
                  old.linked;
            });
      };
      logicals = λ e q stands has. elim (contains_insert joined (suc j) x e stands) [
        | inl here ↦ (let one : Some (record_for kind len) ≡ Some q = ap (λ (y : Ebr). y.logical) here ∙ has in
            let same : record_for kind len ≡ q = cc in inr (subst IsMadeLogical same (made_logical kind len)))
        | inr there ↦ elim (contains_set chain j y e there) [
          | inl changed ↦ inl (
            ebr_at chain j,
            q,
            contains_at chain j no_ebr lt,
            ap (λ (z : Ebr). z.at) changed,
            ap (λ (z : Ebr). z.logical) changed ∙ has,
            refl,
          )
          | inr stays ↦ same_logical chain e q stays has
        ]
      ];
    }

-- a run of free sectors has some, behind one for its record
run_len : (r : Run) → r.first ≤ r.last → 1 ≤ len_of r
run_len r le = omega (arith, le)

-- the record of a new logical partition fits
record_good : (code : Option Code) (kind len : ℕ) → NewKind code kind → 1 ≤ len → len < 2 ^ 32 → FitsLogical (Some (record_for kind len))
record_good code kind len typed some small =
    let plain = new_plain code kind typed.known in (
      record {
        typed = plain.0;
        plain = plain.1;
        sized = λ none. absurd (omega (arith, none, some));
        start = omega arith;
        size =
            small;
        boot = inl refl;
      },
      not_extended kind typed.plain,
    )

-- where a new extended boot record comes in, another stands below it
behind_one : (p : Record) (chain : List Ebr) (s k : ℕ) → FitsChain (extent_of p) chain → p.start ≤ s
    → ¬ IsInRuns (taken_of chain) s → IsPlaceFor chain s k → 1 ≤ k
behind_one p chain s k fits low free place = elim (cases_lt 0 k) as (λ _. 1 ≤ k) [
  | inl some ↦ some
  | inr none ↦ (
      let first = first_at (extent_of p) chain fits in
      let zero_is : k ≡ 0 = omega (arith, none) in
      let at_place : s ≤ (ebr_at chain k).at.0 = place.behind (omega (arith, first.0, zero_is)) in
      let here : (ebr_at chain k).at.0 ≡ p.start = ap (λ (n : ℕ). (ebr_at chain n).at.0) zero_is ∙ ap (λ (a : Lba). a.0) first.1 in
      let other = not_own chain s k (omega (arith, first.0, zero_is)) free in
      absurd (omega (arith, at_place, here, low, other)))
]

-- the entered chain
grown_of : (b number kind len s : ℕ) (rs : List (Option Record)) (p : Record) (chain made : List Ebr) → FitsMbr rs chain
    → slice_get (extended_of rs) 0 ≡ Some p → length chain ≤ 128 → p.start ≤ s → s ≤ p.start + p.size - 1
    → (¬ IsInRuns (taken_of chain) s) ⊎ Contains (flat_map empty_sector chain) s → FitsLogical (Some (record_for kind len))
    → Entered chain s (record_for kind len) number made → Grown b number kind len s rs chain made
grown_of b number kind len s rs p chain made fits is few low high free good (reused k empty at so) =
    subst (Grown b number kind len s rs chain) (sym so) (filled b number kind len s k rs chain fits few empty at good)
grown_of b number kind len s rs p chain made fits is few low high (inr listed) good (added k none less place at so) =
    let m = empty_listed chain s listed in
    absurd (none m.0 m.1 m.2)
grown_of b number kind len s rs p chain made fits is few low high (inl free) good (added zero none less place at so) =
    absurd (omega (arith, behind_one p chain s 0 (chain_of (extended_of rs) p chain is fits.extended) low free place))
grown_of b number kind len s rs p chain made fits is few low high (inl free) good (added (suc j) none less place at so) =
    let lt : j < length chain = omega (arith, place.within) in
    let above : suc j < length chain → s < (ebr_at chain (suc j)).at.0 = λ more. (
    let le = place.behind more in
    let other = not_own chain s (suc j) more free in
    omega (arith, le, other)) in
    subst (Grown b number kind len s rs chain) (sym (so ∙ entered_is chain j s (record_for kind len)))
    (entered b number kind len s j rs p chain fits is less lt at low high (place.before j (omega arith)) above good)

few_of : (rs : List Record) (p : Record) (chain : List Ebr) → slice_get rs 0 ≡ Some p → FitsExtended rs chain → length chain ≤ 128
few_of rs p chain is fits = (chain_of rs p chain is fits).few

-- `n` of a logical partition
pub keeps_logical_new : (b alignment start : ℕ) (end : End) (code : Option Code) (o : Layout) (rs : List (Option Record))
    (chain made : List Ebr) (left : List Labelled) → Shaped b o → o.body ≡ Mbr rs chain
    → LogicalNew b (slice_get (extended_of rs) 0) chain o.labels alignment start end code made left
    → Keeps b o.sectors (Some o) (mbr_of o rs made left)
keeps_logical_new b alignment start end code o rs chain made left shaped is new =
    let p = new.parent in
    let fits = body_fits b o rs chain shaped is in
    let free = placed_is_free_lem (logical_area p chain) alignment start end new.place new.placed in
    let s = free.leads.0 in
    let behind : s + 1 ≡ new.place.first = free.leads.1 in
    let at : new.place.first - 1 ≡ s = omega (arith, behind) in
    let usable = free.leads.2.0 in
    let last = free.free new.place.last (free.some, omega arith) in
    let parent = extended_fits rs p (λ k lt. fits.each k (omega (arith, lt, fits.four))) new.is_parent in
    let few = few_of (extended_of rs) p chain new.is_parent fits.extended in
    let len = len_of new.place in
    let some : 1 ≤ len = run_len new.place free.some in
    let end_at : s + len ≤ p.start + p.size - 1 = omega (arith, behind, free.some, last.0.1) in
    let small : len < 2 ^ 32 = omega (arith, end_at, usable.0, parent.size, some) in
    let entered_at = subst (λ (n : ℕ). Entered chain n (record_for new.kind len) new.number made) at new.entered in
    let good = record_good code new.kind len new.typed some small in
    subst (λ (l : List Labelled). Keeps b o.sectors (Some o) (mbr_of o rs made l)) (sym new.moved)
    (finish b new.number new.kind len s o rs chain made shaped is few some (omega (arith, end_at, parent.start, parent.size)) new.fits
    (grown_of b new.number new.kind len s rs p chain made fits new.is_parent few usable.0 usable.1 free.leads.2.1 good entered_at))
