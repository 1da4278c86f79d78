-- What edits of a GPT's table keep.
use Rattle.std.specs.Prelude.{◌≡◌, ◌≢◌, ◌<◌, ◌≤◌, ◌⊎◌, ◌+◌, ◌-◌, ◌++◌, ◌∷◌, [], ℕ, Bool, true, false, List, length, slice_index_or}
use Rattle.std.specs.Prelude.{slice_set, ◌^◌, Option, Some, None, IfSome, Contains, if◌then◌else◌, nat_eq, ◌&&◌}
use Rattle.std.proofs.Common.{refl, sym, ap, subst, ◌∙◌, inl, inr, arith}
use Rattle.std.proofs.lemmas.Bool.{eqb-true, eqb-false, ltb-true, lt-ltb, le-leb, true≢false}
use Rattle.pt_bsd.proofs.Terms.{empty_counted}
use Rattle.std.proofs.lemmas.List.{length-set, get_or-set_same, get_or-set_other}
use Rattle.pt_gpt.specs.Copies.{AllTyped}
use Rattle.pt_gpt.specs.Entries.{IsTyped}
use Rattle.pt_gpt.specs.declared.entry.Entry.{Entry}
use Rattle.pt_gpt.specs.declared.table.Table.{Table}
use Rattle.pt_mbr.specs.declared.record.Record.{Record}
use Rattle.pt_mbr.specs.declared.ebr.Ebr.{Ebr}
use Rattle.pt_bsd.specs.Labels.{empty_of}
use Rattle.pt_members.proofs.SliceLists.{entry_some, slices_gpt, entry_slice, entry_slices}
use Rattle.pt_members.specs.Members.{is_slice_kind, slice_from, slices_of, label_of}
use Rattle.pt_members.specs.declared.layout.Slice.{Slice}
use Rattle.pt_members.specs.declared.layout.Labelled.{Labelled}
use Rattle.pt_members.specs.declared.layout.Layout.{Layout}
use Rattle.pt_members.specs.declared.layout.Body.{Body}
use Rattle.pt_members.specs.declared.layout.Body.TheVariants.{Gpt}
use Rattle.pt_edit.specs.SliceLabels.{without_label, with_new_label}
use Rattle.pt_cases.specs.Writes.{FitsTable, FitsBody, FitsLabel, AreLabelsOf, Shaped}
use Rattle.pt_cases.specs.Keeps.{LabelStays, IsOldLabel, IsNewLabel, Keeps}
use Rattle.pt_cases.proofs.Terms.{same_but_parts_refl, label_stays_refl_lem}
use Rattle.pt_kept.proofs.Lists.{slices_by, contains_later, are_filter, are_entered, label_of_by, label_of_new, label_of_old}
use Rattle.pt_kept.proofs.Lists.{contains_filter, contains_cases}
use Rattle.pt_kept.proofs.Entries.{is_not, is_not_false, is_below, is_above, around, slices_without, slices_with, slices_same}

-- a table with other entries
abbrev pub with_entries : Table → List (Option Entry) → Table
with_entries t es = record t { entries = es }

-- the entries of a table with another at a number
abbrev pub entries_with : Table → ℕ → Option Entry → Table
entries_with t number x = with_entries t (slice_set t.entries (number - 1) x)

-- each used entry has a type where one of them changes and has one
pub typed_set : (es : List (Option Entry)) (k : ℕ) (x : Option Entry) → k < length es → IfSome x IsTyped → AllTyped es
    → AllTyped (slice_set es k x)
typed_set es k x within typed all j lt = by_place (nat_eq j k) refl where
  by_place : (t : Bool) → nat_eq j k ≡ t → IfSome (slice_index_or (slice_set es k x) j None) IsTyped
  by_place true so =
      let same : k ≡ j = sym (eqb-true j k so) in
      subst (λ (i : ℕ). IfSome (slice_index_or (slice_set es k x) i None) IsTyped) same
      (subst (λ (o : Option Entry). IfSome o IsTyped) (sym (get_or-set_same es k x None within)) typed)
  by_place false so =
      subst (λ (o : Option Entry). IfSome o IsTyped) (sym (get_or-set_other es k j x None (eqb-false j k so)))
      (all j (omega (arith, lt, length-set es k x)))

-- a table fits where one of its entries changes
pub fits_set : (b n number : ℕ) (t : Table) (x : Option Entry) → 1 ≤ number → number ≤ length t.entries → IfSome x IsTyped
    → FitsTable b n t → FitsTable b n (entries_with t number x)
fits_set b n number t x first last typed fits =
    let same : length (slice_set t.entries (number - 1) x) ≡ length t.entries = length-set t.entries (number - 1) x in
    record {
      room = fits.room;
      some = omega (arith, same, fits.some);
      most = omega (arith, same, fits.most);
      low = fits.low;
      order = fits.order;
      high = fits.high;
      typed = typed_set t.entries (number - 1) x (omega (arith, first, last)) typed fits.typed;
    }

pub no_record : (k : ℕ) (r : Record) → slice_index_or [] k None ≡ Some r → ⊥
no_record k r is = absurd cc

pub no_ebr : (e : Ebr) → Contains [] e → ⊥
no_ebr e (k, lt, is) = absurd (omega (arith, lt))

-- a layout with a GPT keeps of another what its labels do
pub keeps_gpt : (b : ℕ) (o : Layout) (t : Table) (ls : List Labelled) → FitsTable b o.sectors t → AreLabelsOf (slices_of b (Gpt t)) ls
    → ((s : Slice) → Contains (slices_of b (Gpt t)) s → IsOldLabel b (Some o) s (label_of ls s.number)
    ⊎ IsNewLabel s (label_of ls s.number))
    → Keeps b o.sectors (Some o) (record { sectors = o.sectors; body = Gpt t; labels = ls })
keeps_gpt b o t ls fits are labels = record {
  sectors = refl;
  shaped = record { body = fits; labels = are };
  mbr = λ m. absurd m;
  labels = labels;
  records = λ k r is. absurd (no_record k r is);
  logicals = λ e r is has. absurd (no_ebr e is);
}

-- where the slices of a table are those of another
pub slices_as : (b : ℕ) (t u : Table) → entry_slices 1 u.entries ≡ entry_slices 1 t.entries → slices_of b (Gpt u) ≡ slices_of b (Gpt t)
slices_as b t u same =
    slices_gpt b u (nat_eq b 512) refl ∙ ap (λ (l : List Slice). if nat_eq b 512 then l else []) same
    ∙ sym (slices_gpt b t (nat_eq b 512) refl)

unchanged : (b : ℕ) (o : Layout) (t u : Table) → Shaped b o → o.body ≡ Gpt t → FitsTable b o.sectors u
    → slices_of b (Gpt u) ≡ slices_of b (Gpt t)
    → Keeps b o.sectors (Some o) (record { sectors = o.sectors; body = Gpt u; labels = o.labels })
unchanged b o t u shaped is fits same =
    let places : slices_of b (Gpt u) ≡ slices_of b o.body = same ∙ ap (slices_of b) (sym is) in
    keeps_gpt b o u o.labels fits (subst (λ (l : List Slice). AreLabelsOf l o.labels) (sym places) shaped.labels)
    (λ s stands. inl (
      s,
      record { stands = subst (λ (l : List Slice). Contains l s) places stands; first = refl; len = refl },
      label_stays_refl_lem (label_of o.labels s.number),
    ))

-- a table with other numbers of its own, and the same entries
pub keeps_table : (b : ℕ) (o : Layout) (t u : Table) → Shaped b o → o.body ≡ Gpt t → FitsTable b o.sectors u → u.entries ≡ t.entries
    → Keeps b o.sectors (Some o) (record { sectors = o.sectors; body = Gpt u; labels = o.labels })
keeps_table b o t u shaped is fits same = unchanged b o t u shaped is fits (slices_as b t u (ap (entry_slices 1) same))

pub table_fits : (b : ℕ) (o : Layout) (t : Table) → Shaped b o → o.body ≡ Gpt t → FitsTable b o.sectors t
table_fits b o t shaped is = subst (λ (y : Body). FitsBody b o.sectors y) is shaped.body

-- an entry with the same slice, or none as before
pub keeps_entry : (b number : ℕ) (o : Layout) (t : Table) (x : Option Entry) → Shaped b o → o.body ≡ Gpt t → 1 ≤ number
    → number ≤ length t.entries → IfSome x IsTyped
    → entry_slice number x ≡ entry_slice number (slice_index_or t.entries (number - 1) None)
    → Keeps b o.sectors (Some o) (record { sectors = o.sectors; body = Gpt (entries_with t number x); labels = o.labels })
keeps_entry b number o t x shaped is first last typed same =
    let at : number ≡ 1 + (number - 1) = omega (arith, first) in
    let slices = slices_same 1 (number - 1) x t.entries (omega (arith, first, last))
    (subst (λ (i : ℕ). entry_slice i x ≡ entry_slice i (slice_index_or t.entries (number - 1) None)) at same) in
    unchanged b o t (entries_with t number x) shaped is
    (fits_set b o.sectors number t x first last typed (table_fits b o t shaped is)) (slices_as b t (entries_with t number x) slices)

-- the slices of fewer numbers
pub slices_fewer : (b : ℕ) (f : ℕ → Bool) (t u : Table) → entry_slices 1 u.entries ≡ slices_by f (entry_slices 1 t.entries)
    → slices_of b (Gpt u) ≡ slices_by f (slices_of b (Gpt t))
slices_fewer b f t u same = by_size (nat_eq b 512) refl where
  by_size : (c : Bool) → nat_eq b 512 ≡ c → slices_of b (Gpt u) ≡ slices_by f (slices_of b (Gpt t))
  by_size true is = slices_gpt b u true is ∙ (same ∙ ap (slices_by f) (sym (slices_gpt b t true is)))
  by_size false is = slices_gpt b u false is ∙ ap (slices_by f) (sym (slices_gpt b t false is))

-- an entry goes, with the label of its number
pub keeps_without : (b number : ℕ) (o : Layout) (t : Table) → Shaped b o → o.body ≡ Gpt t → 1 ≤ number → number ≤ length t.entries
    → Keeps b o.sectors (Some o) (record {
      sectors = o.sectors;
      body = Gpt (entries_with t number None);
      labels =
          without_label number o.labels;
    })
keeps_without b number o t shaped is first last =
    let u = entries_with t number None in
    let f = is_not number in
    let at : 1 + (number - 1) ≡ number = omega (arith, first) in
    let slices : entry_slices 1 u.entries ≡ slices_by f (entry_slices 1 t.entries) =
    slices_without 1 (number - 1) t.entries (omega (arith, first, last))
    ∙ ap (λ (k : ℕ). slices_by (is_not k) (entry_slices 1 t.entries)) at in
    let places : slices_of b (Gpt u) ≡ slices_by f (slices_of b o.body) = slices_fewer b f t u slices
    ∙ ap (λ (y : Body). slices_by f (slices_of b y)) (sym is) in
    keeps_gpt b o u (without_label number o.labels) (fits_set b o.sectors number t None first last tt (table_fits b o t shaped is))
    (subst (λ (l : List Slice). AreLabelsOf l (without_label number o.labels)) (sym places)
    (are_filter f (slices_of b o.body) o.labels shaped.labels))
    (λ s stands. (
    let kept = contains_filter (λ (x : Slice). f x.number) s (slices_of b o.body)
    (subst (λ (l : List Slice). Contains l s) places stands) in
    let other : s.number ≢ number = λ same. true≢false (sym kept.1 ∙ is_not_false number s.number same) in
    let label : label_of o.labels s.number ≡ label_of (without_label number o.labels) s.number =
    sym (label_of_by f s.number o.labels kept.1) in
    inl (
      s,
      record { stands = kept.0; first = refl; len = refl },
      subst (LabelStays (label_of o.labels s.number)) label
          (label_stays_refl_lem (label_of o.labels s.number)),
    )))

-- a new entry that is no slice
pub keeps_leaf : (b number : ℕ) (o : Layout) (t : Table) (e : Entry) → Shaped b o → o.body ≡ Gpt t → 1 ≤ number
    → number ≤ length t.entries → IsTyped e
    → slice_index_or t.entries (number - 1) None ≡ None → (nat_eq b 512 && is_slice_kind e.kind.0) ≡ false
    → Keeps b o.sectors (Some o) (record { sectors = o.sectors; body = Gpt (entries_with t number (Some e)); labels = o.labels })
unfolding entry_slice
keeps_leaf b number o t e shaped is first last typed none leaf = by_size (nat_eq b 512) refl where
  u : Table
  u = entries_with t number (Some e)

  fits : FitsTable b o.sectors u
  fits = fits_set b o.sectors number t (Some e) first last typed (table_fits b o t shaped is)

  no_slice : (c : Bool) → nat_eq b 512 ≡ true → is_slice_kind e.kind.0 ≡ c → entry_slice number (Some e) ≡ entry_slice number None
  no_slice true large so = absurd (true≢false (sym (rw (large, so) refl) ∙ leaf))
  no_slice false large so = rw so refl

  by_size : (c : Bool) → nat_eq b 512 ≡ c → Keeps b o.sectors (Some o) (record { sectors = o.sectors; body = Gpt u; labels = o.labels })
  by_size true large = keeps_entry b number o t (Some e) shaped is first last typed
      (no_slice (is_slice_kind e.kind.0) large refl ∙ ap (entry_slice number) (sym none))
  by_size false small = unchanged b o t u shaped is fits (slices_gpt b u false small ∙ sym (slices_gpt b t false small))

pub contains_append : {X : Type 0} (y : X) (xs ys : List X) → Contains (xs ++ ys) y → Contains xs y ⊎ Contains ys y
contains_append y [] ys is = inr is
contains_append y (x ∷ xs) ys is = elim (contains_cases x y (xs ++ ys) is) [
  | inl here ↦ inl (0, omega arith, here)
  | inr later ↦ elim (contains_append y xs ys later) [ inl left ↦ inl (contains_later x y xs left) | inr right ↦ inr right ]
]

-- the empty label fits its slice
pub empty_fits : (s : Slice) → 2 ≤ s.len → FitsLabel s (empty_of s.len)
empty_fits s second = record { second = second; counted = empty_counted s.len; slice = (refl, inl refl) }

-- the sectors of a slice that exists
pub slice_len : (number first last : ℕ) → first ≤ last → last < 2 ^ 63 → (slice_from number first last).len ≡ last - first + 1
slice_len number first last order top = rw (le-leb first last order, lt-ltb last (2 ^ 63) top) refl

-- where there is one slice more, its label is new, and all others have theirs
pub entered_label : (b number : ℕ) (o : Layout) (s x : Slice) → s.number ≡ number → Contains (around number (s ∷ []) (slices_of b o.body)) x
    → IsOldLabel b (Some o) x (label_of (with_new_label number (empty_of s.len) o.labels) x.number)
    ⊎ IsNewLabel x (label_of (with_new_label number (empty_of s.len) o.labels) x.number)
entered_label b number o s x at stands =
    by_side (contains_append x (slices_by (is_below number) old) ((s ∷ []) ++ slices_by (is_above number) old) stands) where
      old : List Slice
      old = slices_of b o.body

      made : List Labelled
      made = with_new_label number (empty_of s.len) o.labels

      stays : (f : ℕ → Bool) → Contains (slices_by f old) x → x.number ≢ number
          → IsOldLabel b (Some o) x (label_of made x.number) ⊎ IsNewLabel x (label_of made x.number)
      stays f is other =
          let kept = contains_filter (λ (y : Slice). f y.number) x old is in
          inl (
            x,
            record { stands = kept.0; first = refl; len = refl },
            subst (LabelStays (label_of o.labels x.number)) (sym (label_of_old number x.number (empty_of s.len) o.labels other))
                (label_stays_refl_lem (label_of o.labels x.number)),
          )

      is_new : s ≡ x → IsOldLabel b (Some o) x (label_of made x.number) ⊎ IsNewLabel x (label_of made x.number)
      is_new same =
          let number_of : number ≡ x.number = sym at ∙ ap (λ (y : Slice). y.number) same in
          let has : Some (empty_of x.len) ≡ label_of made x.number =
          ap (λ (y : Slice). Some (empty_of y.len)) (sym same)
          ∙ (sym (label_of_new number (empty_of s.len) o.labels) ∙ ap (label_of made) number_of) in
          inr (subst (IsNewLabel x) has (same_but_parts_refl (empty_of x.len)))

      by_later : (s ≡ x) ⊎ Contains (slices_by (is_above number) old) x
          → IsOldLabel b (Some o) x (label_of made x.number) ⊎ IsNewLabel x (label_of made x.number)
      by_later (inl same) = is_new same
      by_later (inr above) =
          let passes : is_above number x.number ≡ true = (contains_filter (λ (y : Slice). is_above number y.number) x old above).1 in
          stays (is_above number) above (omega (arith, ltb-true number x.number passes))

      by_side : Contains (slices_by (is_below number) old) x ⊎ Contains ((s ∷ []) ++ slices_by (is_above number) old) x
          → IsOldLabel b (Some o) x (label_of made x.number) ⊎ IsNewLabel x (label_of made x.number)
      by_side (inl below) =
          let passes : is_below number x.number ≡ true = (contains_filter (λ (y : Slice). is_below number y.number) x old below).1 in
          stays (is_below number) below (omega (arith, ltb-true x.number number passes))
      by_side (inr later) = by_later (contains_cases s x (slices_by (is_above number) old) later)

-- a new entry that is a slice, with the empty label
pub keeps_slice : (b number : ℕ) (o : Layout) (t : Table) (e : Entry) → Shaped b o → o.body ≡ Gpt t → 1 ≤ number
    → number ≤ length t.entries → IsTyped e
    → slice_index_or t.entries (number - 1) None ≡ None → nat_eq b 512 ≡ true → is_slice_kind e.kind.0 ≡ true → e.first < e.last
    → e.last < o.sectors → o.sectors < 2 ^ 63
    → Keeps b o.sectors (Some o) (record {
      sectors = o.sectors;
      body = Gpt (entries_with t number (Some e));
      labels =
          with_new_label number (empty_of (e.last - e.first + 1)) o.labels;
    })
unfolding entry_slice
keeps_slice b number o t e shaped is first last typed none large kind long within most =
    let n = o.sectors in
    let u = entries_with t number (Some e) in
    let s = slice_from number e.first e.last in
    let len : s.len ≡ e.last - e.first + 1 = slice_len number e.first e.last (omega (arith, long)) (omega (arith, within, most)) in
    let at : 1 + (number - 1) ≡ number = omega (arith, first) in
    let new : entry_slice number (Some e) ≡ s ∷ [] = entry_some number e ∙ rw kind refl in
    let slices : entry_slices 1 u.entries ≡ around number (s ∷ []) (entry_slices 1 t.entries) =
    slices_with 1 (number - 1) (Some e) t.entries (omega (arith, first, last)) none
    ∙ (ap (λ (k : ℕ). around k (entry_slice k (Some e)) (entry_slices 1 t.entries)) at ∙ ap (λ (l : List Slice).
    around number l (entry_slices 1 t.entries)) new) in
    let places : slices_of b (Gpt u) ≡ around number (s ∷ []) (slices_of b o.body) =
    slices_gpt b u true large ∙ (slices ∙ ap (around number (s ∷ [])) (sym (slices_gpt b t true large) ∙ ap (slices_of b) (sym is))) in
    subst (λ (k : ℕ). Keeps b n (Some o) (record { sectors = n; body = Gpt u; labels = with_new_label number (empty_of k) o.labels })) len
    (keeps_gpt b o u (with_new_label number (empty_of s.len) o.labels)
    (fits_set b n number t (Some e) first last typed (table_fits b o t shaped is))
    (subst (λ (l : List Slice). AreLabelsOf l (with_new_label number (empty_of s.len) o.labels)) (sym places)
    (are_entered number s (empty_of s.len) (slices_of b o.body) o.labels refl (empty_fits s (omega (arith, len, long))) shaped.labels))
    (λ x stands. entered_label b number o s x refl (subst (λ (l : List Slice). Contains l x) places stands)))

-- an entry changes where there are no slices
pub keeps_small : (b number : ℕ) (o : Layout) (t : Table) (x : Option Entry) → Shaped b o → o.body ≡ Gpt t → 1 ≤ number
    → number ≤ length t.entries → IfSome x IsTyped → nat_eq b 512 ≡ false
    → Keeps b o.sectors (Some o) (record { sectors = o.sectors; body = Gpt (entries_with t number x); labels = o.labels })
keeps_small b number o t x shaped is first last typed small =
    unchanged b o t (entries_with t number x) shaped is
    (fits_set b o.sectors number t x first last typed (table_fits b o t shaped is))
    (slices_gpt b (entries_with t number x) false small ∙ sym (slices_gpt b t false small))
