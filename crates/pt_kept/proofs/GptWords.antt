-- What the words of a GPT keep.
use Rattle.std.specs.Prelude.{◌≡◌, ◌<◌, ◌≤◌, ◌-◌, ◌^◌, [], ℕ, Bool, true, false, List, length, replicate, Option, Some, None}
use Rattle.std.specs.Prelude.{IfSome, Contains, nat_eq, ◌&&◌}
use Rattle.std.proofs.Common.{refl, sym, ap, subst, ◌∙◌, inl, inr, arith}
use Rattle.std.proofs.lemmas.Bool.{and_from, both_ways, cases_lt, lt-ltb, or_left, true≢false}
use Rattle.std.proofs.lemmas.List.{length-replicate, get_or-replicate}
use Rattle.pt_guid.specs.Codes.{type_of}
use Rattle.pt_guid.proofs.Terms.{types_are_used}
use Rattle.pt_guid.specs.declared.guid.Guid.{Guid}
use Rattle.pt_gpt.specs.Copies.{AllTyped, HasRoom, edge}
use Rattle.pt_gpt.specs.Entries.{IsTyped}
use Rattle.pt_gpt.specs.declared.entry.Entry.{Entry}
use Rattle.pt_gpt.specs.declared.table.Table.{Table}
use Rattle.pt_members.proofs.SliceLists.{entry_some, slices_gpt, entry_slice}
use Rattle.pt_members.specs.Members.{is_slice_kind, slices_of}
use Rattle.pt_members.specs.declared.layout.Slice.{Slice}
use Rattle.pt_bsd.specs.Labels.{empty_of}
use Rattle.pt_edit.specs.SliceLabels.{with_new_label}
use Rattle.pt_members.specs.declared.layout.Labelled.{Labelled}
use Rattle.pt_members.specs.declared.layout.Layout.{Layout}
use Rattle.pt_members.specs.declared.layout.Body.TheVariants.{Gpt}
use Rattle.pt_words.specs.declared.word.Code.{Code}
use Rattle.pt_words.specs.declared.word.Code.TheVariants.{Two, Four}
use Rattle.pt_edit.proofs.Placing.{placed_is_free_lem}
use Rattle.pt_edit.specs.Entries.{with_entry, with_table, is_slice, entry_type}
use Rattle.pt_edit.specs.Entries.{is_wrong_size, new_type, table_area, run_length, new_entry_of}
use Rattle.pt_edit.specs.Entries.{new_labels, with_new_entry}
use Rattle.pt_edit.specs.Edited.{empty_gpt}
use Rattle.pt_words.specs.declared.asked.Asked.{Asked}
use Rattle.pt_cases.specs.Writes.{FitsTable, AreLabelsOf, Shaped}
use Rattle.pt_cases.specs.Keeps.{Keeps}
use Rattle.pt_kept.proofs.Entries.{entry_numbered, entries_many, many_none}
use Rattle.pt_kept.proofs.Tables.{keeps_table, keeps_small, keeps_entry, keeps_without, keeps_leaf, keeps_slice, table_fits, no_record}
use Rattle.pt_kept.proofs.Tables.{no_ebr}
use Rattle.pt_edit.proofs.EntrySteps.{Changed, EntryDeleted, EntryMade, EntryTyped, HasUsedEntry, IsUnusedEntry, TableMade}

-- no type GUID of a code is zero
pub code_typed : (code : ℕ) (kind : List ℕ) → type_of code ≡ Some kind → ¬ (kind ≡ replicate 16 0)
code_typed code kind is zeros = types_are_used code (is ∙ ap (λ (l : List ℕ). Some l) zeros)

pub type_typed : (code : Code) (kind : List ℕ) → entry_type code ≡ Some kind → ¬ (kind ≡ replicate 16 0)
type_typed (Two n) kind is = absurd cc
type_typed (Four n) kind is = code_typed n kind is

new_typed : (code : Option Code) (kind : List ℕ) → new_type code ≡ Some kind → ¬ (kind ≡ replicate 16 0)
new_typed None kind is = type_typed (Four 0x8300) kind is
new_typed (Some code) kind is = type_typed code kind is

-- a used entry has a type
used_typed : (b : ℕ) (o : Layout) (t : Table) (number : ℕ) (e : Entry) → Shaped b o → o.body ≡ Gpt t → HasUsedEntry t number e → IsTyped e
used_typed b o t number e shaped is has =
    subst (λ (x : Option Entry). IfSome x IsTyped) has.used
    ((table_fits b o t shaped is).typed (number - 1) (omega (arith, has.first, has.last)))

-- another entry with the same slice
same_entry_slice : (n : ℕ) (e f : Entry) → f.kind ≡ e.kind → f.first ≡ e.first → f.last ≡ e.last
    → entry_slice n (Some f) ≡ entry_slice n (Some e)
same_entry_slice n e f kind first last = entry_some n f ∙ (rw (kind, first, last) refl ∙ sym (entry_some n e))

keeps_change : (b number : ℕ) (o p : Layout) (t : Table) (e f : Entry) → Shaped b o → o.body ≡ Gpt t → HasUsedEntry t number e
    → f.kind ≡ e.kind → f.first ≡ e.first → f.last ≡ e.last → p ≡ with_table o (with_entry t number f) → Keeps b o.sectors (Some o) p
keeps_change b number o p t e f shaped is has kind first last made =
    subst (λ (q : Layout). Keeps b o.sectors (Some o) q) (sym made)
    (keeps_entry b number o t (Some f) shaped is has.first has.last
    (λ zeros. used_typed b o t number e shaped is has (sym (ap (λ (g : Guid). g.0) kind) ∙ zeros))
    (same_entry_slice number e f kind first last ∙ sym (ap (entry_slice number) has.used)))

-- `c`, `u`, `A`: a used entry becomes another with the same type and sectors
pub keeps_changed : (b number : ℕ) (change : Entry → Entry) (o p : Layout)
    → ((e : Entry) → (change e).kind ≡ e.kind) → ((e : Entry) → (change e).first ≡ e.first) → ((e : Entry) → (change e).last ≡ e.last)
    → Shaped b o
    → Changed number change o p → Keeps b o.sectors (Some o) p
keeps_changed b number change o p kind first last shaped c =
    keeps_change b number o p c.table c.entry (change c.entry) shaped c.is_table c.is_entry (kind c.entry) (first c.entry) (last c.entry)
    c.made

-- `U`
pub keeps_disk : (b : ℕ) (guid : Guid) (o p : Layout) → Shaped b o → TableMade (λ t. record t { disk = guid }) o p
    → Keeps b o.sectors (Some o) p
keeps_disk b guid o p shaped (t, is, made) =
    let fits = table_fits b o t shaped is in
    subst (λ (q : Layout). Keeps b o.sectors (Some o) q) (sym made)
    (keeps_table b o t (record t { disk = guid }) shaped is
    (record {
      room = fits.room;
      some = fits.some;
      most = fits.most;
      low = fits.low;
      order = fits.order;
      high = fits.high;
      typed =
          fits.typed;
    }) refl)

-- `e`
pub keeps_extended : (b : ℕ) (o p : Layout) → Shaped b o → TableMade (λ t. record t { last = o.sectors - edge b }) o p
    → Keeps b o.sectors (Some o) p
keeps_extended b o p shaped (t, is, made) =
    let fits = table_fits b o t shaped is in
    subst (λ (q : Layout). Keeps b o.sectors (Some o) q) (sym made)
    (keeps_table b o t (record t { last = o.sectors - edge b }) shaped is
    (record {
      room = fits.room;
      some = fits.some;
      most = fits.most;
      low = fits.low;
      order = omega (arith, fits.order, fits.high);
      high =
          omega arith;
      typed = fits.typed;
    }) refl)

plain_slice : (b n : ℕ) (e : Entry) (c : Bool) → nat_eq b 512 ≡ true → is_slice b e.kind.0 ≡ false → is_slice_kind e.kind.0 ≡ c
    → entry_slice n (Some e) ≡ entry_slice n None
unfolding entry_slice
plain_slice b n e true large none is = absurd (true≢false (sym (rw (large, is) refl) ∙ none))
plain_slice b n e false large none is = entry_some n e ∙ rw is refl

-- `t`
pub keeps_typed : (b number : ℕ) (code : Code) (o p : Layout) (t : Table) → Shaped b o → o.body ≡ Gpt t → EntryTyped b t number code o p
    → Keeps b o.sectors (Some o) p
keeps_typed b number code o p t shaped is x = subst (λ (q : Layout). Keeps b o.sectors (Some o) q) (sym x.made)
    (by_size (nat_eq b 512) refl) where
      new : Entry
      new = record x.entry { kind = record { 0 = x.kind } }

      u : Table
      u = with_entry t number new

      typed : IsTyped new
      typed = type_typed code x.kind x.known

      by_size : (c : Bool) → nat_eq b 512 ≡ c → Keeps b o.sectors (Some o) (with_table o u)
      by_size true large =
          keeps_entry b number o t (Some new) shaped is x.is_entry.first x.is_entry.last typed
          (plain_slice b number new (is_slice_kind new.kind.0) large x.new refl
          ∙ sym (ap (entry_slice number) x.is_entry.used ∙ plain_slice b number x.entry (is_slice_kind x.entry.kind.0) large x.old refl))
      by_size false small = keeps_small b number o t (Some new) shaped is x.is_entry.first x.is_entry.last typed small

-- `d`
pub keeps_deleted : (b number : ℕ) (o p : Layout) (t : Table) → Shaped b o → o.body ≡ Gpt t → EntryDeleted t number o p
    → Keeps b o.sectors (Some o) p
keeps_deleted b number o p t shaped is x = subst (λ (q : Layout). Keeps b o.sectors (Some o) q) (sym x.made)
    (keeps_without b number o t shaped is x.is_entry.first x.is_entry.last)

and_left : (p q : Bool) → (p && q) ≡ true → p ≡ true
and_left true q is = refl
and_left false q is = is

and_right : (p q : Bool) → (p && q) ≡ true → q ≡ true
and_right true q is = is
and_right false q is = let both : false ≡ true = is in absurd (true≢false (sym both))

-- `n`
pub keeps_made : (b : ℕ) (a : Asked) (o p : Layout) (t : Table) → o.sectors < 2 ^ 63 → Shaped b o → o.body ≡ Gpt t
    → EntryMade b t a o p → Keeps b o.sectors (Some o) p
keeps_made b a o p t small shaped is x = subst (λ (q : Layout). Keeps b o.sectors (Some o) q) (sym x.made)
    (by_slice (is_slice b x.kind) refl) where
      e : Entry
      e = new_entry_of x.kind x.guid x.run

      fits : FitsTable b o.sectors t
      fits = table_fits b o t shaped is

      unused : IsUnusedEntry t x.number
      unused = x.unused

      typed : IsTyped e
      typed = new_typed a.code x.kind x.known

      some : x.run.first ≤ x.run.last
      some = (placed_is_free_lem (table_area t) a.alignment a.start a.end x.run x.placed).some

      top : x.run.last ≤ t.last
      top = let free = placed_is_free_lem (table_area t) a.alignment a.start a.end x.run x.placed in
          (free.free x.run.last (free.some, omega arith)).0.1

      room : HasRoom b o.sectors
      room = fits.room

      by_slice : (c : Bool) → is_slice b x.kind ≡ c → Keeps b o.sectors (Some o) (with_new_entry b t x.number x.kind x.guid x.run o)
      by_slice true it =
          let long : x.run.first < x.run.last = elim (cases_lt (run_length x.run) 2) as (λ _. x.run.first < x.run.last) [
            | inl short ↦ absurd (both_ways (is_wrong_size b x.kind x.run) x.size
                (and_from (is_slice b x.kind) _ it (or_left _ _ (lt-ltb (run_length x.run) 2 short))))
            | inr enough ↦ omega (arith, enough)
          ] in
          let labels : new_labels b x.number x.kind x.run o.labels ≡ with_new_label x.number (empty_of (run_length x.run)) o.labels =
          rw it refl in
          subst (λ (l : List Labelled). Keeps b o.sectors (Some o)
          (record { sectors = o.sectors; body = Gpt (with_entry t x.number e); labels = l })) (sym labels)
          (keeps_slice b x.number o t e shaped is unused.first unused.last typed unused.none
          (and_left (nat_eq b 512) (is_slice_kind x.kind) it) (and_right (nat_eq b 512) (is_slice_kind x.kind) it) long
          (omega (arith, top, fits.high, room)) small)
      by_slice false it =
          let labels : new_labels b x.number x.kind x.run o.labels ≡ o.labels = rw it refl in
          subst (λ (l : List Labelled). Keeps b o.sectors (Some o)
          (record { sectors = o.sectors; body = Gpt (with_entry t x.number e); labels = l })) (sym labels)
          (keeps_leaf b x.number o t e shaped is unused.first unused.last typed unused.none it)

none_typed : (k : ℕ) → AllTyped (replicate k None)
none_typed k i lt =
    let none : Option Entry = None in
    let size : length (replicate k none) ≡ k = length-replicate k none in
    subst (λ (x : Option Entry). IfSome x IsTyped) (sym (get_or-replicate k i none none (omega (arith, lt, size)))) tt

-- `o`: of anything, or of nothing
pub keeps_empty : (b n : ℕ) (guid : Guid) (old : Option Layout) → HasRoom b n → Keeps b n old (empty_gpt b n guid)
keeps_empty b n guid old room = record {
  sectors = refl;
  shaped = record {
    body = record {
      room = room;
      some = omega arith;
      most = omega arith;
      low = omega arith;
      order = omega (arith, room);
      high =
          omega arith;
      typed = none_typed 128;
    };
    labels = subst (λ (l : List Slice). AreLabelsOf l []) (sym none) refl;
  };
  mbr = λ m. absurd m;
  labels = λ s stands. (let empty = subst (λ (l : List Slice). Contains l s) none stands in absurd (omega (arith, empty.1)));
  records = λ k r is. absurd (no_record k r is);
  logicals = λ e r is has. absurd (no_ebr e is);
} where
  t : Table
  t = record { disk = guid; first = edge b; last = n - edge b; entries = replicate 128 None }

  by_size : (c : Bool) → nat_eq b 512 ≡ c → slices_of b (Gpt t) ≡ []
  by_size true large = slices_gpt b t true large ∙ (entries_many 1 (replicate 128 None) ∙ many_none entry_slice entry_numbered 1 128)
  by_size false small = slices_gpt b t false small

  none : slices_of b (Gpt t) ≡ []
  none = by_size (nat_eq b 512) refl
