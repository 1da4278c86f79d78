-- What the words on a GPT's entries found on the way to what they made.
use Rattle.std.proofs.Common.{◌≡◌, ◌≤◌, ◌<◌, ◌-◌, ◌^◌, ℕ, Bool, true, false, cond, List, length, Option, Some, None, refl, sym, ap}
use Rattle.std.proofs.Common.{◌∙◌, subst}
use Rattle.std.proofs.Common.{inl, inr, arith}
use Rattle.std.specs.Prelude.{Ok, Err, slice_index_or, slice_get, slice_set, nat_eq, nat_lt, ◌||◌, ok_or, is_some}
use Rattle.std.proofs.lemmas.Bool.{cases_lt, eqb-false, ltb-false, or_parts}
use Rattle.std.proofs.lemmas.List.{get_or_past}
use Rattle.pt_guid.specs.declared.guid.Guid.{Guid}
use Rattle.pt_gpt.specs.declared.entry.Entry.{Entry}
use Rattle.pt_gpt.specs.declared.table.Table.{Table}
use Rattle.pt_gpt.specs.Copies.{edge}
use Rattle.pt_members.specs.declared.layout.Body.{Body}
use Rattle.pt_members.specs.declared.layout.Body.TheVariants.{Mbr, Gpt as OfGpt}
use Rattle.pt_members.specs.declared.layout.Layout.{Layout}
use Rattle.pt_words.specs.declared.asked.Asked.{Asked}
use Rattle.pt_words.specs.declared.error.Refusal.TheVariants.{NoSuchPartition, NameTooLong, SameGuid, NumberTaken, NoSpace}
use Rattle.pt_words.specs.declared.error.Refusal.TheVariants.{UnknownCode, ContainerType, NoFreshGuid}
use Rattle.pt_words.specs.declared.word.Code.{Code}
use Rattle.pt_words.specs.declared.word.End.{End}
use Rattle.pt_edit.specs.declared.gpt.Gpt.{Gpt}
use Rattle.pt_edit.specs.declared.new_entry.NewEntry.{NewEntry}
use Rattle.pt_edit.specs.declared.space.Run.{Run}
use Rattle.pt_edit.specs.Space.{placed}
use Rattle.pt_edit.specs.SliceLabels.{without_label}
use Rattle.pt_edit.specs.Entries.{units_of, padded, table_in, used_entry, with_entry, with_table, named, is_elsewhere}
use Rattle.pt_edit.specs.Entries.{unique_set}
use Rattle.pt_edit.specs.Entries.{with_bit, bit_set, disk_set, extended, is_slice, entry_type, entry_typed, entry_deleted, is_unused}
use Rattle.pt_edit.specs.Entries.{lowest_unused, number_for, new_type, table_area, is_wrong_size, entry_place, with_new_entry, entry_new}
use Rattle.pt_edit.specs.inner.Entries.{whole_of}
use Rattle.pt_edit.proofs.Placing.{placed_is_free_lem}
use Rattle.pt_edit.proofs.Ranges.{in_range}
use Rattle.pt_edit.proofs.Steps.{bound, given_ok, none_is, same_ok, unless_ok}

-- the layout that a GPT's parts are, with another table
pub with_whole : (o : Layout) (g : Gpt) (t : Table) → o ≡ whole_of g
    → with_table o t ≡ whole_of (record { sectors = g.sectors; table = t; labels = g.labels })
with_whole o g t is = rw is

pub placed_on_table : (t : Table) (alignment start : ℕ) (end : End) (run : Run) → t.last < 2 ^ 64
    → placed (table_area t) alignment start end ≡ Ok run → (run.first < 2 ^ 64) × (run.last < 2 ^ 64)
placed_on_table t alignment start end run small is =
    let free = placed_is_free_lem (table_area t) alignment start end run is in
    let last = (free.free run.last (free.some, omega arith)).0.1 in
    (omega (arith, free.some), omega arith)

-- ## Used entries.

-- the table's used entry of a number, from 1 on
pub record HasUsedEntry (t : Table) (number : ℕ) (e : Entry) : Type 0 where
  pub first : 1 ≤ number
  pub last : number ≤ length t.entries
  pub used : slice_index_or t.entries (number - 1) None ≡ Some e

nothing : (o : Option Entry) → is_some o ≡ false → o ≡ None
nothing None not = refl
nothing (Some e) not = absurd cc

pub used_is : (t : Table) (number : ℕ) (e : Entry) → used_entry t number ≡ Some e → HasUsedEntry t number e
used_is t number e is = by_case (nat_eq number 0) refl where
  within : slice_index_or t.entries (number - 1) None ≡ Some e → number - 1 < length t.entries
  within used = elim (cases_lt (number - 1) (length t.entries)) as (λ _. number - 1 < length t.entries) [
    | inl below ↦ below
    | inr past ↦ let both : None ≡ Some e = sym (get_or_past t.entries (number - 1) None past) ∙ used in absurd cc
  ]

  by_case : (b : Bool) → nat_eq number 0 ≡ b → HasUsedEntry t number e
  by_case true zero = let was : None ≡ Some e = rw zero at is in absurd cc
  by_case false some =
      let used : slice_index_or t.entries (number - 1) None ≡ Some e = rw some at is in
      let low = eqb-false number 0 some in
      let high = within used in
      record { first = omega arith; last = omega arith; used = used }

table_is : (y : Body) (t : Table) → table_in y ≡ Ok t → y ≡ OfGpt t
table_is (Mbr records chain) t is = cc
table_is (OfGpt u) t is = cc

-- a used entry becomes another, and nothing else changes
pub record Changed (number : ℕ) (change : Entry → Entry) (o p : Layout) : Type 0 where
  pub table : Table
  pub entry : Entry
  pub is_table : o.body ≡ OfGpt table
  pub is_entry : HasUsedEntry table number entry
  pub made : p ≡ with_table o (with_entry table number (change entry))

pub named_is : (number : ℕ) (name : List ℕ) (o p : Layout) → named number name o ≡ Ok p
    → Changed number (λ e. record e { name = padded (units_of name) }) o p
unfolding named
named_is number name o p is =
    let (t, one, rest) = bound (table_in o.body) _ p is in
    let (e, two, more) = bound (ok_or (used_entry t number) NoSuchPartition) _ p rest in
    let (short, same) = unless_ok (nat_lt 36 (length (units_of name))) NameTooLong _ p more in
    record {
      table = t;
      entry = e;
      is_table = table_is o.body t one;
      is_entry = used_is t number e (given_ok (used_entry t number) NoSuchPartition e two);
      made = same_ok _ p same;
    }

pub unique_is : (number : ℕ) (guid : Guid) (o p : Layout) → unique_set number guid o ≡ Ok p
    → Changed number (λ e. record e { unique = guid }) o p
unfolding unique_set
unique_is number guid o p is =
    let (t, one, rest) = bound (table_in o.body) _ p is in
    let (e, two, more) = bound (ok_or (used_entry t number) NoSuchPartition) _ p rest in
    let (alone, same) = unless_ok (is_elsewhere t number guid) SameGuid _ p more in
    record {
      table = t;
      entry = e;
      is_table = table_is o.body t one;
      is_entry = used_is t number e (given_ok (used_entry t number) NoSuchPartition e two);
      made = same_ok _ p same;
    }

pub bit_is : (number bit : ℕ) (value : Bool) (o p : Layout) → bit_set number bit value o ≡ Ok p
    → Changed number (λ e. record e { attributes = with_bit e.attributes bit value }) o p
unfolding bit_set
bit_is number bit value o p is =
    let (t, one, rest) = bound (table_in o.body) _ p is in
    let (e, two, same) = bound (ok_or (used_entry t number) NoSuchPartition) _ p rest in
    record {
      table = t;
      entry = e;
      is_table = table_is o.body t one;
      is_entry = used_is t number e (given_ok (used_entry t number) NoSuchPartition e two);
      made = same_ok _ p same;
    }

-- the table becomes another, and nothing else changes
abbrev pub TableMade : (Table → Table) → Layout → Layout → Type 0
TableMade change o p = (t : Table) × (o.body ≡ OfGpt t) × (p ≡ with_table o (change t))

pub disk_is : (guid : Guid) (o p : Layout) → disk_set guid o ≡ Ok p → TableMade (λ t. record t { disk = guid }) o p
unfolding disk_set
disk_is guid o p is = let (t, one, same) = bound (table_in o.body) _ p is in (t, table_is o.body t one, same_ok _ p same)

pub extended_is : (b : ℕ) (o p : Layout) → extended b o ≡ Ok p → TableMade (λ t. record t { last = o.sectors - edge b }) o p
unfolding extended
extended_is b o p is = let (t, one, same) = bound (table_in o.body) _ p is in (t, table_is o.body t one, same_ok _ p same)

-- ## `t`, `d` and `n`.

-- `t`: an entry has another type, and neither is the slices'
pub record EntryTyped (b : ℕ) (t : Table) (number : ℕ) (code : Code) (o p : Layout) : Type 0 where
  pub entry : Entry
  pub kind : List ℕ
  pub is_entry : HasUsedEntry t number entry
  pub known : entry_type code ≡ Some kind
  pub old : is_slice b entry.kind.0 ≡ false
  pub new : is_slice b kind ≡ false
  pub made : p ≡ with_table o (with_entry t number (record entry { kind = record { 0 = kind } }))

pub typed_is : (b : ℕ) (t : Table) (number : ℕ) (code : Code) (o p : Layout) → entry_typed b t number code o ≡ Ok p
    → EntryTyped b t number code o p
unfolding entry_typed
typed_is b t number code o p is =
    let (e, one, rest) = bound (ok_or (used_entry t number) NoSuchPartition) _ p is in
    let (kind, two, more) = bound (ok_or (entry_type code) UnknownCode) _ p rest in
    let (plain, same) = unless_ok (is_slice b e.kind.0 || is_slice b kind) ContainerType _ p more in
    let (old, new) = or_parts (is_slice b e.kind.0) (is_slice b kind) plain in
    record {
      entry = e;
      kind = kind;
      is_entry = used_is t number e (given_ok (used_entry t number) NoSuchPartition e one);
      known = given_ok (entry_type code) UnknownCode kind two;
      old = old;
      new = new;
      made = same_ok _ p same;
    }

-- `d`: an entry goes, with the label that it has as a slice
pub record EntryDeleted (t : Table) (number : ℕ) (o p : Layout) : Type 0 where
  pub entry : Entry
  pub is_entry : HasUsedEntry t number entry
  pub made : p ≡ record {
    sectors = o.sectors;
    body = OfGpt (record t { entries = slice_set t.entries (number - 1) None });
    labels = without_label number o.labels;
  }

pub deleted_is : (t : Table) (number : ℕ) (o p : Layout) → entry_deleted t number o ≡ Ok p → EntryDeleted t number o p
unfolding entry_deleted
deleted_is t number o p is =
    let (e, one, same) = bound (ok_or (used_entry t number) NoSuchPartition) _ p is in
    record { entry = e; is_entry = used_is t number e (given_ok (used_entry t number) NoSuchPartition e one); made = same_ok _ p same }

-- an entry of this number is unused
pub record IsUnusedEntry (t : Table) (number : ℕ) : Type 0 where
  pub first : 1 ≤ number
  pub last : number ≤ length t.entries
  pub none : slice_index_or t.entries (number - 1) None ≡ None

unused_is : (t : Table) (asked number : ℕ) → number_for t asked ≡ Ok number → IsUnusedEntry t number
unused_is t asked number is =
    let (within, rest) = unless_ok (nat_lt (length t.entries) asked) NoSuchPartition _ number is in
    by_case (ltb-false (length t.entries) asked within) (nat_eq asked 0) refl rest where
      by_case : asked ≤ length t.entries → (b : Bool) → nat_eq asked 0 ≡ b
          → cond b (ok_or (lowest_unused t) NoSpace) (cond (is_some (used_entry t asked)) (Err NumberTaken) (Ok asked)) ≡ Ok number
          → IsUnusedEntry t number
      by_case high true zero lowest =
          let found = given_ok (lowest_unused t) NoSpace number lowest in
          let (low, up, test) = in_range (is_unused t.entries) 1 (length t.entries) number found in
          record { first = low; last = omega arith; none = none_is (slice_index_or t.entries (number - 1) None) test }
      by_case high false some given =
          let (free, same) = unless_ok (is_some (used_entry t asked)) NumberTaken (Ok asked) number given in
          let here : number ≡ asked = same_ok asked number same in
          let low = eqb-false asked 0 some in
          let none = nothing (slice_index_or t.entries (asked - 1) None) (rw some at free) in
          record {
            first = omega arith;
            last = omega arith;
            none = subst (λ (n : ℕ). slice_index_or t.entries (n - 1) None ≡ None) (sym here) none;
          }

-- `n`: a new entry, with the next fresh GUID
pub record EntryMade (b : ℕ) (t : Table) (a : Asked) (o p : Layout) : Type 0 where
  pub number : ℕ
  pub kind : List ℕ
  pub run : Run
  pub guid : Guid
  pub unused : IsUnusedEntry t number
  pub known : new_type a.code ≡ Some kind
  pub placed : placed (table_area t) a.alignment a.start a.end ≡ Ok run
  pub size : is_wrong_size b kind run ≡ false
  pub made : p ≡ with_new_entry b t number kind guid run o

pub new_is : (b : ℕ) (t : Table) (a : Asked) (fresh : List Guid) (o p : Layout) → entry_new b t a fresh o ≡ Ok p → EntryMade b t a o p
unfolding entry_new entry_place
new_is b t a fresh o p is =
    let (spot, one, rest) = bound (entry_place b t a) _ p is in
    let (guid, two, more) = bound (ok_or (slice_get fresh 0) NoFreshGuid) _ p rest in
    let (alone, same) = unless_ok (is_elsewhere t spot.number guid) SameGuid _ p more in
    let (number, a1, b1) = bound (number_for t a.number) _ spot one in
    let (kind, a2, b2) = bound (ok_or (new_type a.code) UnknownCode) _ spot b1 in
    let (run, a3, b3) = bound (placed (table_area t) a.alignment a.start a.end) _ spot b2 in
    let (size, done) = unless_ok (is_wrong_size b kind run) ContainerType _ spot b3 in
    let whole : spot ≡ record { number = number; kind = record { 0 = kind }; run = run } = same_ok _ spot done in
    record {
      number = number;
      kind = kind;
      run = run;
      guid = guid;
      unused = unused_is t a.number number a1;
      known = given_ok (new_type a.code) UnknownCode kind a2;
      placed = a3;
      size = size;
      made = same_ok _ p same ∙ ap (λ (s : NewEntry). with_new_entry b t s.number s.kind.0 guid s.run o) whole;
    }
