-- What the words with a letter found on the way to what they made.
use Rattle.std.specs.Prelude.{◌≡◌, ◌≢◌, ◌≤◌, ◌+◌, ◌-◌, ℕ, Bool, true, false, nat_eq, nat_le, Option, Some, None, Ok, Err, slice_index_or}
use Rattle.std.specs.Prelude.{ok_or, cond}
use Rattle.std.proofs.Common.{refl, sym, ap, ◌∙◌, arith}
use Rattle.std.proofs.lemmas.Bool.{eqb-false, leb-true, ne_eqb}
use Rattle.std.proofs.lemmas.Option.{cond_some}
use Rattle.pt_bsd.specs.Labels.{form_of, sector_by, entry_first_of, entry_of_size}
use Rattle.pt_bsd.proofs.Terms.{with_entry_form}
use Rattle.pt_bsd.specs.declared.form.Form.{Form}
use Rattle.pt_bsd.specs.declared.form.Form.TheVariants.{Relative, Absolute}
use Rattle.pt_bsd.specs.declared.label.Label.{Label}
use Rattle.pt_bsd.specs.declared.label.LabelEntry.{LabelEntry}
use Rattle.pt_members.specs.declared.layout.Layout.{Layout}
use Rattle.pt_path.specs.declared.path.Path.{Path}
use Rattle.pt_members.specs.declared.member.Kind.TheVariants.{Leaf}
use Rattle.pt_members.specs.declared.member.Member.{Member}
use Rattle.pt_members.specs.Members.{label_of, letter_path, sized_member, part_of}
use Rattle.pt_words.specs.declared.asked.Asked.{Asked}
use Rattle.pt_words.specs.declared.error.Refusal.TheVariants.{NoSuchPartition, UnknownCode, ContainerType, ForeignLabel, NumberTaken}
use Rattle.pt_words.specs.declared.error.Refusal.TheVariants.{LabelOffset}
use Rattle.pt_words.specs.declared.word.Code.{Code}
use Rattle.pt_edit.specs.declared.labels.parts.PartEntry.{PartEntry}
use Rattle.pt_edit.specs.declared.space.Run.{Run}
use Rattle.pt_edit.specs.Space.{placed}
use Rattle.pt_edit.specs.SliceLabels.{slice_numbered, raw, entry_at, part_at, unused_at, with_part, with_entry_of, part_type, part_typed}
use Rattle.pt_edit.specs.SliceLabels.{part_deleted, new_type, area_in, len_of, in_32_bits, offset_by, offset_in, new_entry, part_new}
use Rattle.pt_edit.specs.SliceLabels.{placed_part}
use Rattle.pt_edit.proofs.Steps.{bound, given_ok, only_ok, same_ok, unless_ok}

-- an entry that a slice's label counts, another than c
pub record HasPartEntry (o : Layout) (number letter : ℕ) (l : Label) (e : LabelEntry) : Type 0 where
  pub label : label_of o.labels number ≡ Some l
  pub other : letter ≢ raw
  pub counted : slice_index_or l.entries letter None ≡ Some e

-- such an entry becomes another, and nothing else changes
pub record PartMade (number letter : ℕ) (o p : Layout) : Type 0 where
  pub label : Label
  pub old : LabelEntry
  pub new : LabelEntry
  pub entry : HasPartEntry o number letter label old
  pub made : p ≡ with_entry_of number label letter new o

entry_is : (b : ℕ) (o : Layout) (number letter : ℕ) (s : PartEntry) → entry_at b o number letter ≡ Ok s
    → HasPartEntry o number letter s.label s.entry
unfolding entry_at
entry_is b o number letter s is =
    let (slice, one, rest) = bound (ok_or (slice_numbered b o.body number) NoSuchPartition) _ s is in
    let (label, two, more) = bound (ok_or (label_of o.labels number) ForeignLabel) _ s rest in
    let (entry, three, last) =
    bound (cond (nat_eq letter raw) (Err ContainerType) (ok_or (slice_index_or label.entries letter None) NoSuchPartition)) _ s more in
    let (other, found) = unless_ok (nat_eq letter raw) ContainerType _ entry three in
    let same : record { slice = slice; label = label; entry = entry } ≡ s = cc in
    rw (← same) (record {
      label = given_ok (label_of o.labels number) ForeignLabel label two;
      other = eqb-false letter raw other;
      counted = given_ok (slice_index_or label.entries letter None) NoSuchPartition entry found;
    })

part_is_entry : (b : ℕ) (o : Layout) (number letter : ℕ) (s : PartEntry) → part_at b o number letter ≡ Ok s
    → HasPartEntry o number letter s.label s.entry
unfolding part_at
part_is_entry b o number letter s is =
    let (spot, one, rest) = bound (entry_at b o number letter) _ s is in
    let (sized, same) = unless_ok (nat_eq spot.entry.size 0) NoSuchPartition (Ok spot) s rest in
    entry_is b o number letter s (one ∙ same)

unused_is_entry : (b : ℕ) (o : Layout) (number letter : ℕ) (s : PartEntry) → unused_at b o number letter ≡ Ok s
    → HasPartEntry o number letter s.label s.entry
unfolding unused_at
unused_is_entry b o number letter s is =
    let (spot, one, rest) = bound (entry_at b o number letter) _ s is in
    let (empty, same) = only_ok (nat_eq spot.entry.size 0) NumberTaken spot s rest in
    entry_is b o number letter s (one ∙ ap (λ (x : PartEntry). Ok x) same)

pub typed_made : (b number letter : ℕ) (code : Code) (o p : Layout) → part_typed b number letter code o ≡ Ok p → PartMade number letter o p
unfolding part_typed
typed_made b number letter code o p is =
    let (spot, one, rest) = bound (part_at b o number letter) _ p is in
    let (kind, two, same) = bound (ok_or (part_type code) UnknownCode) _ p rest in
    record {
      label = spot.label;
      old = spot.entry;
      new = record spot.entry { fstype = kind };
      entry = part_is_entry b o number letter spot one;
      made = same_ok _ p same;
    }

pub deleted_made : (b number letter : ℕ) (o p : Layout) → part_deleted b number letter o ≡ Ok p → PartMade number letter o p
unfolding part_deleted
deleted_made b number letter o p is =
    let (spot, one, same) = bound (part_at b o number letter) _ p is in
    record {
      label = spot.label;
      old = spot.entry;
      new = entry_of_size 0;
      entry = part_is_entry b o number letter spot one;
      made = same_ok _ p same;
    }

pub new_made : (b letter : ℕ) (a : Asked) (o p : Layout) → part_new b letter a o ≡ Ok p → PartMade a.number letter o p
unfolding part_new
new_made b letter a o p is =
    let (spot, one, rest) = bound (unused_at b o a.number letter) _ p is in
    let (kind, two, more) = bound (ok_or (new_type a.code) UnknownCode) _ p rest in
    let (run, three, after) = bound (placed (area_in spot.label spot.slice) a.alignment a.start a.end) _ p more in
    let (offset, four, next) = bound (ok_or (offset_in spot.label spot.slice run) LabelOffset) _ p after in
    let (size, five, same) = bound (ok_or (in_32_bits (len_of run)) LabelOffset) _ p next in
    record {
      label = spot.label;
      old = spot.entry;
      new = new_entry size offset kind;
      entry = unused_is_entry b o a.number letter spot one;
      made = same_ok _ p same;
    }

-- ## The entry of a new partition.

-- a member with these sectors
member_as : (path : Path) (first size f g : ℕ) → first ≡ f → first + size - 1 ≡ g
    → sized_member path Leaf first size ≡ record { path = path; kind = Leaf; first = f; last = g }
member_as path first size f g p q =
    ap (λ (k : ℕ). record { path = path; kind = Leaf; first = k; last = first + size - 1 }) p
    ∙ ap (λ (k : ℕ). record { path = path; kind = Leaf; first = f; last = k }) q

part_is : (l : Label) (m : Member) (letter : ℕ) (e : LabelEntry) → letter ≢ 2 → e.size ≢ 0
    → part_of l m letter (Some e) ≡ Some (sized_member (letter_path m.path.number letter) Leaf (entry_first_of l m.first e) e.size)
part_is l m letter e other sized = rw (ne_eqb letter 2 other, ne_eqb e.size 0 sized) refl

given_if : (t : Bool) (o : Option ℕ) (x : ℕ) → cond t o None ≡ Some x → (t ≡ true) × (o ≡ Some x)
given_if true o x is = (refl, is)
given_if false o x is = cc

sector_is : (f : Form) (first sector offset : ℕ) → offset_by f first sector ≡ Some offset → sector_by f first offset ≡ sector
sector_is Relative first sector offset is =
    let (above, fits) = given_if (nat_le first sector) (in_32_bits (sector - first)) offset is in
    let (small, same) = cond_some _ (sector - first) offset fits in
    let up = leb-true first sector above in
    omega arith
sector_is Absolute first sector offset is = let (small, same) = cond_some _ sector offset is in sym same

pub new_stands : (l : Label) (slice : Member) (letter kind offset : ℕ) (run : Run) → letter ≢ raw → run.first ≤ run.last
    → offset_in l slice run ≡ Some offset
    → part_of (with_part l letter (new_entry (len_of run) offset kind)) slice letter (Some (new_entry (len_of run) offset kind))
    ≡ Some (placed_part slice letter run)
new_stands l slice letter kind offset run other some is =
    let e : LabelEntry = new_entry (len_of run) offset kind in
    let changed : Label = with_part l letter e in
    let sized : len_of run ≢ 0 = λ z. omega (arith, z, some) in
    let first : entry_first_of changed slice.first e ≡ run.first =
    ap (λ (f : Form). sector_by f slice.first offset) (with_entry_form l letter e other)
    ∙ sector_is (form_of l) slice.first run.first offset is in
    let last : entry_first_of changed slice.first e + len_of run - 1 ≡ run.last = omega (arith, first, some) in
    part_is changed slice letter e other sized
    ∙ ap (λ (m : Member). Some m) (member_as (letter_path slice.path.number letter) (entry_first_of changed slice.first e)
    (len_of run) run.first run.last first last)
