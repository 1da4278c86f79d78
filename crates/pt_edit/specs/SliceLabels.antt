-- Words on the partitions of a label, and the list of labels.
use Rattle.std.specs.Prelude.{Bool, true, Option, Some, None, ◌+◌, ◌-◌, ◌^◌, ◌++◌, ◌∷◌, ℕ, false, List, map, filter, find, ok_or}
use Rattle.std.specs.Prelude.{if◌then◌else◌, nat_eq, nat_le, nat_lt, ◌&&◌, slice_index_or, slice_set, Result, Ok, Err}
use Rattle.pt_words.specs.declared.asked.Asked.{Asked}
use Rattle.pt_words.specs.declared.error.Refusal.{Refusal}
use Rattle.pt_words.specs.declared.error.Refusal.TheVariants.{NoSuchPartition, UnknownCode, ContainerType, ForeignLabel, NumberTaken}
use Rattle.pt_words.specs.declared.error.Refusal.TheVariants.{LabelOffset}
use Rattle.pt_bsd.specs.declared.form.Form.{Form}
use Rattle.pt_bsd.specs.declared.form.Form.TheVariants.{Relative, Absolute}
use Rattle.pt_bsd.specs.declared.label.Label.{Label}
use Rattle.pt_members.specs.declared.layout.Labelled.{Labelled}
use Rattle.pt_members.specs.declared.layout.Body.{Body}
use Rattle.pt_members.specs.declared.member.Kind.{Kind}
use Rattle.pt_members.specs.declared.member.Kind.TheVariants.{Slice, Leaf, Extended}
use Rattle.pt_members.specs.declared.member.Member.{Member}
use Rattle.pt_members.specs.Members.{label_of, letter_path, parts_in}
use Rattle.pt_members.specs.Rows.{body_rows, member_of}
use Rattle.pt_bsd.specs.Labels.{entry_of_size, form_of}
use Rattle.pt_bsd.specs.declared.label.LabelEntry.{LabelEntry}
use Rattle.pt_members.specs.declared.layout.Layout.{Layout}
use Rattle.pt_words.specs.declared.word.Code.{Code}
use Rattle.pt_words.specs.declared.word.Code.TheVariants.{Two, Four}
use Rattle.pt_edit.specs.declared.labels.parts.PartEntry.{PartEntry}
use Rattle.pt_edit.specs.declared.space.Run.{Run}
use Rattle.pt_edit.specs.Space.{◌>>=◌, Area, taken_by, placed}

-- ## The labels of a layout, by the numbers of their slices.

-- the label of the slice of a number
abbrev pub labelled : ℕ → Label → Labelled
labelled number l = record { number = number; label = l }

-- the labels without that of a number
abbrev pub without_label : ℕ → List Labelled → List Labelled
without_label number labels = filter (λ x. if nat_eq x.number number then false else true) labels

-- a label, or another where it is that of a number
abbrev pub relabelled_as : ℕ → Label → Labelled → Labelled
relabelled_as number l x = if nat_eq x.number number then labelled x.number l else x

-- the labels with that of a number changed
abbrev pub with_label : ℕ → Label → List Labelled → List Labelled
with_label number l labels = map (relabelled_as number l) labels

-- the labels of lower numbers, and of higher ones
abbrev pub labels_below : ℕ → List Labelled → List Labelled
labels_below number labels = filter (λ x. nat_lt x.number number) labels

abbrev pub labels_above : ℕ → List Labelled → List Labelled
labels_above number labels = filter (λ x. nat_lt number x.number) labels

-- the labels with one of a number between those of lower and of higher ones
abbrev pub with_new_label : ℕ → Label → List Labelled → List Labelled
with_new_label number l labels = labels_below number labels ++ labelled number l ∷ labels_above number labels

-- a label under the number below where its own is above a number
abbrev pub lowered_as : ℕ → Labelled → Labelled
lowered_as number x = if nat_lt number x.number then labelled (x.number - 1) x.label else x

-- the labels after the logical partition of a number went: without its own, and each above it one lower
abbrev pub lowered : ℕ → List Labelled → List Labelled
lowered number labels = map (lowered_as number) (without_label number labels)

-- a label under the number above where its own isn't below a number; the greatest number of 64 bits stays
abbrev pub raised_as : ℕ → Labelled → Labelled
raised_as number x =
    if nat_lt x.number number then x else labelled (if nat_lt x.number (2 ^ 64 - 1) then x.number + 1 else x.number) x.label

-- the labels before a new logical partition takes a number: each from it on one higher
abbrev pub raised : ℕ → List Labelled → List Labelled
raised number labels = map (raised_as number) labels

-- the labels of the primary slices: logical ones have numbers from 5 on
abbrev pub without_logicals : List Labelled → List Labelled
without_logicals labels = labels_below 5 labels

-- ## The slice of a number, in a table of any kind.

abbrev pub is_of_slices : Kind → Bool
is_of_slices Leaf = false
is_of_slices Slice = true
is_of_slices Extended = false

-- the member is a slice of this number
abbrev pub is_slice : ℕ → Member → Bool
is_slice number m = is_of_slices m.kind && nat_eq m.path.number number

-- the slice of a number, primary or logical: where one number stood twice, the first of them
unfoldable pub slice_numbered : ℕ → Body → ℕ → Option Member
slice_numbered b y number = find (is_slice number) (map member_of (body_rows b y))

-- ## What a letter names in the label of a slice.

-- the letter of the raw entry, c
abbrev pub raw : ℕ
raw = 2

-- the entry of a letter in the label of the slice of a number: it is counted, and isn't c
unfoldable pub entry_at : ℕ → Layout → ℕ → ℕ → Result PartEntry Refusal
entry_at b o number letter = do
  slice ← ok_or (slice_numbered b o.body number) NoSuchPartition
  label ← ok_or (label_of o.labels number) ForeignLabel
  entry ← if nat_eq letter raw then Err ContainerType else ok_or (slice_index_or label.entries letter None) NoSuchPartition
  Ok (record { slice = slice; label = label; entry = entry })

-- a partition of a slice's label: such an entry of some size
unfoldable pub part_at : ℕ → Layout → ℕ → ℕ → Result PartEntry Refusal
part_at b o number letter = do
  spot ← entry_at b o number letter
  if nat_eq spot.entry.size 0 then Err NoSuchPartition else Ok spot

-- one that is no partition yet: it has no sectors
unfoldable pub unused_at : ℕ → Layout → ℕ → ℕ → Result PartEntry Refusal
unused_at b o number letter = do
  spot ← entry_at b o number letter
  if nat_eq spot.entry.size 0 then Ok spot else Err NumberTaken

-- the label with another entry of a letter
abbrev pub with_part : Label → ℕ → LabelEntry → Label
with_part l letter e = record l { entries = slice_set l.entries letter (Some e) }

-- the layout with another entry of a letter in the label of a number, and nothing else changed
abbrev pub with_entry_of : ℕ → Label → ℕ → LabelEntry → Layout → Layout
with_entry_of number l letter e o = record {
  sectors = o.sectors;
  body = o.body;
  labels = with_label number (with_part l letter e) o.labels;
}

-- ## The words `t` and `d` with a letter.

-- the type that a code gives a partition of a label: two digits, not 00
abbrev pub part_type : Code → Option ℕ
part_type (Two code) = if nat_eq code 0 then None else Some code
part_type (Four code) = None

-- `t` of a partition of a label: another type, and all else of it as it was
unfoldable pub part_typed : ℕ → ℕ → ℕ → Code → Layout → Result Layout Refusal
part_typed b number letter code o = do
  spot ← part_at b o number letter
  kind ← ok_or (part_type code) UnknownCode
  Ok (with_entry_of number spot.label letter (record spot.entry { fstype = kind }) o)

-- `d` of a partition of a label: its entry is all zero
unfoldable pub part_deleted : ℕ → ℕ → ℕ → Layout → Result Layout Refusal
part_deleted b number letter o = do
  spot ← part_at b o number letter
  Ok (with_entry_of number spot.label letter (entry_of_size 0) o)

-- ## The word `n` with a letter: a new partition of a slice's label.

-- the type of a new partition: 7 where no code is given
abbrev pub new_type : Option Code → Option ℕ
new_type None = Some 7
new_type (Some code) = part_type code

-- where a partition of a slice may stand: from its seventeenth sector on, and in none of the label's other partitions
abbrev pub area_in : Label → Member → Area
area_in l m = record { low = m.first + 16; high = m.last; taken = taken_by (parts_in (Some l) m); empties = None }

-- how many sectors there are
abbrev pub len_of : Run → ℕ
len_of run = run.last - run.first + 1

abbrev pub in_32_bits : ℕ → Option ℕ
in_32_bits k = if nat_lt k (2 ^ 32) then Some k else None

-- the offset that a form gives to a sector of a slice with this first sector, where it fits
abbrev pub offset_by : Form → ℕ → ℕ → Option ℕ
offset_by Relative first sector = if nat_le first sector then in_32_bits (sector - first) else None
offset_by Absolute first sector = in_32_bits sector

abbrev pub offset_in : Label → Member → Run → Option ℕ
offset_in l m run = offset_by (form_of l) m.first run.first

-- the entry of a new partition: all but its sectors and its type is 0
abbrev pub new_entry : ℕ → ℕ → ℕ → LabelEntry
new_entry size offset kind = record { size = size; offset = offset; fragment = 0; fstype = kind; frag = 0; cpg = 0 }

-- `n` of a partition of a label: an unused entry becomes one, with the offset that the label's form gives to where it starts, and
-- nothing else changes
unfoldable pub part_new : ℕ → ℕ → Asked → Layout → Result Layout Refusal
part_new b letter a o = do
  spot ← unused_at b o a.number letter
  kind ← ok_or (new_type a.code) UnknownCode
  run ← placed (area_in spot.label spot.slice) a.alignment a.start a.end
  offset ← ok_or (offset_in spot.label spot.slice run) LabelOffset
  size ← ok_or (in_32_bits (len_of run)) LabelOffset
  Ok (with_entry_of a.number spot.label letter (new_entry size offset kind) o)

-- the partition of a letter in these sectors
abbrev pub placed_part : Member → ℕ → Run → Member
placed_part slice letter run = record { path = letter_path slice.path.number letter; kind = Leaf; first = run.first; last = run.last }
