-- Words on the entries of a GPT.
use Rattle.std.specs.Prelude.{ℕ, Bool, true, false, List, [], ◌∷◌, flat_map, Option, Some, None, if◌then◌else◌, ◌-◌}
use Rattle.std.specs.Prelude.{length, ◌++◌, replicate, ◌^◌, slice_index_or, slice_set, nat_lt, bit_or, bit_and, nat_eq, ◌&&◌}
use Rattle.std.specs.Prelude.{◌+◌, ◌*◌, ◌||◌, Result, Ok, Err, ok_or, is_some, is_none, find, slice_get}
use Rattle.std.specs.List.{list_any, range_with_len}
use Rattle.std.specs.Str.{bytes_eq}
use Rattle.pt_members.specs.declared.member.Kind.{Kind}
use Rattle.pt_members.specs.declared.member.Kind.TheVariants.{Leaf, Slice}
use Rattle.pt_members.specs.declared.member.Kind.TheVariants as kind
use Rattle.pt_members.specs.declared.member.Member.{Member}
use Rattle.pt_members.specs.Members.{number_path, logical_kind, present, logicals, is_slice_kind, entries_as}
use Rattle.pt_members.specs.Rows.{body_rows, members_of}
use Rattle.pt_edit.specs.declared.partitions.Partition.{Partition}
use Rattle.pt_members.specs.declared.layout.Body.{Body}
use Rattle.pt_members.specs.declared.row.Row.{Row}
use Rattle.pt_members.specs.declared.row.Source.{Source}
use Rattle.pt_members.specs.declared.row.Source.TheVariants as source
use Rattle.pt_gpt.specs.Copies.{array_len, edge}
use Rattle.pt_members.specs.declared.layout.Layout.{Layout}
use Rattle.pt_mbr.specs.declared.ebr.Ebr.{Ebr}
use Rattle.std.specs.Char.Escape.{encode_utf16}
use Rattle.std.specs.Str.{chars}
use Rattle.pt_guid.specs.declared.guid.Guid.{Guid}
use Rattle.pt_gpt.specs.declared.entry.Entry.{Entry}
use Rattle.pt_gpt.specs.declared.table.Table.{Table}
use Rattle.pt_members.specs.declared.layout.Body.TheVariants.{Mbr, Gpt}
use Rattle.pt_words.specs.declared.error.Refusal.{Refusal}
use Rattle.pt_words.specs.declared.error.Refusal.TheVariants.{NoSuchPartition, NameTooLong, NotForThisTable, SameGuid, NumberTaken}
use Rattle.pt_words.specs.declared.error.Refusal.TheVariants.{NoSpace, UnknownCode, ContainerType, NoFreshGuid}
use Rattle.pt_guid.specs.Codes.{type_of}
use Rattle.pt_edit.specs.declared.new_entry.NewEntry.{NewEntry}
use Rattle.pt_edit.specs.SliceLabels.{without_label, with_new_label}
use Rattle.pt_words.specs.declared.word.Code.{Code}
use Rattle.pt_words.specs.declared.word.Code.TheVariants.{Two, Four}
use Rattle.pt_bsd.specs.Labels.{empty_of}
use Rattle.pt_members.specs.declared.layout.Labelled.{Labelled}
use Rattle.pt_edit.specs.declared.space.Run.{Run}
use Rattle.pt_edit.specs.Space.{◌>>=◌, Area, placed, taken_by}
use Rattle.pt_words.specs.declared.asked.Asked.{Asked}

-- ## The partitions of an MBR are its members but the extended one.

-- what a partition is as a member of the layout
abbrev pub member_of : ℕ → Partition → Member
member_of b p = record { path = number_path p.number; kind = logical_kind b p.kind; first = p.first; last = p.last }

abbrev pub is_kept_kind : Kind → Bool
is_kept_kind Leaf = true
is_kept_kind Slice = true
is_kept_kind kind.Extended = false

-- it isn't the extended partition
abbrev pub is_kept : Member → Bool
is_kept m = is_kept_kind m.kind

-- ## The partitions that `g` keeps: the records and logical partitions of an MBR but the extended one, in the order of their numbers.
--
-- They are read off the rows with sectors of 512 bytes. The size of sectors decides only which partitions are slices, and that
-- doesn't matter here: `any_size` of proofs/PartsLemmas.antt says that every other size gives the same ones.

-- the partition that a member with a record of this type is, unless it is the extended one
abbrev pub kept_as : ℕ → Member → List Partition
kept_as kind m = if is_kept m then record { number = m.path.number; kind = kind; first = m.first; last = m.last } ∷ [] else []

-- by what stands in the member's place: only a record makes it a partition of an MBR
abbrev pub kept_by : Member → Source → List Partition
kept_by m (source.Record r) = kept_as r.kind m
kept_by m (source.Entry e) = []
kept_by m (source.Part e) = []

abbrev pub kept_of : Row → List Partition
kept_of row = kept_by row.member row.source

-- all of them; a GPT has none
abbrev pub partitions : Body → List Partition
partitions body = flat_map kept_of (body_rows 512 body)

-- ## Where a layout leaves room for a GPT.

-- what begins and ends at these sectors has one that a new GPT on n sectors can't use; it goes by the two numbers alone, also where
-- the first is past the last
abbrev pub lies_outside : ℕ → ℕ → ℕ → ℕ → Bool
lies_outside b n first last = nat_lt first (edge b) || nat_lt (n - edge b) last

-- a partition, also one of a label, but not the extended one
abbrev pub is_outsider : ℕ → ℕ → Member → Bool
is_outsider b n m = is_kept m && lies_outside b n m.first m.last

-- an extended boot record
abbrev pub is_ebr_outside : ℕ → ℕ → Ebr → Bool
is_ebr_outside b n e = lies_outside b n e.at.0 e.at.0

abbrev pub chain_of : Body → List Ebr
chain_of (Mbr records chain) = chain
chain_of (Gpt t) = []

-- a chain stands in the way: by a record of it, or by more logical partitions than there are numbers for
abbrev pub is_chain_in_way : ℕ → ℕ → Body → Bool
is_chain_in_way b n y = list_any (is_ebr_outside b n) (chain_of y) || nat_lt 124 (length (present (logicals b y)))

-- there is no room: the disk is too small, or something lies outside, or there are too many logical partitions
unfoldable pub no_room : ℕ → Layout → Bool
no_room b o =
    nat_lt o.sectors (2 * array_len b + 4)
    || (list_any (is_outsider b o.sectors) (members_of b o) || is_chain_in_way b o.sectors o.body)

-- ## The name of an entry.

-- the UTF-16 units of a text: two for a character past U+FFFF, one for every other
abbrev pub units_of : List ℕ → List ℕ
units_of text = flat_map encode_utf16 (chars text)

-- the 36 units that a name of fewer is kept as
abbrev pub padded : List ℕ → List ℕ
padded units = units ++ replicate (36 - length units) 0

-- ## What words change in a GPT.

-- the table of a GPT
abbrev pub table_in : Body → Result Table Refusal
table_in (Mbr records chain) = Err NotForThisTable
table_in (Gpt t) = Ok t

-- the table's used entry of a number, from 1 on
abbrev pub used_entry : Table → ℕ → Option Entry
used_entry t number = if nat_eq number 0 then None else slice_index_or t.entries (number - 1) None

-- the table with another entry of a number
abbrev pub with_entry : Table → ℕ → Entry → Table
with_entry t number e = record t { entries = slice_set t.entries (number - 1) (Some e) }

-- the entries without that of a number
abbrev pub without_entry : Table → ℕ → List (Option Entry)
without_entry t number = slice_set t.entries (number - 1) None

-- the layout with another table in the place of its own
abbrev pub with_table : Layout → Table → Layout
with_table o t = record o { body = Gpt t }

-- `c`: a used entry takes the name, if that isn't too long for it
unfoldable pub named : ℕ → List ℕ → Layout → Result Layout Refusal
named number name o = do
  t ← table_in o.body
  e ← ok_or (used_entry t number) NoSuchPartition
  if nat_lt 36 (length (units_of name)) then Err NameTooLong
      else Ok (with_table o (with_entry t number (record e { name = padded (units_of name) })))

-- the entry is used, and has this GUID as its own
abbrev pub has_unique : Guid → Option Entry → Bool
has_unique guid None = false
has_unique guid (Some e) = bytes_eq e.unique.0 guid.0

-- a used entry of another number has it
abbrev pub is_elsewhere : Table → ℕ → Guid → Bool
is_elsewhere t number guid = list_any (has_unique guid) (without_entry t number)

-- `u`: a used entry takes the GUID, if no other has it
unfoldable pub unique_set : ℕ → Guid → Layout → Result Layout Refusal
unique_set number guid o = do
  t ← table_in o.body
  e ← ok_or (used_entry t number) NoSuchPartition
  if is_elsewhere t number guid then Err SameGuid else Ok (with_table o (with_entry t number (record e { unique = guid })))

-- a number of 64 bits with one of them set or cleared; there is no bit past 63
abbrev pub with_bit : ℕ → ℕ → Bool → ℕ
with_bit word bit value = if nat_lt bit 64 then (if value then bit_or word (2 ^ bit) else bit_and word (2 ^ 64 - 1 - 2 ^ bit)) else word

-- `A`: an attribute bit of a used entry is set or cleared
unfoldable pub bit_set : ℕ → ℕ → Bool → Layout → Result Layout Refusal
bit_set number bit value o = do
  t ← table_in o.body
  e ← ok_or (used_entry t number) NoSuchPartition
  Ok (with_table o (with_entry t number (record e { attributes = with_bit e.attributes bit value })))

-- `U`: the disk takes the GUID
unfoldable pub disk_set : Guid → Layout → Result Layout Refusal
disk_set guid o = do
  t ← table_in o.body
  Ok (with_table o (record t { disk = guid }))

-- `e`: the last usable sector is where the present end of the disk allows it
unfoldable pub extended : ℕ → Layout → Result Layout Refusal
extended b o = do
  t ← table_in o.body
  Ok (with_table o (record t { last = o.sectors - edge b }))

-- ## The words `t` and `d` of an entry of a GPT.

-- a type GUID is the slices'; there are none with sectors of 4096 bytes
abbrev pub is_slice : ℕ → List ℕ → Bool
is_slice b kind = nat_eq b 512 && is_slice_kind kind

-- the type GUID that a code gives an entry: four digits, one of the six codes
abbrev pub entry_type : Code → Option (List ℕ)
entry_type (Two code) = None
entry_type (Four code) = type_of code

-- `t`: an entry has another type, if neither is the slices'
unfoldable pub entry_typed : ℕ → Table → ℕ → Code → Layout → Result Layout Refusal
entry_typed b t number code o = do
  e ← ok_or (used_entry t number) NoSuchPartition
  kind ← ok_or (entry_type code) UnknownCode
  if is_slice b e.kind.0 || is_slice b kind then Err ContainerType
      else Ok (with_table o (with_entry t number (record e { kind = record { 0 = kind } })))

-- `d`: an entry goes, with the label that it has as a slice
unfoldable pub entry_deleted : Table → ℕ → Layout → Result Layout Refusal
entry_deleted t number o = do
  e ← ok_or (used_entry t number) NoSuchPartition
  Ok (record { sectors = o.sectors; body = Gpt (record t { entries = without_entry t number }); labels = without_label number o.labels })

-- ## The word `n` without a letter, in a GPT: a new entry.

-- the entry of a number is unused
abbrev pub is_unused : List (Option Entry) → ℕ → Bool
is_unused entries number = is_none (slice_index_or entries (number - 1) None)

-- the lowest number of an unused entry
abbrev pub lowest_unused : Table → Option ℕ
lowest_unused t = find (is_unused t.entries) (range_with_len 1 (length t.entries))

-- the number of a new entry: the one that is asked for, or for 0 the lowest that is unused
abbrev pub number_for : Table → ℕ → Result ℕ Refusal
number_for t asked =
    if nat_lt (length t.entries) asked then Err NoSuchPartition
    else if nat_eq asked 0 then ok_or (lowest_unused t) NoSpace
    else if is_some (used_entry t asked) then Err NumberTaken
    else Ok asked

-- the type of a new entry: that of the code, without one a Linux filesystem
abbrev pub new_type : Option Code → Option (List ℕ)
new_type None = entry_type (Four 0x8300)
new_type (Some code) = entry_type code

-- where a new entry may lie: in usable sectors that no other entry has
abbrev pub table_area : Table → Area
table_area t = record { low = t.first; high = t.last; taken = taken_by (entries_as 512 1 t.entries); empties = None }

abbrev pub run_length : Run → ℕ
run_length run = run.last - run.first + 1

-- the length is impossible for a slice
abbrev pub is_wrong_size : ℕ → List ℕ → Run → Bool
is_wrong_size b kind run = is_slice b kind && (nat_lt (run_length run) 2 || nat_lt 4294967295 (run_length run))

-- the number, the type and the sectors of a new entry
unfoldable pub entry_place : ℕ → Table → Asked → Result NewEntry Refusal
entry_place b t a = do
  number ← number_for t a.number
  kind ← ok_or (new_type a.code) UnknownCode
  run ← placed (table_area t) a.alignment a.start a.end
  if is_wrong_size b kind run then Err ContainerType else Ok (record { number = number; kind = record { 0 = kind }; run = run })

-- a new entry has no attributes and an empty name
abbrev pub new_entry_of : List ℕ → Guid → Run → Entry
new_entry_of kind guid run = record {
  kind = record { 0 = kind };
  unique = guid;
  first = run.first;
  last = run.last;
  attributes = 0;
  name = replicate 36 0;
}

-- a new slice has an empty label
abbrev pub new_labels : ℕ → ℕ → List ℕ → Run → List Labelled → List Labelled
new_labels b number kind run labels = if is_slice b kind then with_new_label number (empty_of (run_length run)) labels else labels

-- the layout with a new entry
abbrev pub with_new_entry : ℕ → Table → ℕ → List ℕ → Guid → Run → Layout → Layout
with_new_entry b t number kind guid run o = record {
  sectors = o.sectors;
  body = Gpt (with_entry t number (new_entry_of kind guid run));
  labels = new_labels b number kind run o.labels;
}

-- `n`: a new entry, with the next fresh GUID
unfoldable pub entry_new : ℕ → Table → Asked → List Guid → Layout → Result Layout Refusal
entry_new b t a fresh o = do
  spot ← entry_place b t a
  guid ← ok_or (slice_get fresh 0) NoFreshGuid
  if is_elsewhere t spot.number guid then Err SameGuid else Ok (with_new_entry b t spot.number spot.kind.0 guid spot.run o)
