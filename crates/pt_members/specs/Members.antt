-- The partitions of a layout, its slices, and the rows that show them.
use Rattle.std.specs.Prelude.{if◌then◌else◌, ◌<◌, ◌≤◌, ◌+◌, ◌-◌, ◌^◌, ℕ, List, [], ◌∷◌, ◌++◌, flat_map, option_map, option_to_list}
use Rattle.std.specs.Prelude.{is_some, Bool, Option, Some, None, nat_eq, ◌&&◌, ◌≡◌, ◌⊎◌, filter, nat_lt, nat_le, map, take}
use Rattle.std.specs.Prelude.{count_by, slice_index_or}
use Rattle.std.specs.Str.{bytes_eq}
use Rattle.pt_bsd.specs.Labels.{entry_first_of}
use Rattle.pt_mbr.specs.Records.{is_extended, extended_of}
use Rattle.pt_guid.specs.Codes.{freebsd}
use Rattle.pt_guid.specs.Guids.{mixed}
use Rattle.pt_mbr.specs.declared.record.Record.{Record}
use Rattle.pt_mbr.specs.declared.ebr.Ebr.{Ebr}
use Rattle.pt_gpt.specs.declared.entry.Entry.{Entry}
use Rattle.pt_bsd.specs.declared.label.Label.{Label}
use Rattle.pt_bsd.specs.declared.label.LabelEntry.{LabelEntry}
use Rattle.pt_members.specs.declared.layout.Labelled.{Labelled}
use Rattle.pt_members.specs.declared.layout.Layout.{Layout}
use Rattle.pt_members.specs.declared.layout.Body.{Body}
use Rattle.pt_members.specs.declared.layout.Body.TheVariants.{Mbr, Gpt}
use Rattle.pt_path.specs.declared.path.Path.{Path}
use Rattle.pt_members.specs.declared.member.Kind.{Kind}
use Rattle.pt_members.specs.declared.member.Kind.TheVariants.{Leaf, Extended}
use Rattle.pt_members.specs.declared.member.Member.{Member}
use Rattle.pt_members.specs.declared.layout.Slice.{Slice}
use Rattle.pt_members.specs.declared.member.Kind.TheVariants as kind
use Rattle.pt_members.specs.declared.row.Row.{Row}
use Rattle.pt_members.specs.declared.row.Source.{Source}
use Rattle.pt_members.specs.declared.row.Source.TheVariants as source

-- ## The members of a layout, in groups of siblings.
--
-- Members are the used entries and records, the logical partitions, and the partitions of labels but c. Sectors are
-- the disk's own numbers. With sectors of 4096 bytes there are no slices.

abbrev pub number_path : ℕ → Path
number_path n = record { number = n; letter = None }

abbrev pub letter_path : ℕ → ℕ → Path
letter_path n letter = record { number = n; letter = Some letter }

-- what a record of sector 0 is by its type
abbrev pub record_kind : ℕ → ℕ → Kind
record_kind b code = if nat_eq b 512 && nat_eq code 0xA5 then kind.Slice else (if is_extended code then Extended else Leaf)

-- what a logical partition is by its type
abbrev pub logical_kind : ℕ → ℕ → Kind
logical_kind b code = if nat_eq b 512 && nat_eq code 0xA5 then kind.Slice else Leaf

-- the type of code A500
abbrev pub is_slice_kind : List ℕ → Bool
is_slice_kind kind = bytes_eq kind (mixed freebsd)

-- what an entry is by its type GUID
abbrev pub entry_kind : ℕ → List ℕ → Kind
entry_kind b guid = if nat_eq b 512 && is_slice_kind guid then kind.Slice else Leaf

-- a member from a start and a size relative to a sector
abbrev pub sized_member : Path → Kind → ℕ → ℕ → Member
sized_member path kind first size = record { path = path; kind = kind; first = first; last = first + size - 1 }

abbrev pub record_member : ℕ → ℕ → Record → Member
record_member b n r = sized_member (number_path n) (record_kind b r.kind) r.start r.size

abbrev pub logical_member : ℕ → ℕ → ℕ → Record → Member
logical_member b n at r = sized_member (number_path n) (logical_kind b r.kind) (at + r.start) r.size

abbrev pub entry_member : ℕ → ℕ → Entry → Member
entry_member b n e = record { path = number_path n; kind = entry_kind b e.kind.0; first = e.first; last = e.last }

-- the records from number n on, each as its member, none where it is unused
unfoldable pub records_as : ℕ → ℕ → List (Option Record) → List (Option Member)
records_as b n [] = []
records_as b n (r ∷ rs) = option_map (record_member b n) r ∷ records_as b (n + 1) rs

-- the entries from number n on
unfoldable pub entries_as : ℕ → ℕ → List (Option Entry) → List (Option Member)
entries_as b n [] = []
entries_as b n (e ∷ es) = option_map (entry_member b n) e ∷ entries_as b (n + 1) es

-- the logical partitions from number n on; an empty extended boot record takes no number
unfoldable pub logicals_as : ℕ → ℕ → List Ebr → List (Option Member)
logicals_as b n [] = []
logicals_as b n (e ∷ es) = option_map (logical_member b n e.at.0) e.logical ∷ logicals_as b (if is_some e.logical then n + 1 else n) es

-- those of them that are there
abbrev pub present : List (Option Member) → List Member
present members = flat_map option_to_list members

-- the records or entries
unfoldable pub tops : ℕ → Body → List (Option Member)
tops b (Mbr records chain) = records_as b 1 records
tops b (Gpt t) = entries_as b 1 t.entries

-- the logical partitions
unfoldable pub logicals : ℕ → Body → List (Option Member)
logicals b (Mbr records chain) = logicals_as b 5 chain
logicals b (Gpt t) = []

-- the label of the slice of this number
unfoldable pub label_of : List Labelled → ℕ → Option Label
label_of [] n = None
label_of (l ∷ ls) n = if nat_eq l.number n then Some l.label else label_of ls n

-- entry k of a slice's label, as a member where it is counted, has a size and isn't c
abbrev pub part_of : Label → Member → ℕ → Option LabelEntry → Option Member
part_of l m k None = None
part_of l m k (Some e) =
    if nat_eq k 2 then None
    else (if nat_eq e.size 0 then None else Some (sized_member (letter_path m.path.number k) Leaf (entry_first_of l m.first e) e.size))

-- the entries from letter k on
unfoldable pub parts_as : Label → Member → ℕ → List (Option LabelEntry) → List (Option Member)
parts_as l m k [] = []
parts_as l m k (e ∷ es) = part_of l m k e ∷ parts_as l m (k + 1) es

-- the partitions of a slice's label
unfoldable pub parts_in : Option Label → Member → List (Option Member)
parts_in None m = []
parts_in (Some l) m = parts_as l m 0 l.entries

abbrev pub parts : Layout → Member → List (Option Member)
parts o m = parts_in (label_of o.labels m.path.number) m

-- its sectors exist
abbrev pub Exists : Member → Type 0
Exists m = (m.first ≤ m.last) × (m.last < 2 ^ 63)

abbrev pub Holds : Member → ℕ → Type 0
Holds m s = (m.first ≤ s) × (s ≤ m.last)

-- siblings, and the usable sectors of what holds them, from low to high
pub record Group : Type 0 where
  pub low : ℕ
  pub high : ℕ
  pub members : List Member

abbrev pub group_of : ℕ → ℕ → List Member → Group
group_of low high members = record { low = low; high = high; members = members }

-- the records or entries, in the sectors that are usable on the disk
unfoldable pub top_group : ℕ → ℕ → Body → Group
top_group b n (Mbr records chain) = record { low = 1; high = n - 1; members = present (tops b (Mbr records chain)) }
top_group b n (Gpt t) = record { low = t.first; high = t.last; members = present (tops b (Gpt t)) }

-- what a container holds: an extended partition the logical ones, a slice those of its label from its seventeenth sector on
unfoldable pub group_in : ℕ → Layout → Member → List Group
group_in b o m = elim m.kind as (λ k. List Group) [
  | Leaf ↦ []
  | kind.Slice ↦ record { low = m.first + 16; high = m.last; members = present (parts o m) } ∷ []
  | Extended ↦ record { low = m.first; high = m.last; members = present (logicals b o.body) } ∷ []
]

-- the records or entries, then the logical partitions
abbrev pub slots : ℕ → Body → List (Option Member)
slots b body = tops b body ++ logicals b body

-- a logical partition without an extended one has no usable sector
unfoldable pub strays : ℕ → Body → List Group
strays b (Mbr records chain) = elim (extended_of records) as (λ e. List Group) [
  | [] ↦ record { low = 1; high = 0; members = present (logicals_as b 5 chain) } ∷ []
  | r ∷ rs ↦ []
]
strays b (Gpt t) = []

-- all groups, in path order of what holds them, the top level first
unfoldable pub groups_of : ℕ → Layout → List Group
groups_of b o = top_group b o.sectors o.body ∷ (flat_map (group_in b o) (present (slots b o.body)) ++ strays b o.body)

-- ## Slices, and where their label places are.
--
-- A slice is a member of that kind: what slices there are, in which order and under which numbers, the list of members says.

-- how many sectors there are from a first to a last; none where no such extent exists
abbrev pub extent_len : ℕ → ℕ → ℕ
extent_len first last = if nat_le first last && nat_lt last (2 ^ 63) then last - first + 1 else 0

-- the slice from a first to a last sector
abbrev pub slice_from : ℕ → ℕ → ℕ → Slice
slice_from number first last = record { number = number; first = first; len = extent_len first last }

-- this slice, where the kind is that of slices
abbrev pub slice_as : Kind → Slice → List Slice
slice_as kind.Leaf s = []
slice_as kind.Slice s = s ∷ []
slice_as kind.Extended s = []

-- the slice that a member is, if it is one
abbrev pub slice_of : Member → List Slice
slice_of m = slice_as m.kind (slice_from m.path.number m.first m.last)

-- the slice that stands in a place
abbrev pub slice_in : Option Member → List Slice
slice_in None = []
slice_in (Some m) = slice_of m

-- the slices of a layout in order of their numbers
unfoldable pub slices_of : ℕ → Body → List Slice
slices_of b body = flat_map slice_in (slots b body)

-- the slice has a second sector, and that is one of the disk's n
abbrev pub has_place : ℕ → Slice → Bool
has_place n s = nat_lt 1 s.len && nat_lt (s.first + 1) n

-- the second sector of a slice, where its label stands
abbrev pub place_of : Slice → ℕ
place_of s = s.first + 1

-- the slices that have a label place on a disk of n sectors
unfoldable pub places_of : ℕ → ℕ → Body → List Slice
places_of b n body = filter (has_place n) (slices_of b body)

-- the label place of one of these slices
abbrev pub IsPlace : List Slice → ℕ → Type 0
IsPlace [] s = ⊥
IsPlace (p ∷ ps) s = (s ≡ place_of p) ⊎ IsPlace ps s

-- ## What stands in the place of each partition.

-- the record or the entry in each place, as in `slots`
unfoldable pub sources : Body → List (Option Source)
sources (Mbr records chain) = map (option_map source.Record) records ++ map (λ (e : Ebr). option_map source.Record e.logical) chain
sources (Gpt t) = map (option_map source.Entry) t.entries

-- the entries of a label, as in `parts_in`
abbrev pub part_sources : Label → List (Option Source)
part_sources l = map (option_map source.Part) l.entries

-- a partition with what stands in its place
abbrev pub row_of : Option Member → Option Source → Option Row
row_of None s = None
row_of (Some m) None = None
row_of (Some m) (Some s) = Some (record { member = m; source = s })

unfoldable pub rows_with : List (Option Member) → List (Option Source) → List (Option Row)
rows_with [] ss = []
rows_with (m ∷ ms) [] = []
rows_with (m ∷ ms) (s ∷ ss) = row_of m s ∷ rows_with ms ss

-- the records or entries, then the logical partitions, as in `slots`
abbrev pub rows : ℕ → Body → List (Option Row)
rows b body = rows_with (slots b body) (sources body)

-- the partitions of a slice's label, as in `parts_in`
abbrev pub part_rows : Label → Member → List (Option Row)
part_rows l m = rows_with (parts_in (Some l) m) (part_sources l)

-- ## Logical partitions by the place of their extended boot records.

-- how many of the first k have a logical partition
abbrev pub used_before : ℕ → List Ebr → ℕ
used_before k chain = count_by (λ (e : Ebr). is_some e.logical) (take k chain)

abbrev pub no_ebr : Ebr
no_ebr = record { at = record { 0 = 0 }; logical = None; next = None }

-- the logical partition of extended boot record k
abbrev pub logical_at : ℕ → ℕ → List Ebr → Option Member
logical_at b k chain =
    option_map (logical_member b (5 + used_before k chain) (slice_index_or chain k no_ebr).at.0) (slice_index_or chain k no_ebr).logical

-- the number of the logical partition in a place, the records coming first, or of one that comes in front of it
abbrev pub number_at : Body → ℕ → ℕ
number_at (Mbr records chain) k = 5 + used_before (k - 4) chain
number_at (Gpt t) k = 5
