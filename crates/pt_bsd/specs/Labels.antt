-- BSD labels: their bytes, their two forms, and their partitions.
use Rattle.std.specs.Prelude.{ℕ, ◌+◌, List, slice_range, ◌≡◌, ◌<◌, ◌≤◌, ◌⊎◌, ◌*◌, [], ◌∷◌, Option, Some, None, length, take}
use Rattle.pt_sector.specs.Sectors.{number_at}
use Rattle.std.specs.Prelude.{slice_index_or, ◌≢◌, ◌==◌, if◌then◌else◌, replicate, suc, slice_set}
use Rattle.pt_sum.specs.Sums.{xor_of}
use Rattle.pt_bsd.specs.declared.label.Label.{Label}
use Rattle.pt_bsd.specs.declared.label.LabelEntry.{LabelEntry}
use Rattle.pt_bsd.specs.declared.label.LabelError.{LabelError}
use Rattle.pt_bsd.specs.declared.label.LabelError.TheVariants.{Magic, Count, Checksum, SectorSize, RawPartition}
use Rattle.pt_bsd.specs.declared.form.Form.{Form}
use Rattle.pt_bsd.specs.declared.form.Form.TheVariants.{Relative, Absolute}

-- ## Numbers in bytes.

-- ## The BSD label, field by field.

-- how many entries the bytes count
abbrev pub counted_in : List ℕ → ℕ
counted_in bytes = number_at 138 2 bytes

-- where entry k stands
abbrev pub place_of : ℕ → ℕ
place_of k = 148 + 16 * k

-- the first four bytes are the magic
abbrev pub HasMagic : List ℕ → Type 0
HasMagic bytes = number_at 0 4 bytes ≡ 0x82564557

-- both magics are there
pub record HasMagics (bytes : List ℕ) : Type 0 where
  pub first : HasMagic bytes
  pub second : number_at 132 4 bytes ≡ 0x82564557

-- three to eight entries are counted
pub record HasCount (bytes : List ℕ) : Type 0 where
  pub least : 3 ≤ counted_in bytes
  pub most : counted_in bytes ≤ 8

-- the exclusive or of the words from the magic through the last counted entry is 0
unfoldable pub HasSum : List ℕ → Type 0
HasSum bytes = xor_of (take (place_of (counted_in bytes)) bytes) ≡ 0

-- sectors of 512 bytes
abbrev pub HasSectorSize : List ℕ → Type 0
HasSectorSize bytes = number_at 40 4 bytes ≡ 512

-- entry c has the slice's length, and starts at 0 or at the slice's first sector
pub record HasRaw (first len : ℕ) (bytes : List ℕ) : Type 0 where
  pub size : number_at 180 4 bytes ≡ len
  pub start : (number_at 184 4 bytes ≡ 0) ⊎ (number_at 184 4 bytes ≡ first)

-- sectors per track, tracks, cylinders, sectors per cylinder
abbrev pub geometry_at : List ℕ → List ℕ
geometry_at bytes = number_at 44 4 bytes ∷ number_at 48 4 bytes ∷ number_at 52 4 bytes ∷ number_at 56 4 bytes ∷ []

-- the numbers and names of the label stand in their places
pub record HasLabelFields (l : Label) (bytes : List ℕ) : Type 0 where
  pub kind : number_at 4 2 bytes ≡ l.kind
  pub subtype : number_at 6 2 bytes ≡ l.subtype
  pub type_name : slice_range bytes 8 24 ≡ l.type_name
  pub pack_name : slice_range bytes 24 40 ≡ l.pack_name
  pub geometry : geometry_at bytes ≡ l.geometry
  pub unit : number_at 60 4 bytes ≡ l.unit
  pub kept : slice_range bytes 64 132 ≡ l.kept
  pub bbsize : number_at 140 4 bytes ≡ l.bbsize
  pub sbsize : number_at 144 4 bytes ≡ l.sbsize

-- the entry stands at this place
pub record HasEntry (e : LabelEntry) (place : ℕ) (bytes : List ℕ) : Type 0 where
  pub size : number_at place 4 bytes ≡ e.size
  pub offset : number_at (place + 4) 4 bytes ≡ e.offset
  pub fragment : number_at (place + 8) 4 bytes ≡ e.fragment
  pub fstype : number_at (place + 12) 1 bytes ≡ e.fstype
  pub frag : number_at (place + 13) 1 bytes ≡ e.frag
  pub cpg : number_at (place + 14) 2 bytes ≡ e.cpg

-- entry k, from 0 for a, if the label counts it
abbrev pub entry_of : Label → ℕ → Option LabelEntry
entry_of l k = slice_index_or l.entries k None

-- an entry is there exactly where it is counted
abbrev pub IsEntry : Option LabelEntry → ℕ → List ℕ → Type 0
IsEntry None k bytes = counted_in bytes ≤ k
IsEntry (Some e) k bytes = (k < counted_in bytes) × HasEntry e (place_of k) bytes

-- there are eight places for entries, and each says what its bytes do
pub record HasEntries (l : Label) (bytes : List ℕ) : Type 0 where
  pub places : length l.entries ≡ 8
  pub each : (k : ℕ) → k < 8 → IsEntry (entry_of l k) k bytes

-- the bytes are this label, of a slice with this first sector and this length
pub record LabelBytes (l : Label) (first len : ℕ) (bytes : List ℕ) : Type 0 where
  pub magics : HasMagics bytes
  pub count : HasCount bytes
  pub sum : HasSum bytes
  pub sector_size : HasSectorSize bytes
  pub raw : HasRaw first len bytes
  pub fields : HasLabelFields l bytes
  pub entries : HasEntries l bytes

-- the bytes are a label of such a slice
abbrev pub HasLabel : ℕ → ℕ → List ℕ → Type 0
HasLabel first len bytes = (l : Label) × LabelBytes l first len bytes

-- the first of the rules of a label that the bytes break
abbrev pub IsLabelFault : LabelError → ℕ → ℕ → List ℕ → Type 0
IsLabelFault Magic first len bytes = ¬ HasMagics bytes
IsLabelFault Count first len bytes = HasMagics bytes × (¬ HasCount bytes)
IsLabelFault Checksum first len bytes = HasMagics bytes × HasCount bytes × (¬ HasSum bytes)
IsLabelFault SectorSize first len bytes = HasMagics bytes × HasCount bytes × HasSum bytes × (¬ HasSectorSize bytes)
IsLabelFault RawPartition first len bytes =
    HasMagics bytes × HasCount bytes × HasSum bytes × HasSectorSize bytes × (¬ HasRaw first len bytes)

-- ## The two forms of a label: offsets from the slice's first sector, or from the disk's.

-- where entry c starts
abbrev pub raw_offset_in : Option LabelEntry → ℕ
raw_offset_in None = 0
raw_offset_in (Some e) = e.offset

abbrev pub raw_offset : Label → ℕ
raw_offset l = raw_offset_in (entry_of l 2)

-- offsets are the disk's own sector numbers: entry c doesn't start at 0
abbrev pub IsAbsolute : Label → Type 0
IsAbsolute l = raw_offset l ≢ 0

-- the form that an entry c with this offset gives
abbrev pub form_at : ℕ → Form
form_at offset = if offset == 0 then Relative else Absolute

abbrev pub form_of : Label → Form
form_of l = form_at (raw_offset l)

-- the disk's number of the sector at an offset, in a slice with this first sector
abbrev pub sector_by : Form → ℕ → ℕ → ℕ
sector_by Relative first offset = first + offset
sector_by Absolute first offset = offset

-- the first sector of an entry of this label
abbrev pub entry_first_of : Label → ℕ → LabelEntry → ℕ
entry_first_of l first e = sector_by (form_of l) first e.offset

-- relative where entry c starts at 0, absolute where it starts at another first sector; in either entry c starts there
pub record HasForm (l : Label) (first : ℕ) : Type 0 where
  pub form : ((raw_offset l ≡ 0) × (form_of l ≡ Relative)) ⊎ (IsAbsolute l × (raw_offset l ≡ first) × (form_of l ≡ Absolute))
  pub start : sector_by (form_of l) first (raw_offset l) ≡ first

-- ## The label of a slice without partitions.

-- an entry from offset 0 on, all else 0
abbrev pub entry_of_size : ℕ → LabelEntry
entry_of_size n = record { size = n; offset = 0; fragment = 0; fstype = 0; frag = 0; cpg = 0 }

-- eight entries, of which c alone isn't 0: it has n sectors
abbrev pub empty_entries : ℕ → List (Option LabelEntry)
empty_entries n =
    Some (entry_of_size 0) ∷ Some (entry_of_size 0) ∷ Some (entry_of_size n) ∷ Some (entry_of_size 0)
    ∷ Some (entry_of_size 0) ∷ Some (entry_of_size 0) ∷ Some (entry_of_size 0) ∷ Some (entry_of_size 0) ∷ []

-- the empty label of a slice of n sectors, in the relative form
abbrev pub empty_of : ℕ → Label
empty_of n = record {
  kind = 0;
  subtype = 0;
  type_name = replicate 16 0;
  pack_name = replicate 16 0;
  geometry = replicate 4 0;
  unit = n;
  kept = replicate 68 0;
  bbsize = 8192;
  sbsize = 0;
  entries = empty_entries n;
}

-- ## Which labels can be written for a slice.

-- how many entries there are before the first that isn't there
abbrev pub count_of : List (Option LabelEntry) → ℕ
count_of [] = 0
count_of (None ∷ entries) = 0
count_of (Some e ∷ entries) = suc (count_of entries)

-- where the last of them ends
abbrev pub end_of : Label → ℕ
end_of l = place_of (count_of l.entries)

-- three to eight entries are there, and none behind them
pub record IsCounted (l : Label) : Type 0 where
  pub places : length l.entries ≡ 8
  pub least : 3 ≤ count_of l.entries
  pub others : (k : ℕ) → count_of l.entries ≤ k → k < 8 → entry_of l k ≡ None

-- such an entry c has the slice's length, and starts at 0 or at the slice's first sector
abbrev pub IsRaw : Option LabelEntry → ℕ → ℕ → Type 0
IsRaw None first len = ⊥
IsRaw (Some e) first len = (e.size ≡ len) × ((e.offset ≡ 0) ⊎ (e.offset ≡ first))

-- the label's entry c is that of a slice with this first sector and this length
abbrev pub FitsSlice : Label → ℕ → ℕ → Type 0
FitsSlice l first len = IsRaw (entry_of l 2) first len

-- the label with another entry in place k
abbrev pub with_entry : Label → ℕ → LabelEntry → Label
with_entry l k e = record l { entries = slice_set l.entries k (Some e) }
