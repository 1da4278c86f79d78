-- Entries of a GPT, and their bytes.
use Rattle.std.specs.Prelude.{ℕ, ◌+◌, List, slice_range, ◌≡◌, ◌<◌, ◌^◌, ◌*◌, ◌++◌, length, take, replicate, slice_index, Option, Some}
use Rattle.pt_sector.specs.Sectors.{number_at}
use Rattle.std.specs.Prelude.{None}
use Rattle.byteorder.specs.Endian.{little_bytes}
use Rattle.std.specs.List.{flat_map}
use Rattle.pt_gpt.specs.declared.entry.Entry.{Entry}

-- ## An entry of the table, field by field (UEFI 2.10, 5.3.3).

-- the type GUID is zero
abbrev pub IsUnused : List ℕ → Type 0
IsUnused bytes = take 16 bytes ≡ replicate 16 0

-- the 36 units of the name
abbrev pub UnitsAt : List ℕ → List ℕ → Type 0
UnitsAt bytes name = (length name ≡ 36) × ((k : ℕ) → k < 36 → slice_index name k ≡ number_at (56 + 2 * k) 2 bytes)

-- the fields stand in their places
pub record EntryFields (e : Entry) (bytes : List ℕ) : Type 0 where
  pub kind : slice_range bytes 0 16 ≡ e.kind.0
  pub unique : slice_range bytes 16 32 ≡ e.unique.0
  pub first : number_at 32 8 bytes ≡ e.first
  pub last : number_at 40 8 bytes ≡ e.last
  pub attributes : number_at 48 8 bytes ≡ e.attributes
  pub name : UnitsAt bytes e.name

-- the bytes are a used entry with these fields
pub record EntryBytes (e : Entry) (bytes : List ℕ) : Type 0 where
  pub used : ¬ IsUnused bytes
  pub fields : EntryFields e bytes

-- the bytes are this entry, or none; those of none are free but for the type
abbrev pub EntryIs : Option Entry → List ℕ → Type 0
EntryIs None bytes = IsUnused bytes
EntryIs (Some e) bytes = EntryBytes e bytes

-- an entry whose type GUID isn't zero
abbrev pub IsTyped : Entry → Type 0
IsTyped e = ¬ (e.kind.0 ≡ replicate 16 0)

-- an entry's numbers fit their fields
pub record EntryFits (e : Entry) : Type 0 where
  pub kind : length e.kind.0 ≡ 16
  pub unique : length e.unique.0 ≡ 16
  pub first : e.first < 2 ^ 64
  pub last : e.last < 2 ^ 64
  pub attributes : e.attributes < 2 ^ 64
  pub name : length e.name ≡ 36
  pub units : (i : ℕ) → slice_index e.name i < 2 ^ 16

-- the 128 bytes that an entry is written as
unfoldable pub used_bytes : Entry → List ℕ
used_bytes e =
    e.kind.0 ++ (e.unique.0 ++ (little_bytes 8 e.first ++ (little_bytes 8 e.last ++ (little_bytes 8 e.attributes ++ flat_map
    (little_bytes 2) e.name))))

-- and those of none
abbrev pub entry_bytes : Option Entry → List ℕ
entry_bytes None = replicate 128 0
entry_bytes (Some e) = used_bytes e
