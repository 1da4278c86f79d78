-- A copy of a GPT: its header, its array, and why a copy doesn't exist.
use Rattle.std.specs.Prelude.{◌≡◌, ◌<◌, ◌≤◌, ℕ, zero, suc, ◌+◌, ◌-◌, ◌*◌, ◌/◌, List, [], ◌++◌, length, slice_range, slice_index_or}
use Rattle.std.specs.Prelude.{Option, None, IfSome, take, codes, replicate, ◌⊎◌, ◌↔◌, Some, Bool, IsTrue}
use Rattle.pt_gpt.specs.Entries.{EntryIs, EntryFits, IsTyped, entry_bytes}
use Rattle.pt_gpt.specs.declared.array.EncodedArray.{EncodedArray}
use Rattle.pt_gpt.specs.declared.entry.Entry.{Entry}
use Rattle.pt_sum.specs.Sums.{crc_of}
use Rattle.pt_gpt.specs.declared.header.Header.{Header}
use Rattle.pt_gpt.specs.declared.error.CopyError.{CopyError}
use Rattle.pt_gpt.specs.declared.error.CopyError.TheVariants.{Signature, Revision, HeaderSize, HeaderCrc, MyLba, ArrayPlace, EntryShape}
use Rattle.pt_gpt.specs.declared.error.CopyError.TheVariants.{UsableRange, ArrayCrc, Device, Memory}
use Rattle.pt_sector.specs.Sectors.{Sectors, sector, number_at}
use Rattle.pt_gpt.specs.declared.table.Side.{Side}
use Rattle.pt_gpt.specs.declared.table.Side.TheVariants.{Primary, Backup}
use Rattle.pt_gpt.specs.declared.table.Table.{Table}
use Rattle.pt_sector.specs.declared.disk.Fault.{Fault}
use Rattle.pt_sector.specs.declared.disk.Fault.TheVariants.{Read}
use Rattle.pt_sector.specs.declared.reading.Failure.{Failure}
use Rattle.pt_sector.specs.declared.reading.Failure.TheVariants as failure

-- ## An array of entries, in its bytes and in its sectors.

-- how many sectors an array of 128 entries takes
abbrev pub array_len : ℕ → ℕ
array_len b = 16384 / b

-- so many sectors have room for sector 0, both headers, both arrays and one usable sector
abbrev pub HasRoom : ℕ → ℕ → Type 0
HasRoom b n = 2 * array_len b + 4 ≤ n

-- the first usable sector behind a header and a whole array, and as many at the disk's end
abbrev pub edge : ℕ → ℕ
edge b = array_len b + 2

-- how many sectors this many entries take
abbrev pub counted : ℕ → ℕ → ℕ
counted b count = (count * 128 + (b - 1)) / b

-- the bytes are these entries, one by one
pub record AreEntries (entries : List (Option Entry)) (bytes : List ℕ) : Type 0 where
  pub count : length bytes ≡ length entries * 128
  pub each : (k : ℕ) → k < length entries → EntryIs (slice_index_or entries k None) (slice_range bytes (k * 128) (k * 128 + 128))

-- the bytes that n entries from place i on are written as; past the last one there is none
unfoldable pub entries_bytes : List (Option Entry) → ℕ → ℕ → List ℕ
entries_bytes entries i zero = []
entries_bytes entries i (suc n) = entries_bytes entries i n ++ entry_bytes (slice_index_or entries (i + n) None)

-- the bytes that an array is written as, as far as its CRC goes
abbrev pub array_bytes : List (Option Entry) → List ℕ
array_bytes entries = entries_bytes entries 0 (length entries)

-- sector k of the array that they are written as, with zeros past the last entry
abbrev pub array_sector : ℕ → List (Option Entry) → ℕ → List ℕ
array_sector b entries k = entries_bytes entries (k * (b / 128)) (b / 128)

-- every used entry has a type
abbrev pub AllTyped : List (Option Entry) → Type 0
AllTyped entries = (k : ℕ) → k < length entries → IfSome (slice_index_or entries k None) IsTyped

-- every used entry's numbers fit their fields
abbrev pub AllFit : List (Option Entry) → Type 0
AllFit entries = (k : ℕ) → k < length entries → IfSome (slice_index_or entries k None) EntryFits

-- these entries, encoded as a whole array
pub record IsEncoded (entries : List (Option Entry)) (a : EncodedArray) : Type 0 where
  pub bytes : a.bytes.items ≡ entries_bytes entries 0 128
  pub long : length a.bytes.items ≡ 16384
  pub crc : a.crc ≡ crc_of (array_bytes entries)
  pub fit : AllFit entries

-- ## The header of a GUID partition table, field by field (UEFI 2.10, 5.3.2), in a sector of b bytes.

abbrev pub header_size : List ℕ → ℕ
header_size bytes = number_at 12 4 bytes

-- what the header's CRC is taken over: its first bytes, as many as its size says, with zeros in place of the CRC
abbrev pub summed : List ℕ → List ℕ
summed bytes = take 16 bytes ++ replicate 4 0 ++ slice_range bytes 20 (header_size bytes)

abbrev pub HasHeaderSignature : List ℕ → Type 0
HasHeaderSignature bytes = slice_range bytes 0 8 ≡ codes "EFI PART"

abbrev pub HasRevision : List ℕ → Type 0
HasRevision bytes = number_at 8 4 bytes ≡ 0x00010000

abbrev pub HasSize : ℕ → List ℕ → Type 0
HasSize b bytes = (92 ≤ header_size bytes) × (header_size bytes ≤ b)

abbrev pub HasCrc : List ℕ → Type 0
HasCrc bytes = number_at 16 4 bytes ≡ crc_of (summed bytes)

-- the fields stand in their places
pub record HeaderFields (h : Header) (bytes : List ℕ) : Type 0 where
  pub my : number_at 24 8 bytes ≡ h.my
  pub alternate : number_at 32 8 bytes ≡ h.alternate
  pub first : number_at 40 8 bytes ≡ h.first
  pub last : number_at 48 8 bytes ≡ h.last
  pub disk : slice_range bytes 56 72 ≡ h.disk.0
  pub array : number_at 72 8 bytes ≡ h.array
  pub count : number_at 80 4 bytes ≡ h.count
  pub entry_size : number_at 84 4 bytes ≡ h.entry_size
  pub array_crc : number_at 88 4 bytes ≡ h.array_crc

-- the bytes of a sector are a header with these fields; bytes 20 to 23 and those past 92 are free but for the CRC
pub record HeaderBytes (b : ℕ) (h : Header) (bytes : List ℕ) : Type 0 where
  pub signature : HasHeaderSignature bytes
  pub revision : HasRevision bytes
  pub size : HasSize b bytes
  pub crc : HasCrc bytes
  pub fields : HeaderFields h bytes

-- the first of the rules of a header that the bytes break
abbrev pub IsHeaderFault : ℕ → CopyError → List ℕ → Type 0
IsHeaderFault b Signature bytes = ¬ HasHeaderSignature bytes
IsHeaderFault b Revision bytes = HasHeaderSignature bytes × (¬ HasRevision bytes)
IsHeaderFault b HeaderSize bytes = HasHeaderSignature bytes × HasRevision bytes × (¬ HasSize b bytes)
IsHeaderFault b HeaderCrc bytes = HasHeaderSignature bytes × HasRevision bytes × HasSize b bytes × (¬ HasCrc bytes)
IsHeaderFault b _ bytes = ⊥

-- ## A copy of a GUID partition table on a disk with sectors of b bytes, and the sectors that decide it.

-- the sector of a side's header, of n sectors
abbrev pub header_place : Side → ℕ → ℕ
header_place Primary n = 1
header_place Backup n = n - 1

-- the first sector of a side's array
abbrev pub array_place : ℕ → Side → ℕ → ℕ
array_place b Primary n = 2
array_place b Backup n = n - (array_len b + 1)

abbrev pub HasMy : Side → ℕ → Header → Type 0
HasMy side n h = h.my ≡ header_place side n

abbrev pub HasPlace : ℕ → Side → ℕ → Header → Type 0
HasPlace b side n h = h.array ≡ array_place b side n

abbrev pub HasShape : Header → Type 0
HasShape h = (1 ≤ h.count) × (h.count ≤ 128) × (h.entry_size ≡ 128)

abbrev pub HasRange : ℕ → ℕ → Header → Type 0
HasRange b n h = (array_len b + 2 ≤ h.first) × (h.first ≤ h.last) × (h.last ≤ n - (array_len b + 2))

-- a header's fields are those of a table on this side of n sectors; the alternate's place isn't looked at
pub record IsPlaced (b : ℕ) (side : Side) (n : ℕ) (h : Header) : Type 0 where
  pub my : HasMy side n h
  pub place : HasPlace b side n h
  pub shape : HasShape h
  pub range : HasRange b n h

-- the first of these rules that the header breaks
abbrev pub IsPlaceFault : ℕ → Side → ℕ → Header → CopyError → Type 0
IsPlaceFault b side n h MyLba = ¬ HasMy side n h
IsPlaceFault b side n h ArrayPlace = HasMy side n h × (¬ HasPlace b side n h)
IsPlaceFault b side n h EntryShape = HasMy side n h × HasPlace b side n h × (¬ HasShape h)
IsPlaceFault b side n h UsableRange = HasMy side n h × HasPlace b side n h × HasShape h × (¬ HasRange b n h)
IsPlaceFault b side n h _ = ⊥

-- the bytes of the sector where a side's header stands
abbrev pub header_sector : Sectors → Side → List ℕ
header_sector d side = sector d (header_place side (length d))

-- the side's header stands, and its fields are those of a table at this place
pub record IsHead (b : ℕ) (d : Sectors) (side : Side) (h : Header) : Type 0 where
  pub bytes : HeaderBytes b h (header_sector d side)
  pub placed : IsPlaced b side (length d) h

-- the side has no such header: its sector is none, or one whose fields break a rule
pub data IsHeadFault (b : ℕ) (d : Sectors) (side : Side) : CopyError → Type 0 where
  no_header : (e : CopyError) → IsHeaderFault b e (header_sector d side) → IsHeadFault b d side e
  misplaced : (h : Header) (e : CopyError) → HeaderBytes b h (header_sector d side) → IsPlaceFault b side (length d) h e
      → IsHeadFault b d side e

-- the bytes of n sectors from a place on
unfoldable pub bytes_from : Sectors → ℕ → ℕ → List ℕ
bytes_from d at zero = []
bytes_from d at (suc n) = bytes_from d at n ++ sector d (at + n)

-- the bytes of the entries that a header tells of
abbrev pub array_of : ℕ → Sectors → Header → List ℕ
array_of b d h = take (h.count * 128) (bytes_from d h.array (counted b h.count))

abbrev pub HasArrayCrc : ℕ → Sectors → Header → Type 0
HasArrayCrc b d h = h.array_crc ≡ crc_of (array_of b d h)

-- the side's header is h, the array has its CRC, and t is the table of both
pub record CopyWith (b : ℕ) (d : Sectors) (side : Side) (h : Header) (t : Table) : Type 0 where
  pub is_head : IsHead b d side h
  pub crc : HasArrayCrc b d h
  pub disk : t.disk ≡ h.disk
  pub first : t.first ≡ h.first
  pub last : t.last ≡ h.last
  pub count : length t.entries ≡ h.count
  pub entries : AreEntries t.entries (array_of b d h)

-- the side's copy exists, and its table is t
pub record Copy (b : ℕ) (d : Sectors) (side : Side) (t : Table) : Type 0 where
  pub room : HasRoom b (length d)
  pub head : Header
  pub stands : CopyWith b d side head t

-- the side's header is h, and a copy stands there with it: whether that is a copy of t
abbrev pub TellsSame : ℕ → Sectors → Side → Header → Table → Bool → Type 0
TellsSame b d side h t same = (u : Table) × CopyWith b d side h u × (IsTrue same ↔ (u ≡ t))

abbrev pub HasCopy : ℕ → Sectors → Side → Type 0
HasCopy b d side = (t : Table) × Copy b d side t

-- the side's header is h, and the array that it tells of is written as t's entries
pub record IsWrittenCopy (b : ℕ) (d : Sectors) (side : Side) (h : Header) (t : Table) : Type 0 where
  pub is_head : IsHead b d side h
  pub disk : t.disk ≡ h.disk
  pub first : t.first ≡ h.first
  pub last : t.last ≡ h.last
  pub count : length t.entries ≡ h.count
  pub crc : h.array_crc ≡ crc_of (array_bytes t.entries)
  pub array : (k : ℕ) → k < counted b h.count → sector d (h.array + k) ≡ array_sector b t.entries k

-- why the side's copy doesn't exist: the first rule that fails, those of the header before the array's CRC
pub data IsCopyFault (b : ℕ) (d : Sectors) (side : Side) : CopyError → Type 0 where
  no_head : (e : CopyError) → IsHeadFault b d side e → IsCopyFault b d side e
  other_crc : (h : Header) → IsHead b d side h → ¬ HasArrayCrc b d h → IsCopyFault b d side ArrayCrc

-- the counted sectors of the array that a header tells of
abbrev pub InArray : ℕ → Header → ℕ → Type 0
InArray b h s = (h.array ≤ s) × (s < h.array + counted b h.count)

-- the sectors that decide a side: the header's, and where a header stands there, the counted ones of its array
abbrev pub SideReads : ℕ → Sectors → Side → ℕ → Type 0
SideReads b d side s = (s ≡ header_place side (length d)) ⊎ ((h : Header) × IsHead b d side h × InArray b h s)

-- a side is the same on c and on d
pub record SameSide (b : ℕ) (side : Side) (c d : Sectors) : Type 0 where
  pub heads : (h : Header) → IsHead b c side h ↔ IsHead b d side h
  pub tables : (h : Header) (t : Table) → CopyWith b c side h t ↔ CopyWith b d side h t
  pub copies : (t : Table) → Copy b c side t ↔ Copy b d side t
  pub faults : (e : CopyError) → IsCopyFault b c side e ↔ IsCopyFault b d side e
  pub reads : (s : ℕ) → SideReads b c side s ↔ SideReads b d side s

-- ## The errors of reading a copy.

-- the number that stands for an error in what is printed
abbrev pub error_number : CopyError → ℕ
error_number Signature = 1
error_number Revision = 2
error_number HeaderSize = 3
error_number HeaderCrc = 4
error_number MyLba = 5
error_number ArrayPlace = 6
error_number EntryShape = 7
error_number UsableRange = 8
error_number ArrayCrc = 9
error_number (Device at) = 10
error_number Memory = 11

-- an error that the disk's content doesn't explain
abbrev pub IsOutsideCopy : CopyError → Type 0
IsOutsideCopy (Device at) = Unit {0}
IsOutsideCopy Memory = Unit {0}
IsOutsideCopy _ = ⊥

-- the failure that it is
abbrev pub failure_in : CopyError → Option Failure
failure_in (Device at) = Some (failure.Device at)
failure_in Memory = Some failure.Memory
failure_in _ = None

-- an error of a call that takes no memory
abbrev pub NeedsNoMemory : CopyError → Type 0
NeedsNoMemory Memory = ⊥
NeedsNoMemory _ = Unit {0}

-- the fault that an error carries
abbrev pub fault_in : CopyError → Option Fault
fault_in (Device at) = Some (Read at)
fault_in _ = None

-- the sector whose read failed is one of these
abbrev pub FailedInCopy : (ℕ → Type 0) → CopyError → Type 0
FailedInCopy S (Device at) = S at.0
FailedInCopy S _ = Unit {0}

-- ## What reading a copy answers.

-- an error in reading a side's header: the device's, or the first rule that it breaks
abbrev pub TellsHeadFault : ℕ → Sectors → Side → CopyError → Type 0
TellsHeadFault b d side e = IsOutsideCopy e ⊎ IsHeadFault b d side e

-- an error in reading a copy: the device's, lack of memory, or the first rule that fails
abbrev pub TellsFault : ℕ → Sectors → Side → CopyError → Type 0
TellsFault b d side e = IsOutsideCopy e ⊎ IsCopyFault b d side e
