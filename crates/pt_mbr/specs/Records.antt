-- Sector 0 of an MBR disk: its four records, the extended one, and the protective one.
use Rattle.std.specs.Prelude.{if◌then◌else◌, ◌≡◌, ◌+◌, ◌-◌, ℕ, Bool, List, [], ◌∷◌, Option, Some, None, nat_eq, ◌||◌, ◌++◌, length, take}
use Rattle.std.specs.Prelude.{drop, slice_index, slice_range, ◌≢◌, ◌⊎◌, ◌*◌, replicate, get_or, min}
use Rattle.pt_sector.specs.Sectors.{Span, number_at}
use Rattle.pt_mbr.specs.declared.record.Record.{Record}
use Rattle.pt_mbr.specs.declared.extended.Extended.{Extended}
use Rattle.pt_mbr.specs.declared.extended.Extended.TheVariants as found
use Rattle.byteorder.specs.Endian.{little_bytes}
use Rattle.pt_mbr.specs.declared.mbr.Mbr.{Mbr}
use Rattle.pt_mbr.specs.declared.chain.ChainError.{ChainError}
use Rattle.pt_mbr.specs.declared.chain.ChainError.TheVariants.{NoSignature, BadRecord, NotUpward, OutsideExtended, TooLong, Device}

-- ## The extended ones of the records of sector 0.

-- the types of an extended partition
abbrev pub is_extended : ℕ → Bool
is_extended kind = nat_eq kind 0x05 || nat_eq kind 0x0F

-- the used extended records
unfoldable pub extended_of : List (Option Record) → List Record
extended_of [] = []
extended_of (None ∷ rs) = extended_of rs
extended_of (Some r ∷ rs) = if is_extended r.kind then r ∷ extended_of rs else extended_of rs

-- the sectors of a record of sector 0
abbrev pub extent_of : Record → Span
extent_of r = record { first = r.start; last = r.start + r.size - 1 }

-- none of these, one, or the first of more
abbrev pub ExtendedIs : List Record → Extended → Type 0
ExtendedIs rs found.Nothing = rs ≡ []
ExtendedIs rs (found.One r) = rs ≡ r ∷ []
ExtendedIs rs (found.More r) = (next : Record) × (rest : List Record) × (rs ≡ r ∷ next ∷ rest)

-- ## Numbers and marks in the bytes of a sector.

-- b with other bytes from place i on
unfoldable pub put_at : ℕ → List ℕ → List ℕ → List ℕ
put_at i new b = take i b ++ (new ++ drop (i + length new) b)

-- the two bytes that end a boot record
unfoldable pub HasSignature : List ℕ → Type 0
HasSignature b = (slice_index b 510 ≡ 0x55) × (slice_index b 511 ≡ 0xAA)

-- ## Partition records, byte by byte.

-- where record k stands, k from 0 to 3
abbrev pub place_of : ℕ → ℕ
place_of k = 446 + 16 * k

-- a record is used where neither its type nor its size is 0
abbrev pub IsUsed : ℕ → List ℕ → Type 0
IsUsed at b = (slice_index b (at + 4) ≢ 0) × (number_at (at + 12) 4 b ≢ 0)

-- the fields that stand from a place on
pub record HasFields (r : Record) (at : ℕ) (b : List ℕ) : Type 0 where
  pub boot : slice_index b at ≡ r.boot
  pub start_chs : slice_range b (at + 1) (at + 4) ≡ r.start_chs
  pub kind : slice_index b (at + 4) ≡ r.kind
  pub end_chs : slice_range b (at + 5) (at + 8) ≡ r.end_chs
  pub start : number_at (at + 8) 4 b ≡ r.start
  pub size : number_at (at + 12) 4 b ≡ r.size

-- the record that stands there, none where it is unused
abbrev pub RecordIs : Option Record → ℕ → List ℕ → Type 0
RecordIs None at b = ¬ IsUsed at b
RecordIs (Some r) at b = IsUsed at b × HasFields r at b

-- the types of an extended partition
abbrev pub IsExtendedKind : ℕ → Type 0
IsExtendedKind kind = (kind ≡ 0x05) ⊎ (kind ≡ 0x0F)

-- the 16 bytes of a record, its fields in order, and of none
unfoldable pub record_bytes : Option Record → List ℕ
record_bytes None = replicate 16 0
record_bytes (Some r) = (r.boot ∷ r.start_chs) ++ (r.kind ∷ r.end_chs) ++ little_bytes 4 r.start ++ little_bytes 4 r.size

-- c is b with record k written anew: its 16 bytes, and no other
abbrev pub IsPut : Option Record → ℕ → List ℕ → List ℕ → Type 0
IsPut o k b c = c ≡ put_at (place_of k) (record_bytes o) b

-- a record that is used reads as one
abbrev pub ReadsAsUsed : Option Record → Type 0
ReadsAsUsed None = Unit {0}
ReadsAsUsed (Some r) = (r.kind ≢ 0) × (r.size ≢ 0)

-- ## The master boot record.

abbrev pub IsBootIndicator : ℕ → Type 0
IsBootIndicator n = (n ≡ 0) ⊎ (n ≡ 0x80)

-- each of the four boot indicators is one, also those of unused records
unfoldable pub HasBootIndicators : List ℕ → Type 0
HasBootIndicators b =
    IsBootIndicator (slice_index b 446) × IsBootIndicator (slice_index b 462) × IsBootIndicator (slice_index b 478)
    × IsBootIndicator (slice_index b 494)

pub record IsMbrFormed (b : List ℕ) : Type 0 where
  pub signature : HasSignature b
  pub boots : HasBootIndicators b

-- the four records, each as its bytes say
pub record AreRecords (records : List (Option Record)) (b : List ℕ) : Type 0 where
  pub four : length records ≡ 4
  pub first : RecordIs (get_or records 0 None) 446 b
  pub second : RecordIs (get_or records 1 None) 462 b
  pub third : RecordIs (get_or records 2 None) 478 b
  pub fourth : RecordIs (get_or records 3 None) 494 b

pub record MbrBytes (m : Mbr) (b : List ℕ) : Type 0 where
  pub formed : IsMbrFormed b
  pub records : AreRecords m.records b

-- one of the four records, used or not, has the type of a protective one
unfoldable pub BearsProtective : List ℕ → Type 0
BearsProtective b = (slice_index b 450 ≡ 0xEE) ⊎ (slice_index b 466 ≡ 0xEE) ⊎ (slice_index b 482 ≡ 0xEE) ⊎ (slice_index b 498 ≡ 0xEE)

-- ## The protective record of a GPT disk.

-- it covers all of n sectors but the first, or as many as 32 bits can say
abbrev pub protective_record : ℕ → Record
protective_record n =
    record { boot = 0; start_chs = 0 ∷ 2 ∷ 0 ∷ []; kind = 0xEE; end_chs = replicate 3 0xFF; start = 1; size = min (n - 1) 0xFFFFFFFF }

-- sector 0 of a disk of n sectors has that record, and 48 zero bytes after it
pub record IsProtective (n : ℕ) (b : List ℕ) : Type 0 where
  pub formed : IsMbrFormed b
  pub first : HasFields (protective_record n) 446 b
  pub zeros : slice_range b 462 510 ≡ replicate 48 0

-- ## The numbers that stand for the errors of chains in what is printed.

abbrev pub error_number : ChainError → ℕ
error_number (NoSignature at) = 1
error_number (BadRecord at) = 2
error_number (NotUpward at) = 3
error_number (OutsideExtended at) = 4
error_number TooLong = 5
error_number (Device at) = 6
