-- Which bytes of a sector change where records do.
use Rattle.std.specs.Prelude.{◌≡◌, ◌≢◌, ◌<◌, ◌≤◌, ◌^◌, ◌⊎◌, ◌+◌, ◌∷◌, [], ℕ, List, get_or, slice_range, Option, Some, None, ◌++◌}
use Rattle.pt_sector.specs.declared.address.Lba.{Lba}
use Rattle.pt_mbr.specs.Records.{IsExtendedKind, place_of, record_bytes, IsBootIndicator}
use Rattle.pt_mbr.specs.declared.record.Record.{Record}
use Rattle.pt_mbr.specs.declared.mbr.Mbr.{Mbr}
use Rattle.pt_mbr.specs.declared.ebr.Ebr.{Ebr}
use Rattle.pt_sector.specs.Sectors.{Sectors, Span}
use Rattle.pt_mbr.specs.Chain.{ChainFault}
use Rattle.pt_mbr.specs.declared.chain.ChainError.{ChainError}
use Rattle.pt_mbr.specs.declared.chain.ChainError.TheVariants.{NotUpward}

-- ## Records written into a sector that holds others.

-- the master boot record of these records
abbrev pub mbr_of : List (Option Record) → Mbr
mbr_of records = record { records = records }

-- record k of c has the bytes that it has in b where it stays the same, else those of the new one
abbrev pub IsChanged : Type 0 → Option Record → ℕ → List ℕ → List ℕ → Type 0
IsChanged Same new k b c =
    (Same × (slice_range c (place_of k) (place_of k + 16) ≡ slice_range b (place_of k) (place_of k + 16)))
    ⊎ ((¬ Same) × (slice_range c (place_of k) (place_of k + 16) ≡ record_bytes new))

-- a record that is read as one, and is no protective one
pub record IsPlain (r : Record) : Type 0 where
  pub boot : IsBootIndicator r.boot
  pub typed : r.kind ≢ 0
  pub sized : r.size ≢ 0
  pub plain : r.kind ≢ 0xEE

-- such a record, or none
abbrev pub IsPlainRecord : Option Record → Type 0
IsPlainRecord None = Unit {0}
IsPlainRecord (Some r) = IsPlain r

-- each of the four is one
abbrev pub ArePlain : List (Option Record) → Type 0
ArePlain records = (k : ℕ) → k < 4 → IsPlainRecord (get_or records k None)

-- a record that may be a logical partition's, or none
abbrev pub IsPlainLogical : Option Record → Type 0
IsPlainLogical None = Unit {0}
IsPlainLogical (Some r) = IsPlain r × (¬ IsExtendedKind r.kind)

-- a record that leads to a place, in an extended partition from `first` on
pub record Leads (first : ℕ) (next : Lba) (r : Record) : Type 0 where
  pub boot : IsBootIndicator r.boot
  pub extended : IsExtendedKind r.kind
  pub sized : r.size ≢ 0
  pub there : next.0 ≡ first + r.start

-- the link leads to the next place, and there is none where the chain ends
abbrev pub LinksTo : ℕ → Option Lba → Option Record → Type 0
LinksTo first None None = Unit {0}
LinksTo first (Some next) (Some r) = Leads first next r
LinksTo first next link = ⊥

-- how many sectors there are from an extended boot record to the end of its logical partition
abbrev pub reach_of : Option Record → ℕ
reach_of None = 1
reach_of (Some r) = r.start + r.size

-- the record of a link to an extended boot record
pub record IsLink (first : ℕ) (next : Ebr) (r : Record) : Type 0 where
  pub boot : r.boot ≡ 0
  pub start_chs : r.start_chs ≡ 0xFE ∷ 0xFF ∷ 0xFF ∷ []
  pub kind : r.kind ≡ 0x05
  pub end_chs : r.end_chs ≡ 0xFE ∷ 0xFF ∷ 0xFF ∷ []
  pub start : first + r.start ≡ next.at.0
  pub size : r.size ≡ reach_of next.logical

-- its start and its size have 32 bits, and its size isn't 0
pub record FitsLink (first : ℕ) (next : Ebr) : Type 0 where
  pub above : first ≤ next.at.0
  pub start : next.at.0 < first + 2 ^ 32
  pub some : 0 < reach_of next.logical
  pub size : reach_of next.logical < 2 ^ 32

-- ## The extended boot records that a walk has decoded.

-- the extended boot records that were decoded up to a fault, after those that lead to it
abbrev pub IsDecoded : List Ebr → List Ebr → ChainError → Type 0
IsDecoded before list (NotUpward y) = (e : Ebr) × (e.at ≡ y) × (list ≡ before ++ e ∷ [])
IsDecoded before list e = list ≡ before

-- the way ended in a fault, with these decoded
pub record EndsIn (d : Sectors) (x : Span) (list : List Ebr) (e : ChainError) : Type 0 where
  pub fault : ChainFault d x e
  pub decoded : IsDecoded fault.before list e
