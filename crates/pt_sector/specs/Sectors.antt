-- Sectors, lists of them as disks, and what writes make of a disk.
use Rattle.std.specs.Prelude.{◌≡◌, ◌⊎◌, ◌≤◌, ℕ, List, [], length, slice_index_or, ◌<◌, ◌∷◌, slice_set, ◌≢◌, map}
use Rattle.std.specs.Prelude.{slice_range, ◌+◌}
use Rattle.byteorder.specs.Endian.{little_number}
use Rattle.pt_sector.specs.declared.own.Put.{Put}

-- ## The value of a disk: the list of its sectors.

-- a sector has 512 or 4096 bytes
abbrev pub IsSectorSize : ℕ → Type 0
IsSectorSize b = (b ≡ 512) ⊎ (b ≡ 4096)

-- a disk: its sectors in order, each a list of bytes
abbrev pub Sectors : Type 0
Sectors = List (List ℕ)

-- the bytes of sector k
abbrev pub sector : Sectors → ℕ → List ℕ
sector d k = slice_index_or d k []

-- the number in the n bytes from place i, the lowest byte first
abbrev pub number_at : ℕ → ℕ → List ℕ → ℕ
number_at i n bytes = little_number n (slice_range bytes i (i + n))

-- c has as many sectors as d, and is d on those of S
pub record Agrees (S : ℕ → Type 0) (c d : Sectors) : Type 0 where
  pub count : length c ≡ length d
  pub each : (s : ℕ) → S s → sector c s ≡ sector d s

-- consecutive sectors, from a first to a last
pub record Span : Type 0 where
  pub first : ℕ
  pub last : ℕ

abbrev pub InSpan : Span → ℕ → Type 0
InSpan x s = (x.first ≤ s) × (s ≤ x.last)

-- ## Writes in order, phases of writes, and the disks that a stop within them may leave.

-- writes in order: a sector's number and its bytes
abbrev pub Writes : Type 0
Writes = List (ℕ × List ℕ)

-- the disk after these writes, a later one winning
abbrev pub written : Writes → Sectors → Sectors
written [] d = d
written (w ∷ ws) d = written ws (slice_set d w.0 w.1)

-- the disk after these phases
abbrev pub after : List Writes → Sectors → Sectors
after [] d = d
after (p ∷ ps) d = after ps (written p d)

-- one of the writes puts v into sector k
abbrev pub Puts : Writes → ℕ → List ℕ → Type 0
Puts [] k v = ⊥
Puts (w ∷ ws) k v = ((w.0 ≡ k) × (w.1 ≡ v)) ⊎ Puts ws k v

-- what sector k may hold once some of the writes were done
abbrev pub MayHold : Sectors → Writes → ℕ → List ℕ → Type 0
MayHold d ws k v = (v ≡ sector d k) ⊎ Puts ws k v

-- c is d stopped within these writes: each sector chooses for itself
pub record Stopped (d : Sectors) (ws : Writes) (c : Sectors) : Type 0 where
  pub same_count : length c ≡ length d
  pub each : (k : ℕ) → k < length d → MayHold d ws k (sector c k)

-- ## The writes that an overlay keeps.

-- a sector with the bytes in its slot
abbrev pub as_write : List (List ℕ) → Put → ℕ × List ℕ
as_write ss p = (p.lba.0, slice_index_or ss p.slot [])

abbrev pub puts_as_writes : List Put → List (List ℕ) → Writes
puts_as_writes ps ss = map (as_write ss) ps

abbrev pub no_put : Put
no_put = record { lba = record { 0 = 0 }; slot = 0 }

-- the slot of put i
abbrev pub slot_at : List Put → ℕ → ℕ
slot_at ps i = (slice_index_or ps i no_put).slot

-- each slot is one of the first n
abbrev pub SlotsFit : List Put → ℕ → Type 0
SlotsFit ps n = (i : ℕ) → i < length ps → slot_at ps i < n

-- no two have one slot
abbrev pub SlotsApart : List Put → Type 0
SlotsApart ps = (i j : ℕ) → i < j → j < length ps → slot_at ps i ≢ slot_at ps j

-- ## Writes in the order of their sectors, each sector once.

-- the sector of write i
abbrev pub sector_at : Writes → ℕ → ℕ
sector_at ws i = let w = slice_index_or ws i (0, []) in w.0

abbrev pub IsAscending : Writes → Type 0
IsAscending ws = (i j : ℕ) → i < j → j < length ws → sector_at ws i < sector_at ws j

-- write i is of sector k
pub record IsWriteAt (ws : Writes) (k i : ℕ) : Type 0 where
  pub in_range : i < length ws
  pub has_sector : sector_at ws i ≡ k

-- one of the writes is of sector k
abbrev pub Has : Writes → ℕ → Type 0
Has ws k = (i : ℕ) × IsWriteAt ws k i

-- ## Spans as sets of sectors.

-- the sectors from a first to a last
abbrev pub span : ℕ → ℕ → Span
span first last = record { first = first; last = last }

-- two spans have a sector in common
abbrev pub Share : Span → Span → Type 0
Share x y = (s : ℕ) × InSpan x s × InSpan y s

-- every sector of x is one of y
abbrev pub IsWithin : Span → Span → Type 0
IsWithin x y = (s : ℕ) → InSpan x s → InSpan y s
