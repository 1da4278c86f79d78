-- Following a copy: what private contracts cite.
use Rattle.std.specs.Prelude.{◌≡◌, ◌≢◌, ◌<◌, ◌≤◌, ◌++◌, ◌↔◌, ℕ, ◌+◌, ◌-◌, ◌*◌, List, [], length, take, drop, slice_range, slice_index_or}
use Rattle.std.specs.Prelude.{slice_set, Option, Some, None, Result, Ok, Err, IsTrue, Bool, false}
use Rattle.pt_sum.specs.Sums.{crc_of}
use Rattle.pt_sector.specs.Sectors.{Sectors, sector}
use Rattle.pt_gpt.specs.Copies.{HasRoom, counted, array_place, IsPlaced, HeaderBytes, bytes_from, failure_in}
use Rattle.pt_gpt.specs.declared.entry.Entry.{Entry}
use Rattle.pt_gpt.specs.declared.error.CopyError.{CopyError}
use Rattle.pt_gpt.specs.declared.header.Header.{Header}
use Rattle.pt_gpt.specs.declared.table.Side.{Side}
use Rattle.pt_gpt.specs.declared.table.Table.{Table}
use Rattle.pt_follow.specs.Follow.{SectorHas}
use Rattle.pt_follow.specs.declared.copy.FollowedCopy.{FollowedCopy}

-- each of the first flags is set, so many
abbrev pub AreSet : List Bool → ℕ → Type 0
AreSet flags count = (k : ℕ) → k < count → IsTrue (slice_index_or flags k false)

-- the header's fields are the table's, but for the number of entries
abbrev pub IsOf : Header → Table → Type 0
IsOf h t = (h.disk ≡ t.disk) × (h.first ≡ t.first) × (h.last ≡ t.last)

-- its numbers are those of a copy on some disk
abbrev pub IsShaped : ℕ → FollowedCopy → Type 0
IsShaped b c = HasRoom b c.sectors
    × ((c.known ≤ 128) × ((length c.bytes.items ≡ c.known * 128) × (length c.sums.items ≡ counted b c.known)))

-- the sector is of the array, as far as its entries are known
abbrev pub InArrayOf : ℕ → FollowedCopy → ℕ → Type 0
InArrayOf b c s = (array_place b c.side c.sectors ≤ s) × (s < array_place b c.side c.sectors + counted b c.known)

-- the header of this side of n sectors that the bytes are, none where they are none
abbrev pub HeadOf : ℕ → ℕ → Side → List ℕ → Option Header → Type 0
HeadOf b n side bytes None = (h : Header) → HeaderBytes b h bytes → ¬ IsPlaced b side n h
HeadOf b n side bytes (Some h) = HeaderBytes b h bytes × IsPlaced b side n h

-- the bytes of an array's entries, once its sector k holds y: as many of its bytes as count
abbrev pub entries_with : ℕ → List ℕ → ℕ → List ℕ → List ℕ
entries_with b x k y = take (k * b) x ++ (take (length x - k * b) y ++ drop (k * b + b) x)

-- those of an array's bytes that lie in its sector k
abbrev pub range_of : ℕ → List ℕ → ℕ → List ℕ
range_of b x k = slice_range x (k * b) (k * b + b)

-- what is read of an array of so many entries: their bytes, the sum of those in each sector, and whether it has these entries
pub record ReadArray (b : ℕ) (d : Sectors) (at count : ℕ) (es : List (Option Entry)) (bytes sums : List ℕ) (flags : List Bool)
    : Type 0 where
  pub bytes_are : bytes ≡ take (count * 128) (bytes_from d at (counted b count))
  pub whole : (k : ℕ) → k < counted b count → length (sector d (at + k)) ≡ b
  pub parts : length sums ≡ counted b count
  pub sums_are : (k : ℕ) → k < counted b count → slice_index_or sums k 0 ≡ crc_of (take (count * 128 - k * b) (sector d (at + k)))
  pub long : length flags ≡ counted b count
  pub same : (k : ℕ) → k < counted b count → IsTrue (slice_index_or flags k false) ↔ SectorHas b es k (sector d (at + k))

-- sector k of the array holds y now
pub record WritesPart (b : ℕ) (es : List (Option Entry)) (k : ℕ) (y : List ℕ) (old new : FollowedCopy) : Type 0 where
  pub side : new.side ≡ old.side
  pub sectors : new.sectors ≡ old.sectors
  pub known : new.known ≡ old.known
  pub head : new.head ≡ old.head
  pub bytes : new.bytes.items ≡ entries_with b old.bytes.items k y
  pub sum : old.sum ≡ crc_of old.bytes.items → slice_index_or old.sums.items k 0 ≡ crc_of (range_of b old.bytes.items k)
      → new.sum ≡ crc_of new.bytes.items
  pub sums : new.sums.items ≡ slice_set old.sums.items k (crc_of (take (old.known * 128 - k * b) y))
  pub long : length new.same.items ≡ length old.same.items
  pub here : k < length old.same.items → IsTrue (slice_index_or new.same.items k false) ↔ SectorHas b es k y
  pub others : (i : ℕ) → i ≢ k → slice_index_or new.same.items i false ≡ slice_index_or old.same.items i false

-- nothing is known of so many sectors but that no header of the side stands there
pub record KnowsNoEntry (side : Side) (n : ℕ) (c : FollowedCopy) : Type 0 where
  pub of_side : c.side ≡ side
  pub sectors : c.sectors ≡ n
  pub known : c.known ≡ 0
  pub head : c.head ≡ None
  pub bytes : c.bytes.items ≡ []
  pub sum : c.sum ≡ 0
  pub sums : c.sums.items ≡ []
  pub same : c.same.items ≡ []

-- a failure stays one, and every other error says that no header stands
abbrev pub IsHeadless : Side → ℕ → CopyError → Result FollowedCopy CopyError → Type 0
IsHeadless side n e (Err f) = (f ≡ e) × (failure_in e ≢ None)
IsHeadless side n e (Ok c) = (failure_in e ≡ None) × KnowsNoEntry side n c
