-- A side's copy that is followed write by write, and how it stands to a table.
use Rattle.std.specs.Prelude.{◌≡◌, ◌<◌, ◌≤◌, ◌⊎◌, ◌↔◌, ℕ, ◌+◌, ◌-◌, ◌*◌, ◌/◌, List, length, take, slice_range, slice_index_or, Option}
use Rattle.std.specs.Prelude.{Some, None, IsTrue, false}
use Rattle.pt_sum.specs.Sums.{crc_of}
use Rattle.pt_sector.specs.Sectors.{Sectors, sector}
use Rattle.pt_gpt.specs.Entries.{EntryIs}
use Rattle.pt_gpt.specs.Copies.{HasRoom, counted, header_place, array_place, IsHead, bytes_from, Copy, SideReads}
use Rattle.pt_gpt.specs.declared.entry.Entry.{Entry}
use Rattle.pt_gpt.specs.declared.header.Header.{Header}
use Rattle.pt_gpt.specs.declared.table.Side.{Side}
use Rattle.pt_gpt.specs.declared.table.Table.{Table}
use Rattle.pt_follow.specs.declared.copy.FollowedCopy.{FollowedCopy}
use Rattle.pt_follow.specs.declared.standing.Standing.{Standing}
use Rattle.pt_follow.specs.declared.standing.Standing.TheVariants.{Gives, LostHead, LostArray, Unclear}

-- ## A side's sectors.

-- sector k of a side's array
abbrev pub sector_in : ℕ → Sectors → Side → ℕ → List ℕ
sector_in b d side k = sector d (array_place b side (length d) + k)

-- the bytes of so many entries, from the place of a side's array on
abbrev pub entries_at : ℕ → Sectors → Side → ℕ → List ℕ
entries_at b d side count = take (count * 128) (bytes_from d (array_place b side (length d)) (counted b count))

-- those of them that lie in sector k of the array
abbrev pub part_at : ℕ → Sectors → Side → ℕ → ℕ → List ℕ
part_at b d side count k = take (count * 128 - k * b) (sector_in b d side k)

-- the sector is that of the side's header, or one of those that so many entries of its array take, on n sectors
abbrev pub InCopy : ℕ → ℕ → Side → ℕ → ℕ → Type 0
InCopy b n side count s = (s ≡ header_place side n) ⊎ ((array_place b side n ≤ s) × (s < array_place b side n + counted b count))

-- the header that stands there, none where none of this side does
abbrev pub HeadIs : ℕ → Sectors → Side → Option Header → Type 0
HeadIs b d side None = (h : Header) → ¬ IsHead b d side h
HeadIs b d side (Some h) = IsHead b d side h

-- the bytes, as sector k of an array, have these entries, as far as there are any
abbrev pub SectorHas : ℕ → List (Option Entry) → ℕ → List ℕ → Type 0
SectorHas b es k bytes = (i : ℕ) → i < b / 128 → k * (b / 128) + i < length es
    → EntryIs (slice_index_or es (k * (b / 128) + i) None) (slice_range bytes (i * 128) (i * 128 + 128))

-- ## What is known of a side.

-- the side of d is followed: its header, and so many entries of its array, beside those of t
pub record Follows (b : ℕ) (d : Sectors) (side : Side) (t : Table) (c : FollowedCopy) : Type 0 where
  pub room : HasRoom b (length d)
  pub sectors : c.sectors ≡ length d
  pub of_side : c.side ≡ side
  pub few : c.known ≤ 128
  pub whole : (k : ℕ) → k < counted b c.known → length (sector_in b d side k) ≡ b
  pub head : HeadIs b d side c.head
  pub bytes : c.bytes.items ≡ entries_at b d side c.known
  pub sum : c.sum ≡ crc_of (entries_at b d side c.known)
  pub parts : length c.sums.items ≡ counted b c.known
  pub sums : (k : ℕ) → k < counted b c.known → slice_index_or c.sums.items k 0 ≡ crc_of (part_at b d side c.known k)
  pub flags : length c.same.items ≡ counted b c.known
  pub same : (k : ℕ) → k < counted b c.known
      → IsTrue (slice_index_or c.same.items k false) ↔ SectorHas b t.entries k (sector_in b d side k)

-- the side has no copy of any table
abbrev pub HasNone : ℕ → Sectors → Side → Type 0
HasNone b d side = (u : Table) → ¬ Copy b d side u

-- what decides the side are its header, and the sectors of so many entries of its array
abbrev pub IsReadTo : ℕ → Sectors → Side → ℕ → Type 0
IsReadTo b d side count = (s : ℕ) → SideReads b d side s ↔ InCopy b (length d) side count s

-- what a copy is, beside the table that it is compared with: of this table, or lost with its header, or by the CRC of the array of so
-- many entries that its header tells of
abbrev pub StandingIs : ℕ → Sectors → Side → Table → Standing → Type 0
StandingIs b d side t Gives = Copy b d side t × IsReadTo b d side (length t.entries)
StandingIs b d side t LostHead = HasNone b d side × ((s : ℕ) → SideReads b d side s ↔ (s ≡ header_place side (length d)))
StandingIs b d side t (LostArray count) = HasNone b d side × IsReadTo b d side count
StandingIs b d side t Unclear = Unit {0}

-- the header tells of more entries than are known
abbrev pub IsShort : FollowedCopy → Type 0
IsShort c = (h : Header) × (c.head ≡ Some h) × (c.known < h.count)
