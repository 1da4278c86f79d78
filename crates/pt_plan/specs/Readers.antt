-- What a reader of the primary copy alone finds on a disk.
use Rattle.std.specs.Prelude.{◌≡◌, ◌≤◌, ℕ, ◌+◌, length, Option, Some, None}
use Rattle.pt_sector.specs.Sectors.{Sectors, sector}
use Rattle.pt_gpt.specs.Copies.{AreEntries, HasArrayCrc, HasRange, HasRoom, HasShape, HeaderBytes, array_of, counted, header_place}
use Rattle.pt_gpt.specs.declared.header.Header.{Header}
use Rattle.pt_gpt.specs.declared.table.Side.TheVariants.{Primary}
use Rattle.pt_gpt.specs.declared.table.Table.{Table}

-- sector 1 is this header, by the checks of UEFI 2.10, 5.3.2: signature, revision, size, CRC, its own place, 1 to 128 entries of 128
-- bytes, and the usable range. Its array stands anywhere on the disk
pub record IsFollowed (b : ℕ) (d : Sectors) (h : Header) : Type 0 where
  pub bytes : HeaderBytes b h (sector d (header_place Primary (length d)))
  pub my : h.my ≡ header_place Primary (length d)
  pub shape : HasShape h
  pub range : HasRange b (length d) h
  pub within : h.array + counted b h.count ≤ length d

-- a reader of the primary copy finds the table t: that header, an array with its CRC where the header says, and t's values in both. It
-- doesn't look at the backup copy
pub record FollowsPrimary (b : ℕ) (d : Sectors) (t : Table) : Type 0 where
  pub room : HasRoom b (length d)
  pub head : Header
  pub followed : IsFollowed b d head
  pub crc : HasArrayCrc b d head
  pub disk : t.disk ≡ head.disk
  pub first : t.first ≡ head.first
  pub last : t.last ≡ head.last
  pub count : length t.entries ≡ head.count
  pub entries : AreEntries t.entries (array_of b d head)

-- it finds this table
abbrev pub Finds : ℕ → Sectors → Option Table → Type 0
Finds b d None = ⊥
Finds b d (Some t) = FollowsPrimary b d t
