-- A copy of a GPT: its header, its array, and why a copy doesn't exist: what private contracts cite.
use Rattle.std.specs.Prelude.{◌≡◌, ◌<◌, ◌^◌, ◌↔◌, length, ℕ, List, replicate, Option, Bool, IsTrue}
use Rattle.byteorder.specs.Endian.{little_bytes}
use Rattle.pt_sum.specs.Sums.{crc_of}
use Rattle.pt_gpt.specs.inner.Entries.{put_at}
use Rattle.pt_gpt.specs.Copies.{AreEntries}
use Rattle.pt_gpt.specs.declared.entry.Entry.{Entry}
use Rattle.pt_gpt.specs.declared.header.Header.{Header}
use Rattle.pt_gpt.specs.declared.table.Table.{Table}

-- with zeros in place of the CRC
unfoldable pub unsummed_from : Header → List ℕ → List ℕ
unsummed_from h disk =
    put_at 88 (little_bytes 4 h.array_crc)
    (put_at 84 (little_bytes 4 h.entry_size)
    (put_at 80 (little_bytes 4 h.count)
    (put_at 72 (little_bytes 8 h.array)
    (put_at 56 disk
    (put_at 48 (little_bytes 8 h.last)
    (put_at 40 (little_bytes 8 h.first)
    (put_at 32 (little_bytes 8 h.alternate)
    (put_at 24 (little_bytes 8 h.my)
    (put_at 12 (little_bytes 4 92)
    (put_at 8 (little_bytes 4 0x00010000)
    (put_at 0 (little_bytes 8 0x5452415020494645) (replicate 92 0))))))))))))

unfoldable pub summed_from : Header → List ℕ → List ℕ
summed_from h disk = put_at 16 (little_bytes 4 (crc_of (unsummed_from h disk))) (unsummed_from h disk)

-- a header's numbers fit their fields
pub record HeaderFits (h : Header) : Type 0 where
  pub my : h.my < 2 ^ 64
  pub alternate : h.alternate < 2 ^ 64
  pub first : h.first < 2 ^ 64
  pub last : h.last < 2 ^ 64
  pub disk : length h.disk.0 ≡ 16
  pub array : h.array < 2 ^ 64
  pub count : h.count < 2 ^ 32
  pub entry_size : h.entry_size < 2 ^ 32
  pub array_crc : h.array_crc < 2 ^ 32

-- the bytes are some entries: whether they are these
abbrev pub HaveEntries : List ℕ → List (Option Entry) → Bool → Type 0
HaveEntries bytes entries same = (es : List (Option Entry)) × AreEntries es bytes × (IsTrue same ↔ (es ≡ entries))

-- a table has the header's DiskGUID and its usable sectors
abbrev pub HasNumbers : Header → Table → Type 0
HasNumbers h t = (h.disk ≡ t.disk) × (h.first ≡ t.first) × (h.last ≡ t.last)
