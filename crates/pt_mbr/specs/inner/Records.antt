-- Sector 0 of an MBR disk: its four records, the extended one, and the protective one: what private contracts cite.
use Rattle.std.specs.Prelude.{◌≡◌, ◌≢◌, ◌<◌, ◌≤◌, ◌^◌, ◌⊎◌, ◌+◌, ℕ, List, length, slice_index, slice_range, Option, Some, None, ◌++◌, ◌∷◌}
use Rattle.std.specs.Prelude.{[], replicate}
use Rattle.pt_mbr.specs.Records.{place_of, RecordIs, record_bytes, ReadsAsUsed, protective_record}
use Rattle.pt_mbr.specs.declared.record.Record.{Record}

-- ## Partition records, byte by byte.

-- a record's numbers and places fit their fields
pub record RecordFits (r : Record) : Type 0 where
  pub start_chs : length r.start_chs ≡ 3
  pub end_chs : length r.end_chs ≡ 3
  pub start : r.start < 2 ^ 32
  pub size : r.size < 2 ^ 32

-- the boot indicator of a record, 0 of none
abbrev pub boot_of : Option Record → ℕ
boot_of None = 0
boot_of (Some r) = r.boot

-- c is b with record k written as this one: what stands there, and what reads so
pub record IsWritten (o : Option Record) (k : ℕ) (b c : List ℕ) : Type 0 where
  pub other : (i : ℕ) → (i < place_of k) ⊎ (place_of k + 16 ≤ i) → slice_index c i ≡ slice_index b i
  pub bytes : slice_range c (place_of k) (place_of k + 16) ≡ record_bytes o
  pub boot : slice_index c (place_of k) ≡ boot_of o
  pub kept : (j : ℕ) (p : Option Record) → j < 4 → j ≢ k → RecordIs p (place_of j) b → RecordIs p (place_of j) c
  pub read : ReadsAsUsed o → RecordIs o (place_of k) c

-- ## The protective record of a GPT disk.

-- bytes 446 to 511 of such a sector
unfoldable pub protective_bytes : ℕ → List ℕ
protective_bytes n = record_bytes (Some (protective_record n)) ++ (replicate 48 0 ++ (0x55 ∷ 0xAA ∷ []))
