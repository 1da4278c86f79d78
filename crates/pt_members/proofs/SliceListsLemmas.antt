-- Names for parts of the list of slices, with sectors of 512 bytes, for proofs that walk records, a chain or entries.
use Rattle.std.specs.Prelude.{if◌then◌else◌, ◌+◌, ℕ, is_some}
use Rattle.pt_mbr.specs.declared.ebr.Ebr.{Ebr}

-- the number behind an extended boot record
unfoldable pub next_number : ℕ → Ebr → ℕ
next_number n e = if is_some e.logical then n + 1 else n
