use Rattle.std.proofs.Common.{◌<◌, ◌+◌, ◌*◌, ℕ, length, None}
use Rattle.std.specs.Prelude.{slice_index_or, slice_range}
use Rattle.pt_gpt.specs.Entries.{EntryIs}
use Rattle.pt_follow.proofs.array.has_entries.Given as goal

abbrev pub invariant-loop-i : goal.invariant-loop-i
invariant-loop-i g l = (i : ℕ) → i < l.i → l.first + i < length l.entries
    → EntryIs (slice_index_or l.entries (l.first + i) None) (slice_range l.bytes (i * 128) (i * 128 + 128))
