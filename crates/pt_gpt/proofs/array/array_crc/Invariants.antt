use Rattle.std.proofs.Common.{◌≡◌, ◌<◌, ℕ, None}
use Rattle.std.specs.Prelude.{slice_index_or, IfSome}
use Rattle.pt_sum.specs.Sums.{after_bytes}
use Rattle.pt_gpt.specs.Entries.{EntryFits}
use Rattle.pt_gpt.specs.Copies.{entries_bytes}
use Rattle.pt_gpt.proofs.array.array_crc.Given as goal

abbrev pub invariant-loop-entry : goal.invariant-loop-entry
invariant-loop-entry l = record {
  sum : l.sum ≡ after_bytes 0xFFFFFFFF (entries_bytes l.entries 0 l.entry-index);
  fits : (j : ℕ) → j < l.entry-index → IfSome (slice_index_or l.entries j None) EntryFits;
}
