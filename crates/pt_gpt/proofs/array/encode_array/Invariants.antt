use Rattle.std.proofs.Common.{◌≡◌, ◌*◌, ◌<◌, ℕ, None, length}
use Rattle.std.specs.Prelude.{slice_index_or, IfSome, vec_len}
use Rattle.pt_gpt.specs.Entries.{EntryFits}
use Rattle.pt_gpt.specs.Copies.{entries_bytes}
use Rattle.pt_gpt.proofs.array.encode_array.Given as goal

abbrev pub invariant-loop-entry : goal.invariant-loop-entry
invariant-loop-entry l = record {
  items : l.bytes.items ≡ entries_bytes l.entries 0 l.entry-index;
  len : vec_len l.bytes ≡ l.entry-index * 128;
  long : length (entries_bytes l.entries 0 l.entry-index) ≡ l.entry-index * 128;
  fits : (j : ℕ) → j < l.entry-index → IfSome (slice_index_or l.entries j None) EntryFits;
}
