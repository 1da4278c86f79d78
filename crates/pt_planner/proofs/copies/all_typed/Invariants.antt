use Rattle.std.proofs.Common.{◌<◌, ℕ, length, slice_index_or, None, IfSome}
use Rattle.pt_gpt.specs.Entries.{IsTyped}
use Rattle.pt_planner.proofs.copies.all_typed.Given as goal

abbrev pub invariant-loop-k : goal.invariant-loop-k
invariant-loop-k l = record {
  so_far : (j : ℕ) → j < l.k → j < length l.entries → IfSome (slice_index_or l.entries j None) IsTyped;
}
