use Rattle.std.proofs.Common.{◌<◌, ℕ, IsTrue, false}
use Rattle.std.specs.Prelude.{slice_index_or}
use Rattle.pt_follow.proofs.copy.are_set.Given as goal

abbrev pub invariant-loop-k : goal.invariant-loop-k
invariant-loop-k l = (k : ℕ) → k < l.k → IsTrue (slice_index_or l.flags k false)
