use Rattle.std.proofs.Common.{◌≡◌, ◌<◌, ℕ, false}
use Rattle.pt_edit.specs.Chains.{ebr_at, is_empty_in}
use Rattle.pt_edit.proofs.records.chain_create.find_empty.Given as goal

abbrev pub invariant-loop-k : goal.invariant-loop-k
invariant-loop-k l = (j : ℕ) → j < l.k → is_empty_in l.at.0 (ebr_at l.chain j) ≡ false
