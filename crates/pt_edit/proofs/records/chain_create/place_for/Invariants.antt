use Rattle.std.proofs.Common.{◌≡◌, ◌<◌, ℕ, false}
use Rattle.std.specs.Prelude.{nat_le}
use Rattle.pt_edit.specs.Chains.{ebr_at}
use Rattle.pt_edit.proofs.records.chain_create.place_for.Given as goal

abbrev pub invariant-loop-k : goal.invariant-loop-k
invariant-loop-k l = (j : ℕ) → j < l.k → nat_le l.at.0 (ebr_at l.chain j).at.0 ≡ false
