use Rattle.std.proofs.Common.{◌≡◌, ◌<◌, ◌≤◌, ℕ, false}
use Rattle.pt_edit.specs.Records.{is_unused}
use Rattle.pt_edit.proofs.records.creation.lowest_unused.Given as goal

abbrev pub invariant-loop-number : goal.invariant-loop-number
invariant-loop-number l = (k : ℕ) → 1 ≤ k → k < l.number → is_unused l.records k ≡ false
