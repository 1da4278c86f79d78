use Rattle.std.proofs.Common.{◌≡◌, ℕ, ◌+◌, ◌<◌}
use Rattle.pt_cases.specs.Targets.{sector_of}
use Rattle.pt_cases.proofs.targets.target.has_twins.Given as goal

abbrev pub invariant-loop-k : goal.invariant-loop-k
invariant-loop-k g l = (j : ℕ) → j + 1 < l.k → ¬ (sector_of l.targets j ≡ sector_of l.targets (j + 1))
