use Rattle.std.proofs.Common.{◌≡◌, take}
use Rattle.pt_apply.specs.Plans.{writes_of}
use Rattle.pt_cases.specs.inner.Targets.{chosen_writes}
use Rattle.pt_cases.proofs.targets.writes.chosen_writes.Given as goal

abbrev pub invariant-loop-target : goal.invariant-loop-target
invariant-loop-target g l = writes_of l.writes.items ≡ chosen_writes l.choice (take l.target-index l.targets)
