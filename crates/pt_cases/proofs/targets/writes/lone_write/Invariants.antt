use Rattle.std.proofs.Common.{◌≡◌, take, option_to_list}
use Rattle.pt_apply.specs.Plans.{writes_of}
use Rattle.pt_cases.specs.inner.Targets.{chosen_writes}
use Rattle.pt_cases.proofs.targets.writes.lone_write.Given as goal

abbrev pub invariant-loop-target : goal.invariant-loop-target
invariant-loop-target g l = writes_of (option_to_list l.found) ≡ chosen_writes l.choice (take l.target-index l.targets)
