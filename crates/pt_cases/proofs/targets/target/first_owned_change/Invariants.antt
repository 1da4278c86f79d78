use Rattle.std.proofs.Common.{take}
use Rattle.pt_cases.specs.Targets.{NoneHas, IsOwnedChange}
use Rattle.pt_cases.proofs.targets.target.first_owned_change.Given as goal

abbrev pub invariant-loop-target : goal.invariant-loop-target
invariant-loop-target g l = NoneHas (IsOwnedChange l.old) (take l.target-index l.targets)
