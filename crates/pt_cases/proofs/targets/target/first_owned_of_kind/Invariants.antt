use Rattle.std.proofs.Common.{take}
use Rattle.pt_cases.specs.Targets.{NoneHas, IsOwnedOf}
use Rattle.pt_cases.proofs.targets.target.first_owned_of_kind.Given as goal

abbrev pub invariant-loop-target : goal.invariant-loop-target
invariant-loop-target g l = NoneHas (IsOwnedOf l.old l.kind) (take l.target-index l.targets)
