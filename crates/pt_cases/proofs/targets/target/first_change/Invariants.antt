use Rattle.std.proofs.Common.{take}
use Rattle.pt_cases.specs.Targets.{NoneHas, IsOfKind}
use Rattle.pt_cases.specs.declared.targets.target.TargetKind.TheVariants.{Changes}
use Rattle.pt_cases.proofs.targets.target.first_change.Given as goal

abbrev pub invariant-loop-target : goal.invariant-loop-target
invariant-loop-target g l = NoneHas (IsOfKind Changes) (take l.target-index l.targets)
