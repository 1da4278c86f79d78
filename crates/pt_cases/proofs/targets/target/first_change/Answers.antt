use Rattle.std.proofs.Common.{arith}
use Rattle.pt_cases.specs.Targets.{IsOfKind}
use Rattle.pt_cases.specs.declared.targets.target.TargetKind.TheVariants.{Changes}
use Rattle.pt_cases.proofs.Steps.{unless, none_more, none_all}
use Rattle.pt_cases.proofs.targets.target.first_change.Goals as goal

pub loop-target-preserved : goal.loop-target-preserved
loop-target-preserved g c =
    none_more (IsOfKind Changes) c.args.targets.now c.loop-target.target-index c.target-item.result
    (omega arith) c.target-item.is c.loop-target.invariant (unless _ c.if-is_of.ensures)

pub returns-clause-none : goal.returns-clause-none
returns-clause-none g c = none_all (IsOfKind Changes) c.args.targets.now c.loop-target.target-index (omega arith) c.loop-target.invariant
