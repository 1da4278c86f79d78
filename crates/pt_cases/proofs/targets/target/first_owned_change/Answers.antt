use Rattle.std.proofs.Common.{arith}
use Rattle.pt_cases.specs.Targets.{IsOwnedChange}
use Rattle.pt_cases.proofs.Steps.{unless, none_more, none_all}
use Rattle.pt_cases.proofs.targets.target.first_owned_change.Goals as goal

pub loop-target-preserved : goal.loop-target-preserved
loop-target-preserved g c =
    none_more (IsOwnedChange c.args.old.now) c.args.targets.now c.loop-target.target-index c.target-item.result
    (omega arith) c.target-item.is c.loop-target.invariant (unless _ c.if-is_owned_change.ensures)

pub returns-clause-none : goal.returns-clause-none
returns-clause-none g c =
    none_all (IsOwnedChange c.args.old.now) c.args.targets.now c.loop-target.target-index (omega arith) c.loop-target.invariant
