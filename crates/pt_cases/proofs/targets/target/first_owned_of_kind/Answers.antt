use Rattle.std.proofs.Common.{arith}
use Rattle.pt_cases.specs.Targets.{IsOwnedOf}
use Rattle.pt_cases.proofs.Steps.{unless, none_more, none_all}
use Rattle.pt_cases.proofs.targets.target.first_owned_of_kind.Goals as goal

pub loop-target-preserved : goal.loop-target-preserved
loop-target-preserved g c =
    none_more (IsOwnedOf c.args.old.now c.args.kind) c.args.targets.now c.loop-target.target-index c.target-item.result
    (omega arith) c.target-item.is c.loop-target.invariant (unless _ c.if-is_owned_of.ensures)

pub returns-clause-none : goal.returns-clause-none
returns-clause-none g c =
    none_all (IsOwnedOf c.args.old.now c.args.kind) c.args.targets.now c.loop-target.target-index (omega arith) c.loop-target.invariant
