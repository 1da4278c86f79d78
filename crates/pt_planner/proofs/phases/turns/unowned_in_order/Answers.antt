use Rattle.std.proofs.Common.{sym}
use Rattle.pt_planner.proofs.Refusing.{one_owned, none_owned}
use Rattle.pt_planner.proofs.phases.turns.unowned_in_order.Goals as goal

pub returns-then-is_some-clause-err : goal.returns-then-is_some-clause-err
returns-then-is_some-clause-err g c =
    one_owned c.args.old.now c.args.targets.items c.in-Some.sorted.items c.deref.result.now c.deref.ensures.value c.in-Some.ensures.some
    c.first_owned_change.result c.first_owned_change.ensures.some (sym c.if-is_some.ensures)

pub returns-in-None-clause-err : goal.returns-in-None-clause-err
returns-in-None-clause-err g c = c.in-None.ensures.none

pub returns-else-is_some-clause-ok : goal.returns-else-is_some-clause-ok
returns-else-is_some-clause-ok g c =
    none_owned c.args.old.now c.args.targets.items c.in-Some.sorted.items c.deref.result.now c.deref.ensures.value c.in-Some.ensures.some
    c.first_owned_change.result c.first_owned_change.ensures.none (sym c.if-is_some.ensures)
