use Rattle.std.proofs.lemmas.Result.{err_from_is_err_and}
use Rattle.pt_apply.specs.Plans.{phases_of}
use Rattle.pt_planner.proofs.Refusing.{turn_unfree}
use Rattle.pt_planner.proofs.Turning.{split_turns, split_stops}
use Rattle.pt_planner.proofs.phases.turns.turn.Goals as goal

pub returns-in-NotOne-clause-err : goal.returns-in-NotOne-clause-err
returns-in-NotOne-clause-err g c =
    split_stops c.args.old.now c.args.guarded.now c.args.targets.items c.in_ok-sorted.sorted.items c.deref.result.now
    c.in_ok-sorted.ensures.ok c.deref.ensures.value
    c.in_ok-split_changes.field-0 c.in_ok-split_changes.ensures c.in-NotOne.is

pub returns-clause-ok : goal.returns-clause-ok
returns-clause-ok g c =
    split_turns c.args.old.now c.args.guarded.now c.args.targets.items c.in_ok-sorted.sorted.items c.deref.result.now
    c.in_ok-sorted.ensures.ok c.deref.ensures.value
    c.in_ok-split_changes.field-0 c.in_ok-split_changes.ensures c.in-One.quiet c.in-One.loud
    (phases_of c.in_ok-two_phases-in-One.field-0) c.in-One.is
    c.in_ok-two_phases-in-One.ensures

pub returns-in_err-sorted-clause-err : goal.returns-in_err-sorted-clause-err
returns-in_err-sorted-clause-err g c =
    let p = err_from_is_err_and c.from_residual.result c.from_residual.ensures.1 in
    rw (p.1, p.2) (turn_unfree c.args.old.now c.args.guarded.now c.args.targets.items c.in_err-sorted.field-0.0
    c.in_err-sorted.ensures.err)
