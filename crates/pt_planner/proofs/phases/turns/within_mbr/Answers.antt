use Rattle.std.proofs.lemmas.Result.{IfOk-weaker, IfErr-weaker}
use Rattle.pt_planner.proofs.Refusing.{turn_faultless}
use Rattle.pt_planner.proofs.Turning.{turn_is_plan, no_turn_stops, turn_range, turn_short, turn_some, turn_two}
use Rattle.pt_planner.proofs.phases.turns.within_mbr.Goals as goal

pub returns-clause-plan : goal.returns-clause-plan
returns-clause-plan g c =
    IfOk-weaker c.turn.result _ _
    (turn_is_plan c.args.old.now c.args.guarded.now c.args.heads.items c.args.places.items c.deref.result.now
    c.in_ok-targets.targets.items c.in_ok-targets.ensures c.deref.ensures.value) c.turn.ensures.ok

pub returns-clause-err : goal.returns-clause-err
returns-clause-err g c =
    IfErr-weaker c.turn.result _ _
    (no_turn_stops c.args.old.now c.args.guarded.now c.args.heads.items c.args.places.items c.deref.result.now
    c.in_ok-targets.targets.items c.in_ok-targets.ensures c.deref.ensures.value) c.turn.ensures.err

pub returns-clause-in_range : goal.returns-clause-in_range
returns-clause-in_range g c =
    IfOk-weaker c.turn.result _ _
    (turn_range c.args.old.now c.args.guarded.now c.args.heads.items c.args.places.items c.deref.result.now c.in_ok-targets.targets.items
    c.in_ok-targets.ensures c.deref.ensures.value) c.turn.ensures.ok

pub returns-clause-few : goal.returns-clause-few
returns-clause-few g c =
    IfOk-weaker c.turn.result _ _
    (turn_short c.args.old.now c.args.guarded.now c.args.heads.items c.args.places.items c.deref.result.now c.in_ok-targets.targets.items
    c.in_ok-targets.ensures c.deref.ensures.value) c.turn.ensures.ok

pub returns-clause-faultless : goal.returns-clause-faultless
returns-clause-faultless g c =
    IfErr-weaker c.turn.result _ _ (turn_faultless c.args.old.now c.args.guarded.now c.in_ok-targets.targets.items) c.turn.ensures.err

pub returns-clause-some : goal.returns-clause-some
returns-clause-some g c =
    IfOk-weaker c.turn.result _ _ (turn_some c.args.old.now c.args.guarded.now c.in_ok-targets.targets.items) c.turn.ensures.ok

pub returns-clause-two : goal.returns-clause-two
returns-clause-two g c =
    IfOk-weaker c.turn.result _ _ (turn_two c.args.old.now c.args.guarded.now c.in_ok-targets.targets.items) c.turn.ensures.ok
