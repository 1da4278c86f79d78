use Rattle.std.proofs.Common.{List, subst, arith}
use Rattle.std.proofs.lemmas.List.{take_all}
use Rattle.pt_planner.specs.inner.Places.{AreTargets}
use Rattle.pt_planner.specs.declared.places.place.Place.{Place}
use Rattle.pt_planner.proofs.Pieces.{targets_on}
use Rattle.pt_planner.proofs.places.targets.targets.Goals as goal

pub loop-k-preserved : goal.loop-k-preserved
loop-k-preserved g c =
    targets_on c.args.old.now c.args.places.now c.loop-k.targets.items c.push.new.self.items c.loop-k.k c.index-places-k.result
    c.in-Some.target (omega arith) c.index-places-k.is c.in-Some.ensures c.in_ok-push.ensures.items c.loop-k.invariant

pub returns : goal.returns
returns g c =
    subst (λ (ps : List (Place g.row.B)). AreTargets c.args.old.now ps c.loop-k.targets.items)
    (take_all c.loop-k.k c.args.places.now (omega arith)) c.loop-k.invariant
