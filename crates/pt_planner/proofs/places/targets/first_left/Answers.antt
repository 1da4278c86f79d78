use Rattle.std.proofs.Common.{List, All, subst, arith}
use Rattle.std.proofs.lemmas.List.{take_all}
use Rattle.pt_planner.specs.inner.Places.{IsLeftAt}
use Rattle.pt_planner.specs.declared.places.place.Place.{Place}
use Rattle.pt_planner.proofs.Pieces.{first_at, none_on}
use Rattle.pt_planner.proofs.places.targets.first_left.Goals as goal

pub returns-then-is_left : goal.returns-then-is_left
returns-then-is_left g c =
    first_at c.args.places.now c.loop-k.k c.index-places-k.result c.index-places-k-then-is_left.result
    (omega arith) c.index-places-k.is c.loop-k.invariant (c.is_left.ensures.0 c.if-is_left.true)

pub loop-k-preserved : goal.loop-k-preserved
loop-k-preserved g c =
    none_on c.args.places.now c.loop-k.k c.index-places-k.result (omega arith) c.index-places-k.is c.loop-k.invariant
    (λ left. let both = c.is_left.ensures.1 left in absurd cc)

pub returns : goal.returns
returns g c =
    subst (λ (l : List (Place g.row.B)). All (λ (p : Place g.row.B). ¬ IsLeftAt p) l)
    (take_all c.loop-k.k c.args.places.now (omega arith)) c.loop-k.invariant
