use Rattle.std.proofs.Common.{All, take}
use Rattle.pt_planner.specs.inner.Places.{IsLeftAt}
use Rattle.pt_planner.specs.declared.places.place.Place.{Place}
use Rattle.pt_planner.proofs.places.targets.first_left.Given as goal

abbrev pub invariant-loop-k : goal.invariant-loop-k
invariant-loop-k g l = All (λ (p : Place g.row.B). ¬ IsLeftAt p) (take l.k l.places)
