use Rattle.std.proofs.Common.{take}
use Rattle.pt_planner.specs.inner.Places.{AreTargets}
use Rattle.pt_planner.proofs.places.targets.targets.Given as goal

abbrev pub invariant-loop-k : goal.invariant-loop-k
invariant-loop-k g l = AreTargets l.old (take l.k l.places) l.targets.items
