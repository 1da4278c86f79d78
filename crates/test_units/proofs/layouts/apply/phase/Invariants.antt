use Rattle.pt_apply.specs.Plans.{PhaseInRange}
use Rattle.test_units.proofs.layouts.apply.phase.Given as goal

abbrev pub invariant-loop-k : goal.invariant-loop-k
invariant-loop-k g l = PhaseInRange 4096 l.writes.items
