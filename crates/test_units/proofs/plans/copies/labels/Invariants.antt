use Rattle.pt_apply.specs.Plans.{PhaseInRange}
use Rattle.test_units.proofs.plans.copies.labels.Given as goal

abbrev pub invariant-loop-k : goal.invariant-loop-k
invariant-loop-k g l = PhaseInRange l.sectors l.writes.items
