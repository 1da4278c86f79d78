use Rattle.std.proofs.Common.{◌≡◌, ◌<◌, ℕ, List, slice_get, Some}
use Rattle.pt_apply.specs.Plans.{writes_of}
use Rattle.pt_check.proofs.writes.first_in_phase.Given as goal

abbrev pub invariant-loop-k : goal.invariant-loop-k
invariant-loop-k g l = (j : ℕ) (w : ℕ × List ℕ) → j < l.k → slice_get (writes_of l.phase) j ≡ Some w → ¬ g.T.Objection.against l.objection w
