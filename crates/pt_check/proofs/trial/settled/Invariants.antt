use Rattle.std.proofs.Common.{◌≤◌, ◌<◌, ℕ, List}
use Rattle.pt_apply.specs.Plans.{phases_of, NoneIs}
use Rattle.pt_recover.specs.Spans.{IsIn}
use Rattle.pt_check.specs.Answers.{phase_at}
use Rattle.pt_check.proofs.trial.settled.Given as goal

abbrev pub invariant-loop-i : goal.invariant-loop-i
invariant-loop-i g l =
    (j : ℕ) → l.count ≤ j → j < l.i → NoneIs (λ (w : ℕ × List ℕ). IsIn l.trace w.0) (phase_at (phases_of l.plan) j)
