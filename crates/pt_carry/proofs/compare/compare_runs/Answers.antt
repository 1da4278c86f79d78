use Rattle.std.proofs.Common.{ℕ, ◌<◌, sym, subst}
use Rattle.std.proofs.lemmas.Result.{err_from_is_err_and}
use Rattle.pt_carry.specs.Data.{InRun, IsIn}
use Rattle.pt_carry.proofs.Copies.{those_on, failed_wider}
use Rattle.pt_carry.proofs.Runs.{in_some, last_below}
use Rattle.pt_carry.proofs.compare.compare_runs.Goals as goal

pub compare_run-requires-clause-within : goal.compare_run-requires-clause-within
compare_run-requires-clause-within g c =
    subst (λ (n : ℕ). c.run-item.result.last < n) (sym c.loop-run.invariant.same.same_count)
    (last_below c.args.runs.now c.loop-run.run-index _ c.run-item.result c.loop-run-test.true c.run-item.is c.run-item.result.ordered
    c.requires.within)

pub compare_run-requires-clause-within_other : goal.compare_run-requires-clause-within_other
compare_run-requires-clause-within_other g c =
    subst (λ (n : ℕ). c.run-item.result.last < n) (sym c.loop-run.invariant.same_other.same_count)
    (last_below c.args.runs.now c.loop-run.run-index _ c.run-item.result c.loop-run-test.true c.run-item.is c.run-item.result.ordered
    c.requires.within_other)

pub compare_run-requires-clause-same : goal.compare_run-requires-clause-same
compare_run-requires-clause-same g c = λ tells other.
    those_on _ _ _ _ (IsIn c.args.runs.now) (InRun c.run-item.result) (c.loop-run.invariant.same_other.same other)
    (c.loop-run.invariant.same.same tells)
    (in_some c.args.runs.now c.loop-run.run-index c.run-item.result c.loop-run-test.true c.run-item.is)
    (c.requires.same tells other)

pub returns-in_err-compare_run-clause-cause : goal.returns-in_err-compare_run-clause-cause
returns-in_err-compare_run-clause-cause g c = λ tells other.
    let p = err_from_is_err_and c.from_residual.result c.from_residual.ensures.1 in
    rw (p.1, p.2) (failed_wider (InRun c.run-item.result) (IsIn c.args.runs.now) c.in_err-compare_run.field-0.0
    (in_some c.args.runs.now c.loop-run.run-index c.run-item.result c.loop-run-test.true c.run-item.is)
    (c.in_err-compare_run.ensures.cause tells other))
