use Rattle.std.proofs.Common.{rules, ℕ, ◌<◌, sym, subst}
use Rattle.std.proofs.lemmas.Result.{err_from_is_err_and}
use Rattle.pt_carry.specs.Data.{InRun, IsIn}
use Rattle.pt_carry.proofs.Copies.{took_on, run_done, failed_wider}
use Rattle.pt_carry.proofs.Runs.{in_some, last_below}
use Rattle.pt_carry.proofs.copy.copy_runs.Goals as goal

pub copy_run-requires-clause-within : goal.copy_run-requires-clause-within
copy_run-requires-clause-within g c =
    subst (λ (n : ℕ). c.run-item.result.last < n) (sym c.loop-run.invariant.count)
    (last_below c.args.runs.now c.loop-run.run-index _ c.run-item.result c.loop-run-test.true c.run-item.is c.run-item.result.ordered
    c.requires.within)

pub copy_run-requires-clause-within_other : goal.copy_run-requires-clause-within_other
copy_run-requires-clause-within_other g c =
    subst (λ (n : ℕ). c.run-item.result.last < n) (sym c.loop-run.invariant.same_other.same_count)
    (last_below c.args.runs.now c.loop-run.run-index _ c.run-item.result c.loop-run-test.true c.run-item.is c.run-item.result.ordered
    c.requires.within_other)

pub returns-in_err-copy_run-clause-cause : goal.returns-in_err-copy_run-clause-cause
returns-in_err-copy_run-clause-cause g c =
    let p = err_from_is_err_and c.from_residual.result c.from_residual.ensures.1 in
    rw (p.1, p.2) (failed_wider (InRun c.run-item.result) (IsIn c.args.runs.now) c.in_err-copy_run.field-0.0
    (in_some c.args.runs.now c.loop-run.run-index c.run-item.result c.loop-run-test.true c.run-item.is)
    c.in_err-copy_run.ensures.cause)

pub returns-in_err-copy_run-clause-took : goal.returns-in_err-copy_run-clause-took
returns-in_err-copy_run-clause-took g c = λ tells other.
    took_on _ _ (IsIn c.args.runs.now) _ _ _ _ (c.loop-run.invariant.same_other.same other)
    (in_some c.args.runs.now c.loop-run.run-index c.run-item.result c.loop-run-test.true c.run-item.is)
    (c.loop-run.invariant.took tells other) (c.in_err-copy_run.ensures.took tells other)

pub loop-run-preserved : goal.loop-run-preserved
loop-run-preserved g c = record {
  count = search rules;
  name = search rules;
  quiet = search rules;
  same_other = g.met.E.Disk.reads_on _ _ _ c.loop-run.invariant.same_other c.in_ok-copy_run.ensures.same_other;
  quiet_other = search rules;
  took = λ tells other.
      took_on _ _ (IsIn c.args.runs.now) _ _ _ _ (c.loop-run.invariant.same_other.same other)
      (in_some c.args.runs.now c.loop-run.run-index c.run-item.result c.loop-run-test.true c.run-item.is)
      (c.loop-run.invariant.took tells other) (c.in_ok-copy_run.ensures.took tells other);
  done = λ tells other.
      run_done _ _ c.args.runs.now c.loop-run.run-index c.run-item.result _ _ c.loop-run-test.true c.run-item.is
      (c.loop-run.invariant.same_other.same other) (c.in_ok-copy_run.ensures.took tells other)
      (c.loop-run.invariant.done tells other) (c.in_ok-copy_run.ensures.done tells other);
}
