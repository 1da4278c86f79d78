use Rattle.pt_carry.proofs.Fitting.{first_found, fit_more}
use Rattle.pt_carry.proofs.fit.first_unfit.Goals as goal

pub returns-in-Some-clause-some : goal.returns-in-Some-clause-some
returns-in-Some-clause-some g c =
    first_found g.row.B c.args.sectors c.args.known.now c.args.runs.now c.loop-run.run-index c.run-item.result c.in-Some.found
    c.loop-run-test.true c.run-item.is c.loop-run.invariant.fit c.in-Some.ensures.some

pub loop-run-preserved : goal.loop-run-preserved
loop-run-preserved g c = record {
  fit = fit_more g.row.B c.args.sectors c.args.known.now c.args.runs.now c.loop-run.run-index c.run-item.result
      c.loop-run-test.true c.run-item.is c.loop-run.invariant.fit c.in_default.ensures.none;
}
