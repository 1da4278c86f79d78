use Rattle.std.proofs.Common.{subst}
use Rattle.pt_check.specs.declared.trial.Step.{Step}
use Rattle.pt_check.specs.inner.Answers.{StepIs}
use Rattle.pt_check.proofs.trial.step_on.Goals as goal

pub returns-in_default-clause-stepped : goal.returns-in_default-clause-stepped
returns-in_default-clause-stepped g c = λ tells.
    let read = c.in_ok-denoted.ensures.known tells in
    record { found = c.in_ok-denoted.denoted; denotes = read.denotes; step = c.compare-step.ensures; reads = read.reads }

pub returns-clause-stepped : goal.returns-clause-stepped
returns-clause-stepped g c = λ tells.
    let read = c.in_ok-denoted.ensures.known tells in
    let found = c.in_ok-denoted.denoted in
    record {
      found = found;
      denotes = read.denotes;
      step = subst (λ (s : Step). StepIs found c.args.layouts.now.old c.args.layouts.now.new c.args.switch c.args.number s)
          c.in-Goes.is c.compare-step.ensures;
      reads = read.reads;
    }
