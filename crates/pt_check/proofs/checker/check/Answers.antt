use Rattle.pt_check.proofs.checker.check.Goals as goal

pub returns-clause-answers : goal.returns-clause-answers
returns-clause-answers g c = λ tells. rw c.answer.ensures (c.in_ok-outcome.ensures.outcome tells).answers

pub returns-clause-promises : goal.returns-clause-promises
returns-clause-promises g c = λ tells. rw c.answer.ensures (c.in_ok-outcome.ensures.outcome tells).promises
