use Rattle.pt_answers.proofs.failure.Failure.explain.Goals as goal

pub returns-in-Unfit : goal.returns-in-Unfit
returns-in-Unfit g c = rw c.in-Unfit.is c.explain_unfit.ensures
