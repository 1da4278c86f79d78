use Rattle.pt_cases.proofs.Answers.{planned_has_no_error}
use Rattle.pt_cases.proofs.exact.planned_has_no_error.Goals as goal

pub returns : goal.returns
returns c = planned_has_no_error
