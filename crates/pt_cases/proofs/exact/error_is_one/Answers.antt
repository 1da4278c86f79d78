use Rattle.pt_cases.proofs.Answers.{error_is_one}
use Rattle.pt_cases.proofs.exact.error_is_one.Goals as goal

pub returns : goal.returns
returns c = error_is_one
