use Rattle.pt_cases.proofs.FewLemmas.{plan_few}
use Rattle.pt_cases.proofs.laws.plan_is_few.Goals as goal

pub returns : goal.returns
returns c = plan_few
