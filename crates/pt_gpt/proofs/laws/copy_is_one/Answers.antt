use Rattle.pt_gpt.proofs.Terms.{copy_is_one_lem}
use Rattle.pt_gpt.proofs.laws.copy_is_one.Goals as goal

pub returns : goal.returns
returns c = copy_is_one_lem
