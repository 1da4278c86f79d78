use Rattle.pt_gpt.proofs.Terms.{header_is_one_lem}
use Rattle.pt_gpt.proofs.laws.header_is_one.Goals as goal

pub returns : goal.returns
returns c = header_is_one_lem
