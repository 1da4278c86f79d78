use Rattle.pt_gpt.proofs.Terms.{no_header_lem}
use Rattle.pt_gpt.proofs.laws.no_header.Goals as goal

pub returns : goal.returns
returns c = no_header_lem
