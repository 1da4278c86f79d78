use Rattle.pt_recover.proofs.Terms.{denotes_one_lem}
use Rattle.pt_recover.proofs.laws.denotes_one.Goals as goal

pub returns : goal.returns
returns c = denotes_one_lem
