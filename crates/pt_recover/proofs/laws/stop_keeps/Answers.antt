use Rattle.pt_recover.proofs.Terms.{stop_keeps_lem}
use Rattle.pt_recover.proofs.laws.stop_keeps.Goals as goal

pub returns : goal.returns
returns c = stop_keeps_lem
