use Rattle.pt_recover.proofs.Alone.{a_side_gives}
use Rattle.pt_recover.proofs.laws.a_side_gives.Goals as goal

pub returns : goal.returns
returns c = a_side_gives
