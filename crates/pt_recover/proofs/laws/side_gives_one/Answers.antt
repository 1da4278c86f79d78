use Rattle.pt_recover.proofs.Alone.{side_gives_one}
use Rattle.pt_recover.proofs.laws.side_gives_one.Goals as goal

pub returns : goal.returns
returns c = side_gives_one
