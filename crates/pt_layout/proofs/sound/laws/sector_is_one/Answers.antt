use Rattle.pt_layout.proofs.Terms.{sector_is_one_lem}
use Rattle.pt_layout.proofs.sound.laws.sector_is_one.Goals as goal

pub returns : goal.returns
returns c = sector_is_one_lem
