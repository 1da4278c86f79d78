use Rattle.pt_layout.proofs.Terms.{place_is_one_lem}
use Rattle.pt_layout.proofs.sound.laws.place_is_one.Goals as goal

pub returns : goal.returns
returns c = place_is_one_lem
