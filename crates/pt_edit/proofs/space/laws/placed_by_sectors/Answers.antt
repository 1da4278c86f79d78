use Rattle.pt_edit.proofs.AlikeLemmas.{placed_by_sectors_lem}
use Rattle.pt_edit.proofs.space.laws.placed_by_sectors.Goals as goal

pub returns : goal.returns
returns c = placed_by_sectors_lem
