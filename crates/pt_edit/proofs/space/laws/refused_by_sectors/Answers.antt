use Rattle.pt_edit.proofs.AlikeLemmas.{refused_by_sectors_lem}
use Rattle.pt_edit.proofs.space.laws.refused_by_sectors.Goals as goal

pub returns : goal.returns
returns c = refused_by_sectors_lem
