use Rattle.pt_kept.proofs.Fold.{edit_keeps_lem}
use Rattle.pt_kept.proofs.laws.edit_keeps.Goals as goal

pub returns : goal.returns
returns c = edit_keeps_lem
