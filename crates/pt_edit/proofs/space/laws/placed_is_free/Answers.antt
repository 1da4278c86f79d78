use Rattle.pt_edit.proofs.Placing.{placed_is_free_lem}
use Rattle.pt_edit.proofs.space.laws.placed_is_free.Goals as goal

pub returns : goal.returns
returns c = placed_is_free_lem
