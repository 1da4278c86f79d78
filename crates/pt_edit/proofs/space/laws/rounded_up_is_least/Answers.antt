use Rattle.pt_edit.proofs.Rounding.{rounded_up_is_least_lem}
use Rattle.pt_edit.proofs.space.laws.rounded_up_is_least.Goals as goal

pub returns : goal.returns
returns c = rounded_up_is_least_lem
