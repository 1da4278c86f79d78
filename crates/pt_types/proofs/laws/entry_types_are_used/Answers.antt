use Rattle.pt_types.proofs.Terms.{never_zero}
use Rattle.pt_types.proofs.laws.entry_types_are_used.Goals as goal

pub returns : goal.returns
returns c = never_zero
