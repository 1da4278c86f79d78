use Rattle.pt_types.proofs.Terms.{guids_printed}
use Rattle.pt_types.proofs.laws.guids_are_guids.Goals as goal

pub returns : goal.returns
returns c = guids_printed
