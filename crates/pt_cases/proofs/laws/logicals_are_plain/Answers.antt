use Rattle.pt_cases.proofs.Links.{shaped_logical_lem}
use Rattle.pt_cases.proofs.laws.logicals_are_plain.Goals as goal

pub returns : goal.returns
returns c = shaped_logical_lem
