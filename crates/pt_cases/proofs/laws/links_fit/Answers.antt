use Rattle.pt_cases.proofs.Links.{links_fit_lem}
use Rattle.pt_cases.proofs.laws.links_fit.Goals as goal

pub returns : goal.returns
returns c = links_fit_lem
