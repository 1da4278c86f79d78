use Rattle.pt_cases.proofs.Links.{chain_leads_lem}
use Rattle.pt_cases.proofs.laws.chain_leads.Goals as goal

pub returns : goal.returns
returns c = chain_leads_lem
