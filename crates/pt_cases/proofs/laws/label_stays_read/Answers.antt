use Rattle.pt_cases.proofs.StandsOn.{label_stays_lem}
use Rattle.pt_cases.proofs.laws.label_stays_read.Goals as goal

pub returns : goal.returns
returns c = label_stays_lem
