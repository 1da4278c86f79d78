use Rattle.pt_cases.proofs.Covers.{covering_differs_lem}
use Rattle.pt_cases.proofs.laws.covering_differs.Goals as goal

pub returns : goal.returns
returns c = covering_differs_lem (λ x. x)
