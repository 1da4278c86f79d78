use Rattle.pt_cases.proofs.Mended.{repair_is_planned_lem}
use Rattle.pt_cases.proofs.exact.repair_is_planned.Goals as goal

pub returns : goal.returns
returns c = repair_is_planned_lem
