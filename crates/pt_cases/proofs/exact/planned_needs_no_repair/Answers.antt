use Rattle.pt_cases.proofs.Planned.{planned_needs_no_repair}
use Rattle.pt_cases.proofs.exact.planned_needs_no_repair.Goals as goal

pub returns : goal.returns
returns c = planned_needs_no_repair
