use Rattle.pt_plan.proofs.Starting.{reason_hides}
use Rattle.pt_plan.proofs.prepare.may_start.Goals as goal

pub returns-else-makes_table-clause-hides : goal.returns-else-makes_table-clause-hides
returns-else-makes_table-clause-hides c = reason_hides c.reason.result c.reason.ensures.told
