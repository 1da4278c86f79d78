use Rattle.pt_cases.proofs.Tables.{both_planned_switch}
use Rattle.pt_cases.proofs.exact.both_copies_come_with_one_switch.Goals as goal

pub returns : goal.returns
returns c = both_planned_switch
