use Rattle.pt_cases.proofs.Changes.{change_has_switch, change_frees}
use Rattle.pt_cases.proofs.exact.label_change_is_planned.Goals as goal

pub returns : goal.returns
returns c = record { one_switch = change_has_switch; free = change_frees }
