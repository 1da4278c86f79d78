use Rattle.pt_cases.proofs.Planned.{planned_is_sound}
use Rattle.pt_cases.proofs.exact.planned_is_sound.Goals as goal

pub returns : goal.returns
returns c = planned_is_sound
