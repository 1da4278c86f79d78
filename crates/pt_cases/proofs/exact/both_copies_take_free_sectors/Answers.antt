use Rattle.pt_cases.proofs.Tables.{both_planned_frees}
use Rattle.pt_cases.proofs.exact.both_copies_take_free_sectors.Goals as goal

pub returns : goal.returns
returns c = both_planned_frees
