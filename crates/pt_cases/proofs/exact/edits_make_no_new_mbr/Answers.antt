use Rattle.pt_cases.proofs.NewMbr.{edit_is_kept, edit_is_unplanned}
use Rattle.pt_cases.proofs.exact.edits_make_no_new_mbr.Goals as goal

pub returns-clause-planned : goal.returns-clause-planned
returns-clause-planned c = edit_is_kept

pub returns-clause-refused : goal.returns-clause-refused
returns-clause-refused c = edit_is_unplanned
