use Rattle.pt_edit.proofs.NumberLaws.{logical_new_numbered_lem}
use Rattle.pt_edit.proofs.records.laws.logical_new_is_numbered.Goals as goal

pub returns : goal.returns
returns c = logical_new_numbered_lem
