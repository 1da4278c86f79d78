use Rattle.pt_edit.proofs.NumberLaws.{logical_deleted_numbered_lem}
use Rattle.pt_edit.proofs.records.laws.logical_deleted_is_numbered.Goals as goal

pub returns : goal.returns
returns c = logical_deleted_numbered_lem
