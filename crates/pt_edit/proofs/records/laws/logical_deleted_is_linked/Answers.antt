use Rattle.pt_edit.proofs.LinkLaws.{logical_deleted_linked_lem}
use Rattle.pt_edit.proofs.records.laws.logical_deleted_is_linked.Goals as goal

pub returns : goal.returns
returns c = logical_deleted_linked_lem
