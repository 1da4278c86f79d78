use Rattle.pt_edit.proofs.LinkLaws.{logical_typed_linked_lem}
use Rattle.pt_edit.proofs.records.laws.logical_typed_is_linked.Goals as goal

pub returns : goal.returns
returns c = logical_typed_linked_lem
