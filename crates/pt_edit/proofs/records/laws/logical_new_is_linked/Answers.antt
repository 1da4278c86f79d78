use Rattle.pt_edit.proofs.LinkLaws.{logical_new_linked_lem}
use Rattle.pt_edit.proofs.records.laws.logical_new_is_linked.Goals as goal

pub returns : goal.returns
returns c = logical_new_linked_lem
