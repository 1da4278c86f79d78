use Rattle.pt_edit.proofs.LinkLaws.{chain_linked_lem}
use Rattle.pt_edit.proofs.records.laws.chain_is_linked.Goals as goal

pub returns : goal.returns
returns c = chain_linked_lem
