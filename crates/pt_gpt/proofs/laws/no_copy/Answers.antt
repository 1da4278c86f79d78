use Rattle.pt_gpt.proofs.Terms.{no_copy_lem, no_head_lem}
use Rattle.pt_gpt.proofs.laws.no_copy.Goals as goal

pub returns-clause-copy : goal.returns-clause-copy
returns-clause-copy c = no_copy_lem

pub returns-clause-head : goal.returns-clause-head
returns-clause-head c = no_head_lem
