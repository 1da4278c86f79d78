use Rattle.pt_gpt.proofs.Terms.{copy_count_lem, copy_is_typed_lem}
use Rattle.pt_gpt.proofs.laws.copy_is_shaped.Goals as goal

pub returns-clause-count : goal.returns-clause-count
returns-clause-count c = copy_count_lem

pub returns-clause-typed : goal.returns-clause-typed
returns-clause-typed c = copy_is_typed_lem
