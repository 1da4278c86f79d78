use Rattle.pt_gpt.proofs.Terms.{entry_is_one_lem, entries_are_one_lem}
use Rattle.pt_gpt.proofs.laws.entry_is_one.Goals as goal

pub returns-clause-one : goal.returns-clause-one
returns-clause-one c = entry_is_one_lem

pub returns-clause-all : goal.returns-clause-all
returns-clause-all c = entries_are_one_lem
