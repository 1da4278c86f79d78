use Rattle.pt_types.proofs.Terms.{names_no_guids, names_no_codes, names_no_numbers}
use Rattle.pt_types.proofs.laws.names_are_names.Goals as goal

pub returns-clause-entries : goal.returns-clause-entries
returns-clause-entries c = names_no_guids

pub returns-clause-codes : goal.returns-clause-codes
returns-clause-codes c = names_no_codes

pub returns-clause-numbers : goal.returns-clause-numbers
returns-clause-numbers c = names_no_numbers
