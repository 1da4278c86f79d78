use Rattle.pt_tables.proofs.Denoted.{denoted_in_order}
use Rattle.pt_tables.proofs.laws.denoted_in_order.Goals as goal

pub returns : goal.returns
returns c = denoted_in_order
