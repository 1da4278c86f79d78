use Rattle.pt_tables.proofs.OneText.{one_layout}
use Rattle.pt_tables.proofs.laws.layout_is_one.Goals as goal

pub returns : goal.returns
returns c = one_layout
