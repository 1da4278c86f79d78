use Rattle.pt_tables.proofs.SameBlocks.{one_list_of_blocks}
use Rattle.pt_tables.proofs.laws.blocks_are_one.Goals as goal

pub returns : goal.returns
returns c = one_list_of_blocks
