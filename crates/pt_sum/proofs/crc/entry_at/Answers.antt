use Rattle.std.proofs.Common.{arith}
use Rattle.pt_sum.proofs.TableFacts.{entry_at_is}
use Rattle.pt_sum.proofs.crc.entry_at.Goals as goal

pub returns : goal.returns
returns c = entry_at_is c.args.k c.args.byte c.requires (omega arith)
