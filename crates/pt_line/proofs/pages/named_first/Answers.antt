use Rattle.std.proofs.Common.{arith}
use Rattle.pt_line.proofs.Alone.{named_begins}
use Rattle.pt_line.proofs.pages.named_first.Goals as goal

pub returns-in-len1-up : goal.returns-in-len1-up
returns-in-len1-up c = named_begins _ c.args.words.now c.subcommand_named.result (omega arith) c.subcommand_named.ensures
