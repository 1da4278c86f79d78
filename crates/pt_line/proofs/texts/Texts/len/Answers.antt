use Rattle.std.proofs.Common.{arith}
use Rattle.pt_line.proofs.Pieces.{counted}
use Rattle.pt_line.proofs.texts.Texts.len.Goals as goal

pub returns : goal.returns
returns c = grind (arith, c.len.ensures, c.self.view_is, counted 0 c.self.inside.ends.items c.self.inside.bytes.items)
