use Rattle.std.proofs.Common.{take}
use Rattle.std.specs.Prelude.{flat_map}
use Rattle.std.specs.Io.KnownBytes.{Appends}
use Rattle.pt_report.specs.Replies.{block_line}
use Rattle.pt_report.proofs.blocks.print_each.Given as goal

abbrev pub invariant-loop-block : goal.invariant-loop-block
invariant-loop-block g l = Appends (g.O.Write.contents l.initial.out) (g.O.Write.contents l.out)
    (flat_map block_line (take l.block-index l.blocks))
