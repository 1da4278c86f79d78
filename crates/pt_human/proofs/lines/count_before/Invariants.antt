use Rattle.std.proofs.Common.{◌≡◌, ◌++◌, take, drop}
use Rattle.pt_human.specs.Lines.{with_line}
use Rattle.pt_human.proofs.lines.count_before.Given as goal

abbrev pub invariant-loop-k : goal.invariant-loop-k
invariant-loop-k l = with_line l.line l.lines ≡ take l.k l.lines ++ with_line l.line (drop l.k l.lines)
