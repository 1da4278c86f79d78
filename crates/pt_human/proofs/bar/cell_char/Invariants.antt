use Rattle.std.proofs.Common.{◌≡◌, take}
use Rattle.std.specs.Prelude.{fold}
use Rattle.pt_human.specs.Bar.{with_char}
use Rattle.pt_human.proofs.bar.cell_char.Given as goal

abbrev pub invariant-loop-line : goal.invariant-loop-line
invariant-loop-line l = l.shown ≡ fold (with_char l.first l.last) 35 (take l.line-index l.lines)
