use Rattle.std.proofs.Common.{◌≡◌, take}
use Rattle.std.specs.Prelude.{fold}
use Rattle.pt_human.specs.Page.{wider}
use Rattle.pt_human.proofs.widths.kinds_width.Given as goal

abbrev pub invariant-loop-line : goal.invariant-loop-line
invariant-loop-line l = l.width ≡ fold wider 4 (take l.line-index l.lines)
