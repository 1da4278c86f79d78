use Rattle.std.proofs.Common.{◌≡◌, take}
use Rattle.std.specs.Prelude.{fold}
use Rattle.pt_human.specs.Lines.{with_row}
use Rattle.pt_human.proofs.lines.put_rows.Given as goal

abbrev pub invariant-loop-row : goal.invariant-loop-row
invariant-loop-row l = l.lines.items ≡ fold (with_row l.rows) l.initial.lines.items (take l.row-index l.rows)
