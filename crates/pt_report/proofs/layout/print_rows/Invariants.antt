use Rattle.std.proofs.Common.{◌≡◌, ◌++◌}
use Rattle.std.specs.Prelude.{flat_map}
use Rattle.std.specs.Io.KnownBytes.{Appends}
use Rattle.pt_members.specs.Rows.{rows_of}
use Rattle.pt_report.specs.Shown.{row_line}
use Rattle.pt_report.proofs.layout.print_rows.Given as goal

abbrev pub invariant-loop-row : goal.invariant-loop-row
invariant-loop-row g l = record {
  can_next : (goal.iterator-loop-row g).can_next l.row-iterator;
  is_finite : (goal.iterator-loop-row g).is_finite l.row-iterator;
  left : l.yielded ++ l.row-iterator ≡ rows_of g.row.B l.layout;
  printed : Appends (g.O.Write.contents l.initial.out) (g.O.Write.contents l.out) (flat_map row_line l.yielded);
}
