use Rattle.std.proofs.Common.{◌≡◌, ◌++◌}
use Rattle.pt_members.specs.Rows.{rows_of}
use Rattle.pt_human.proofs.lines.rows_in.Given as goal

abbrev pub invariant-loop-row : goal.invariant-loop-row
invariant-loop-row g l = record {
  can_next : (goal.iterator-loop-row g).can_next l.row-iterator;
  is_finite : (goal.iterator-loop-row g).is_finite l.row-iterator;
  left : l.yielded ++ l.row-iterator ≡ rows_of g.row.B l.layout;
  listed : l.list.items ≡ l.yielded;
}
