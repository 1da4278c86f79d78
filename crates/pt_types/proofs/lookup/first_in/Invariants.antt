use Rattle.std.proofs.Common.{◌≡◌, map, find, drop}
use Rattle.pt_types.specs.Types.{entry_row}
use Rattle.pt_types.specs.inner.Sought.{is_sought}
use Rattle.pt_types.proofs.lookup.first_in.Given as goal

abbrev pub invariant-loop-row : goal.invariant-loop-row
invariant-loop-row l =
    find (is_sought l.sought) (map entry_row l.rows) ≡ find (is_sought l.sought) (map entry_row (drop l.row-index l.rows))
