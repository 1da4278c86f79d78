use Rattle.std.proofs.Common.{◌≡◌, List, map, flat_map, find, drop, Bor}
use Rattle.pt_types.specs.Types.{entry_row}
use Rattle.pt_types.specs.declared.entries.EntryType.{EntryType}
use Rattle.pt_types.specs.inner.Sought.{is_sought}
use Rattle.pt_types.proofs.lookup.first_of.Given as goal

abbrev pub invariant-loop-rows : goal.invariant-loop-rows
invariant-loop-rows l =
    find (is_sought l.sought) (flat_map (λ (rows : Bor (List EntryType)). map entry_row rows.now) l.families)
    ≡ find (is_sought l.sought) (flat_map (λ (rows : Bor (List EntryType)). map entry_row rows.now) (drop l.rows-index l.families))
