use Rattle.std.proofs.Common.{◌≡◌, ◌++◌, List, map, flat_map, string_bytes, take, Bor}
use Rattle.pt_types.specs.Listing.{entry_line}
use Rattle.pt_types.specs.Types.{entry_row}
use Rattle.pt_types.specs.declared.entries.EntryType.{EntryType}
use Rattle.pt_types.proofs.listing.push_families.Given as goal

abbrev pub invariant-loop-rows : goal.invariant-loop-rows
invariant-loop-rows l =
    string_bytes l.text
    ≡ string_bytes l.initial.text
    ++ flat_map entry_line (flat_map (λ (rows : Bor (List EntryType)). map entry_row rows.now) (take l.rows-index l.families))
