use Rattle.std.proofs.Common.{◌≡◌, ◌++◌, map, flat_map, string_bytes, take}
use Rattle.pt_types.specs.Listing.{entry_line}
use Rattle.pt_types.specs.Types.{entry_row}
use Rattle.pt_types.proofs.listing.push_entries.Given as goal

abbrev pub invariant-loop-row : goal.invariant-loop-row
invariant-loop-row l =
    string_bytes l.text ≡ string_bytes l.initial.text ++ flat_map entry_line (map entry_row (take l.row-index l.rows))
