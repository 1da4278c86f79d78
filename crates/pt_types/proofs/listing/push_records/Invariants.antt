use Rattle.std.proofs.Common.{◌≡◌, ◌++◌, map, flat_map, string_bytes, take}
use Rattle.pt_types.specs.Listing.{record_line}
use Rattle.pt_types.specs.Types.{record_row}
use Rattle.pt_types.proofs.listing.push_records.Given as goal

abbrev pub invariant-loop-row : goal.invariant-loop-row
invariant-loop-row l =
    string_bytes l.text ≡ string_bytes l.initial.text ++ flat_map record_line (map record_row (take l.row-index l.rows))
