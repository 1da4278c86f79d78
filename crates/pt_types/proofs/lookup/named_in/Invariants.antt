use Rattle.std.proofs.Common.{◌≡◌, map, find, drop, bytes_eq}
use Rattle.pt_types.specs.Tables.{RecordRow}
use Rattle.pt_types.specs.Types.{record_row}
use Rattle.pt_types.proofs.lookup.named_in.Given as goal

abbrev pub invariant-loop-row : goal.invariant-loop-row
invariant-loop-row l =
    find (λ (r : RecordRow). bytes_eq r.name l.name) (map record_row l.rows)
    ≡ find (λ (r : RecordRow). bytes_eq r.name l.name) (map record_row (drop l.row-index l.rows))
