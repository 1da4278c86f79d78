use Rattle.std.proofs.Common.{◌≡◌, map, find, drop, nat_eq}
use Rattle.pt_types.specs.Tables.{RecordRow}
use Rattle.pt_types.specs.Types.{record_row}
use Rattle.pt_types.proofs.lookup.numbered_in.Given as goal

abbrev pub invariant-loop-row : goal.invariant-loop-row
invariant-loop-row l =
    find (λ (r : RecordRow). nat_eq r.kind l.kind) (map record_row l.rows)
    ≡ find (λ (r : RecordRow). nat_eq r.kind l.kind) (map record_row (drop l.row-index l.rows))
