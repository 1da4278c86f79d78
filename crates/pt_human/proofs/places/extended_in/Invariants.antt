use Rattle.std.proofs.Common.{◌≡◌, find, drop}
use Rattle.pt_members.specs.declared.row.Row.{Row}
use Rattle.pt_human.specs.Places.{is_extended}
use Rattle.pt_human.proofs.places.extended_in.Given as goal

abbrev pub invariant-loop-row : goal.invariant-loop-row
invariant-loop-row l =
    find (λ (r : Row). is_extended r.member.kind) l.rows ≡ find (λ (r : Row). is_extended r.member.kind) (drop l.row-index l.rows)
