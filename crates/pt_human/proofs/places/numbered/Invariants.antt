use Rattle.std.proofs.Common.{◌≡◌, find, drop}
use Rattle.pt_members.specs.declared.row.Row.{Row}
use Rattle.pt_human.specs.Places.{is_numbered}
use Rattle.pt_human.proofs.places.numbered.Given as goal

abbrev pub invariant-loop-row : goal.invariant-loop-row
invariant-loop-row l =
    find (λ (r : Row). is_numbered l.number r.member.path) l.rows
    ≡ find (λ (r : Row). is_numbered l.number r.member.path) (drop l.row-index l.rows)
