use Rattle.pt_carry.proofs.Reading.{known_of}
use Rattle.pt_carry.proofs.known.read_both.Goals as goal

pub returns-clause-ok : goal.returns-clause-ok
returns-clause-ok g c = λ tells other.
    rw c.ok.ensures.value (known_of g.row.B _ _ _ _ c.in-Ok.read.0 c.in_ok-new.new c.in-Ok.read.1
    (c.in_ok-checked_plan_like_by.ensures.same_other.same other)
    (c.in_ok-checked_plan_like_by.ensures.same.same tells) (c.in_ok-new.ensures.ok other) (c.in-Ok.ensures.found tells)
    (c.in-Ok.ensures.traced tells))
