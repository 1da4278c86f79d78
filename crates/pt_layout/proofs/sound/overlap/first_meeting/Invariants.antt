use Rattle.std.specs.List.{AllAdjacentBelow}
use Rattle.pt_layout.specs.Sound.{Meets}
use Rattle.pt_layout.proofs.sound.overlap.first_meeting.Given as goal

abbrev pub invariant-loop-k : goal.invariant-loop-k
invariant-loop-k l = AllAdjacentBelow (λ x y. ¬ Meets x y) l.members l.k
