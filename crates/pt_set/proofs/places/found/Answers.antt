use Rattle.std.proofs.Common.{arith}
use Rattle.pt_edit.proofs.Placing.{placed_is_free_lem}
use Rattle.pt_set.proofs.places.found.Goals as goal

pub returns-in-Ok-clause-last : goal.returns-in-Ok-clause-last
returns-in-Ok-clause-last c =
    let free = placed_is_free_lem _ _ _ _ _ c.in-Ok.ensures.ok in
    omega (arith, (free.free c.in-Ok.run'.last (free.some, omega arith)).0.1, c.requires.high)

pub returns-in-Ok-clause-first : goal.returns-in-Ok-clause-first
returns-in-Ok-clause-first c =
    let free = placed_is_free_lem _ _ _ _ _ c.in-Ok.ensures.ok in
    omega (arith, free.some, (free.free c.in-Ok.run'.last (free.some, omega arith)).0.1, c.requires.high)
