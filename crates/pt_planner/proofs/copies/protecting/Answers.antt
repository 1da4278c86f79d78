use Rattle.std.proofs.Common.{◌≡◌, false, IsTrue, inl, inr, refl}
use Rattle.pt_planner.proofs.copies.protecting.Goals as goal

pub returns-then-is_protective : goal.returns-then-is_protective
returns-then-is_protective g c = inl (c.is_protective.ensures.0 c.if-is_protective.true, refl)

not_both : {b : _} → IsTrue b → b ≡ false → ⊥
not_both is isnt = absurd cc

pub returns : goal.returns
returns g c =
    inr (λ is. not_both (c.is_protective.ensures.1 is) c.if-is_protective.false, (c.protected_head.result, c.protected_head.ensures, refl))
