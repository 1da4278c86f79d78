use Rattle.std.proofs.Common.{◌≡◌, ◌∙◌, Bool, true, false, refl, sym, arith}
use Rattle.pt_layout.proofs.foreign.number_if_foreign.Goals as goal

not_true : (c : Bool) → c ≡ false → c ≡ true → ⊥
not_true c is so = let e : true ≡ false = sym so ∙ is in cc

pub returns-then-is_foreign : goal.returns-then-is_foreign
returns-then-is_foreign g c =
    ((refl, c.is_foreign.ensures.0 c.if-is_foreign.true), omega arith, λ u low lt at. omega (arith, lt, at.0))

pub returns-else-is_foreign : goal.returns-else-is_foreign
returns-else-is_foreign g c = λ u low at. not_true c.is_foreign.result c.if-is_foreign.false (c.is_foreign.ensures.1 at.1)
