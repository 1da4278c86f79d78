use Rattle.std.proofs.Common.{◌∙◌, sym, arith}
use Rattle.pt_human.proofs.Placed.{end, here, next}
use Rattle.pt_human.proofs.lines.count_before.Goals as goal

pub returns-then-is_before-clause-there : goal.returns-then-is_before-clause-there
returns-then-is_before-clause-there c = here _ _ _ c.loop-k.invariant _ c.loop-k-test.true (sym c.is_before.ensures ∙ c.if-is_before.true)

pub loop-k-preserved : goal.loop-k-preserved
loop-k-preserved c = next _ _ _ c.loop-k.invariant _ c.loop-k-test.true (sym c.is_before.ensures ∙ c.if-is_before.false)

pub returns-clause-there : goal.returns-clause-there
returns-clause-there c = end _ _ _ c.loop-k.invariant (omega (arith, c.loop-k-test.false, c.loop-k.auto.k-end))
