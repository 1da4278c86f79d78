use Rattle.std.proofs.Common.{◌∙◌, arith, sym}
use Rattle.std.proofs.lemmas.List.{take_all}
use Rattle.pt_report.proofs.Names.{units_here}
use Rattle.pt_report.proofs.name.units.Goals as goal

pub returns-then-name-k-eq0 : goal.returns-then-name-k-eq0
returns-then-name-k-eq0 c =
    units_here c.args.name.now c.loop-k.k (omega (arith, c.told-name, c.loop-k-test.true)) c.loop-k.invariant (λ lt. c.if-name-k-eq0.true)

pub returns : goal.returns
returns c =
    let all = take_all c.loop-k.k c.args.name.now (omega (arith, c.told-name, c.loop-k-test.false)) in
    c.as_slice.ensures ∙ sym all
    ∙ units_here c.args.name.now c.loop-k.k (omega (arith, c.told-name, c.loop-k.auto.k-end)) c.loop-k.invariant
    (λ lt. absurd (omega (arith, lt, c.told-name, c.loop-k-test.false)))
