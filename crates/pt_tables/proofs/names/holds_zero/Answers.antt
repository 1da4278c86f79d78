use Rattle.std.proofs.Common.{◌∙◌, arith, sym, ap}
use Rattle.std.proofs.lemmas.List.{drop_all}
use Rattle.pt_tables.specs.Entries.{has_zero}
use Rattle.pt_tables.proofs.Units.{zero_here, none_here}
use Rattle.pt_tables.proofs.names.holds_zero.Goals as goal

pub returns-then-unit-eq0 : goal.returns-then-unit-eq0
returns-then-unit-eq0 c =
    sym (c.loop-unit.invariant
    ∙ zero_here c.args.units.now c.loop-unit.unit-index (omega (arith, c.loop-unit-test.true)) (omega (arith, c.if-unit-eq0.true)))

pub loop-unit-preserved : goal.loop-unit-preserved
loop-unit-preserved c =
    c.loop-unit.invariant ∙ none_here c.args.units.now c.loop-unit.unit-index (omega (arith, c.loop-unit-test.true)) c.if-unit-eq0.false

pub returns : goal.returns
unfolding has_zero
returns c =
    sym (c.loop-unit.invariant
    ∙ ap has_zero (drop_all c.loop-unit.unit-index c.args.units.now (omega (arith, c.loop-unit-test.false))))
