use Rattle.std.proofs.Common.{◌≡◌, ◌∙◌, ◌+◌, ◌-◌, ℕ, take, arith, sym, ap}
use Rattle.pt_tables.specs.Entries.{trimmed}
use Rattle.pt_tables.proofs.Units.{one_less, no_less}
use Rattle.pt_tables.proofs.names.without_zeros.Goals.{then-loop-count-test+else-units-count-eq0, else-loop-count-test}
use Rattle.pt_tables.proofs.names.without_zeros.Goals as goal

pub loop-count-preserved : goal.loop-count-preserved
loop-count-preserved c = record {
  within = omega (arith, c.loop-count.invariant.within);
  rest = c.loop-count.invariant.rest
      ∙ ap (λ (k : ℕ). trimmed (take k c.args.units.now)) (omega (arith, c.loop-count-test.true))
      ∙ one_less c.args.units.now (c.loop-count.count - 1)
      (omega (arith, c.loop-count-test.true, c.loop-count.invariant.within)) c.if-units-count-eq0.true;
}

pub returns : goal.returns
unfolding trimmed
returns c = elim c.loop-count-test.branch [
  | then-loop-count-test+else-units-count-eq0 w ↦
      let same : c.loop-count.count ≡ c.loop-count.count - 1 + 1 = omega (arith, w.loop-count-test.true) in
      sym (c.loop-count.invariant.rest ∙ ap (λ (k : ℕ). trimmed (take k c.args.units.now)) same
      ∙ no_less c.args.units.now (c.loop-count.count - 1) (omega (arith, w.loop-count-test.true, c.loop-count.invariant.within))
      w.if-units-count-eq0.false
      ∙ ap (λ (k : ℕ). take k c.args.units.now) (sym same))
  | else-loop-count-test w ↦
      let none : c.loop-count.count ≡ 0 = omega (arith, w.loop-count-test.false) in
      rw none (sym (c.loop-count.invariant.rest ∙ ap (λ (k : ℕ). trimmed (take k c.args.units.now)) none))
]
