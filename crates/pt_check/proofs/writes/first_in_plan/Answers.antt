use Rattle.std.proofs.Common.{◌+◌, ℕ, ap, length, arith, refl}
use Rattle.pt_check.proofs.Firsts.{writes_on, count_on, sum_within, first_of_all, first_within, none_both, pair_at}
use Rattle.pt_check.proofs.writes.first_in_plan.Goals as goal

pub index-requires : goal.index-requires
index-requires g c =
    omega (
      arith,
      first_within
          (g.T.Objection.against c.args.objection.now) c.deref.result.now c.in-Some.k c.in-Some.ensures.0 c.in-Some.ensures.1,
      c.deref.ensures.len,
    )

pub overflow_add-result : goal.overflow_add-result
overflow_add-result g c = omega (
  arith,
  sum_within c.deref-phase-items.result.now c.loop-phase.phase-index c.phase-item.result c.loop-phase-test.true c.phase-item.is
      c.args.plan.now.phases.items c.deref.result.now c.loop-phase.before
      (c.in-Some.k + 1) c.deref-phase-items.ensures.value c.requires.few c.deref.ensures.value c.loop-phase.invariant.count
      (omega (
        arith,
        first_within (g.T.Objection.against c.args.objection.now) c.deref.result.now c.in-Some.k c.in-Some.ensures.0
            c.in-Some.ensures.1,
      )),
)

pub overflow_add-result-in-Some : goal.overflow_add-result-in-Some
overflow_add-result-in-Some g c = omega (
  arith,
  sum_within c.deref-phase-items.result.now c.loop-phase.phase-index c.phase-item.result c.loop-phase-test.true c.phase-item.is
      c.args.plan.now.phases.items c.deref.result.now c.loop-phase.before
      (c.in-Some.k + 1) c.deref-phase-items.ensures.value c.requires.few c.deref.ensures.value c.loop-phase.invariant.count
      (omega (
        arith,
        first_within (g.T.Objection.against c.args.objection.now) c.deref.result.now c.in-Some.k c.in-Some.ensures.0
            c.in-Some.ensures.1,
      )),
)

pub returns-in-Some : goal.returns-in-Some
returns-in-Some g c = (
  _,
  c.in-Some.ensures.0,
  refl,
  pair_at c.phase-item.result.items c.in-Some.k c.index.result.now c.in-Some.ensures.0 c.index.ensures
      (rw c.deref.ensures.value at c.in-Some.ensures.1.at),
  rw c.deref-phase-items.ensures.value at (first_of_all c.deref-phase-items.result.now c.loop-phase.phase-index c.phase-item.result
      c.loop-phase-test.true c.phase-item.is
      (g.T.Objection.against c.args.objection.now) c.in-Some.k _ c.in-Some.ensures.0
      (ap (λ (n : ℕ). n + c.in-Some.k) c.loop-phase.invariant.count)
      (omega (
        arith,
        first_within (g.T.Objection.against c.args.objection.now) c.deref.result.now c.in-Some.k c.in-Some.ensures.0
            c.in-Some.ensures.1,
        ap length c.deref.ensures.value,
      ))
      c.loop-phase.invariant.nothing (rw c.deref.ensures.value at c.in-Some.ensures.1)),
)

pub overflow_add-before : goal.overflow_add-before
overflow_add-before g c = omega (
  arith,
  sum_within c.deref-phase-items.result.now c.loop-phase.phase-index c.phase-item.result c.loop-phase-test.true c.phase-item.is
      c.args.plan.now.phases.items c.deref.result.now c.loop-phase.before c.len.result c.deref-phase-items.ensures.value c.requires.few
      c.deref.ensures.value c.loop-phase.invariant.count
      (omega (arith, c.deref.ensures.len, c.len.ensures)),
)

pub loop-phase-preserved : goal.loop-phase-preserved
loop-phase-preserved g c = record {
  count = omega (
    arith,
    count_on c.deref-phase-items.result.now c.loop-phase.phase-index c.phase-item.result c.loop-phase-test.true
        c.phase-item.is,
    c.loop-phase.invariant.count,
    c.len.ensures,
    c.deref.ensures.len,
    ap length c.deref.ensures.value,
  );
  nothing =
      rw (writes_on c.deref-phase-items.result.now c.loop-phase.phase-index c.phase-item.result c.loop-phase-test.true c.phase-item.is)
      (none_both (g.T.Objection.against c.args.objection.now) _ _ c.loop-phase.invariant.nothing
      (rw c.deref.ensures.value at c.in_default.ensures));
}
