use Rattle.std.proofs.Common.{inl, inr, ◌∙◌, ap, min, ℕ, arith, rules}
use Rattle.pt_recover.specs.Spans.{IsIn}
use Rattle.pt_members.specs.Tables.{OwnedOf}
use Rattle.pt_planner.specs.inner.Phases.{phases_before}
use Rattle.pt_planner.proofs.Touching.{when, unless, first_touch, first_free, lent_touch, lent_free}
use Rattle.pt_planner.proofs.phases.copies.accept.Goals as goal

pub returns-then-touches-clause-err : goal.returns-then-touches-clause-err
returns-then-touches-clause-err g c = (
  lent_free (OwnedOf g.row.B c.args.old.now) c.args.plan.now.phases.items c.deref.result.now c.deref.ensures.value
      (unless _ c.if-touches_owned.ensures),
  search rules,
  inr (first_touch (IsIn c.args.guarded.now) c.args.plan.now.phases.items c.deref-2.result.now c.min-count.result
      (phases_before c.args.order.now) c.len.result c.deref-2.ensures.value
      (c.min-count.ensures ∙ ap (λ (k : ℕ). min k c.len.result) c.phases_before_switch.ensures)
      (omega (arith, c.len.ensures))
      (when _ c.if-touches.ensures)),
)

pub returns-then-touches_owned-clause-err : goal.returns-then-touches_owned-clause-err
returns-then-touches_owned-clause-err g c =
    inl (lent_touch (OwnedOf g.row.B c.args.old.now) c.args.plan.now.phases.items c.deref.result.now c.deref.ensures.value
    (when _ c.if-touches_owned.ensures))

pub returns-in-Some-clause-err : goal.returns-in-Some-clause-err
returns-in-Some-clause-err g c = (let it = c.in-Some.ensures.some in inr (it.0, it.1, it.2.0, it.2.1))

pub returns-in-Some-first_change-clause-err : goal.returns-in-Some-first_change-clause-err
returns-in-Some-first_change-clause-err g c = (
  lent_free (OwnedOf g.row.B c.args.old.now) c.args.plan.now.phases.items c.deref.result.now c.deref.ensures.value
      (unless _ c.if-touches_owned.ensures),
  search rules,
  (let it = c.in-Some-first_change.ensures.some in inl (it.0, it.1, it.2, tt)),
)

pub returns-clause-ok : goal.returns-clause-ok
returns-clause-ok g c = record {
  free = lent_free (OwnedOf g.row.B c.args.old.now) c.args.plan.now.phases.items c.deref.result.now c.deref.ensures.value
      (unless _ c.if-touches_owned.ensures);
  settled = search rules;
  unguarded = first_free (IsIn c.args.guarded.now) c.args.plan.now.phases.items c.deref-2.result.now c.min-count.result
      (phases_before c.args.order.now) c.len.result c.deref-2.ensures.value
      (c.min-count.ensures ∙ ap (λ (k : ℕ). min k c.len.result) c.phases_before_switch.ensures)
      (omega (arith, c.len.ensures))
      (unless _ c.if-touches.ensures);
}
