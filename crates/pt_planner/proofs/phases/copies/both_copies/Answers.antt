use Rattle.std.proofs.Common.{refl, rules}
use Rattle.std.proofs.lemmas.Result.{err_from_is_err_and}
use Rattle.pt_apply.specs.Plans.{writes_of, phases_of}
use Rattle.pt_planner.proofs.PhasesPlans.{shared_stops, plans, stops}
use Rattle.pt_planner.proofs.Refusing.{refused_faultless, copies_few}
use Rattle.pt_planner.proofs.Shapes.{sorted_below}
use Rattle.pt_planner.proofs.phases.copies.both_copies.Goals as goal

pub returns-in-None : goal.returns-in-None
returns-in-None g c = record {
  plan = tt;
  err = λ d p count start. shared_stops d c.args.survey.now.layout p c.args.table.now c.args.order.now c.args.survey.now.guarded
      c.args.places.items c.requires.size start c.in-None.ensures.none;
  in_range = tt;
  some = tt;
  faultless = refl;
  short = tt;
  count = tt;
}

pub arranged-requires : goal.arranged-requires
arranged-requires g c = (
  search rules,
  (
    search rules,
    (
      search rules,
      (
        c.requires.size,
        (
          c.requires.room,
          (
            c.requires.few,
            c.in_ok-labels.ensures.in_range c.args.sectors
                (sorted_below c.args.sectors c.args.places.items c.in-Some.targets.items c.deref.result.now
                c.in-Some.ensures.some c.deref.ensures.value c.requires.in_range),
          ),
        ),
      ),
    ),
  ),
)

pub returns-in_err-labels : goal.returns-in_err-labels
returns-in_err-labels g c =
    let e = err_from_is_err_and c.from_residual.result c.from_residual.ensures.1 in
    record {
      plan = rw e.1 tt;
      err = rw (e.1, e.2) (λ d p count start. tt);
      in_range = rw e.1 tt;
      some = rw e.1 tt;
      faultless = rw (e.1, e.2) refl;
      short = rw e.1 tt;
      count = rw e.1 tt;
    }

pub returns-in_err-plan : goal.returns-in_err-plan
returns-in_err-plan g c =
    let e = err_from_is_err_and c.from_residual-in_err-plan.result c.from_residual-in_err-plan.ensures.1 in
    record {
      plan = rw e.1 tt;
      err = rw (e.1, e.2) (λ d p count start. tt);
      in_range = rw e.1 tt;
      some = rw e.1 tt;
      faultless = rw (e.1, e.2) refl;
      short = rw e.1 tt;
      count = rw e.1 tt;
    }

pub returns-in_err-accept : goal.returns-in_err-accept
returns-in_err-accept g c =
    let e = err_from_is_err_and c.from_residual-in_err-accept.result c.from_residual-in_err-accept.ensures.1 in
    record {
      plan = rw e.1 tt;
      err = rw (e.1, e.2) (stops c.args.sectors c.args.survey.now.layout c.args.table.now c.args.order.now
          c.args.survey.now.guarded c.args.places.items c.in-Some.targets.items c.deref.result.now
          c.deref-2.result.now
          (writes_of c.in_ok-labels.labels.items)
          (phases_of c.in_ok-plan.plan) c.requires.size c.in-Some.ensures.some c.deref.ensures.value c.deref-2.ensures.value
          c.in_ok-labels.ensures.new c.in_ok-plan.ensures.phases
          c.in_err-accept.field-0.0 c.in_err-accept.ensures.err);
      in_range = rw e.1 tt;
      some = rw e.1 tt;
      faultless = rw (e.1, e.2) (refused_faultless c.args.survey.now.layout c.args.survey.now.guarded c.args.order.now
          c.deref-2.result.now (phases_of c.in_ok-plan.plan) c.in_err-accept.field-0.0 c.in_err-accept.ensures.err);
      short = rw e.1 tt;
      count = rw e.1 tt;
    }

pub returns : goal.returns
returns g c = record {
  plan = plans c.args.sectors c.args.survey.now.layout c.args.table.now c.args.order.now c.args.survey.now.guarded
      c.args.places.items c.in-Some.targets.items c.deref.result.now c.deref-2.result.now
      (writes_of c.in_ok-labels.labels.items)
      (phases_of c.in_ok-plan.plan) c.requires.size c.in-Some.ensures.some c.deref.ensures.value c.deref-2.ensures.value
      c.in_ok-labels.ensures.new c.in_ok-plan.ensures.phases
      c.in_ok-accept.ensures.ok;
  err = tt;
  in_range = c.in_ok-plan.ensures.in_range;
  some = c.in_ok-plan.ensures.some;
  faultless = tt;
  short = c.in_ok-plan.ensures.short;
  count = copies_few c.args.survey.now.guarded c.args.places.items c.in-Some.targets.items c.deref.result.now
      c.in_ok-labels.labels.items _ c.in_ok-plan.ensures.count c.in_ok-labels.ensures.new c.deref.ensures.value
      c.in-Some.ensures.some;
}
