use Rattle.pt_apply.specs.Plans.{phases_of}
use Rattle.pt_replay.proofs.SayingSet.{ready_after}
use Rattle.pt_replay.proofs.set.plan_for_text.Goals as goal

pub returns-in-Ok-checked_plan_wanted-clause-ready : goal.returns-in-Ok-checked_plan_wanted-clause-ready
returns-in-Ok-checked_plan_wanted-clause-ready g c = λ tells. (
  c.in-Ok.wanted,
  c.in-Ok.ensures.ok tells,
  ready_after c.args.primary g.row.B _ _ c.in-Ok.wanted (phases_of c.in-Ok-checked_plan_wanted.plan) _ _ c.in-Ok.ensures.same.same_count
      (c.in-Ok.ensures.same.same tells) (c.in-Ok-checked_plan_wanted.ensures.ready tells),
)
