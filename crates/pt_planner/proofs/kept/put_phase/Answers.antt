use Rattle.std.proofs.Common.{◌∙◌, ℕ, ap, sym}
use Rattle.std.specs.List.{insert}
use Rattle.pt_apply.specs.inner.Plans.{phases_in}
use Rattle.pt_planner.proofs.Standing.{phases_put, tried_put}
use Rattle.pt_planner.proofs.kept.put_phase.Goals as goal

pub returns-in-Ok-clause-items : goal.returns-in-Ok-clause-items
returns-in-Ok-clause-items g c = λ before rest is at.
    ap phases_in c.in-Ok.ensures.items
    ∙ ap (λ (k : ℕ). phases_in (insert c.args.phases.now.items k c.args.phase)) (sym at)
    ∙ phases_put c.args.phases.now.items c.args.phase before rest is

pub returns-in-Ok-clause-tried : goal.returns-in-Ok-clause-tried
returns-in-Ok-clause-tried g c = λ s tried.
    tried_put c.args.phases.now.items c.args.at c.args.phase s (rw c.in-Ok.ensures.items at tried)
