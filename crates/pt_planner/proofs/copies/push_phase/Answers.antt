use Rattle.std.proofs.Common.{◌∙◌, ap}
use Rattle.pt_apply.specs.inner.Plans.{phases_in}
use Rattle.pt_planner.proofs.Ranges.{phases_more}
use Rattle.pt_planner.proofs.copies.push_phase.Goals as goal

pub returns : goal.returns
returns g c = ap phases_in c.in_ok-push.ensures.items ∙ phases_more c.args.phases.now.items c.args.phase
