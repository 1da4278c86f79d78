use Rattle.pt_apply.specs.Plans.{phases_of}
use Rattle.pt_plan.proofs.Finishing.{after_yes}
use Rattle.pt_plan.proofs.checked.layout_after.Goals as goal

pub returns-in-Yes-clause-after : goal.returns-in-Yes-clause-after
returns-in-Yes-clause-after g c = λ tells.
    after_yes g.row.B (g.D.Disk.told c.args.disk.now).seen (phases_of c.args.plan.now) c.in-Yes.switch c.in-Yes.layout
    (rw c.in-Yes.is at (c.in_ok-why.ensures.outcome tells))
