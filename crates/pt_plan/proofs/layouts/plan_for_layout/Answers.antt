use Rattle.std.proofs.lemmas.Result.{IfOk-weaker}
use Rattle.pt_apply.specs.Plans.{phases_of}
use Rattle.pt_cases.specs.declared.primary.Primary.TheVariants.{Kept}
use Rattle.pt_plan.proofs.Wanting.{accepted}
use Rattle.pt_plan.proofs.layouts.plan_for_layout.Goals as goal

pub returns-clause-accepted : goal.returns-clause-accepted
returns-clause-accepted g c = λ tells.
    IfOk-weaker c.make_plan_by.result _ _
    (λ plan. accepted Kept g.row.B c.args.wanted.now (g.D.Disk.told c.args.disk.now).seen (phases_of plan) c.requires.size)
    (c.make_plan_by.ensures.plan tells)
