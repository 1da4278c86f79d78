use Rattle.pt_apply.specs.Plans.{phases_of, writes_in}
use Rattle.pt_check.proofs.Clear.{first_among}
use Rattle.pt_check.proofs.places.first_owned.Goals as goal

pub returns : goal.returns
returns g c =
    first_among g.row.B c.args.layouts.now.old c.args.layouts.now.new c.in_ok-owned.owned (writes_in (phases_of c.args.plan.now))
    c.first_in_plan-2.result c.in_ok-owned.ensures c.first_in_plan-2.ensures
