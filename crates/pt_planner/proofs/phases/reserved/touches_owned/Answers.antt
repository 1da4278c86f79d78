use Rattle.std.proofs.Common.{Option, subst}
use Rattle.pt_members.specs.declared.layout.Layout.{Layout}
use Rattle.pt_members.specs.Tables.{OwnedOf}
use Rattle.pt_apply.specs.Plans.{writes_in}
use Rattle.pt_apply.specs.inner.Plans.{phases_in}
use Rattle.pt_planner.specs.inner.Phases.{Touches}
use Rattle.pt_planner.proofs.Touching.{no_touch}
use Rattle.pt_planner.proofs.phases.reserved.touches_owned.Goals as goal

pub returns-in-Some : goal.returns-in-Some
returns-in-Some g c = (
  λ it. (let found = c.touches.ensures.0 it in (found.0, found.1, found.2, found.3.1)),
  λ touched. c.touches.ensures.1 (
    touched.0,
    touched.1,
    touched.2,
    (c.reach_of.ensures touched.0 (subst (λ (l : Option Layout). OwnedOf g.row.B l touched.0) c.in-Some.is touched.3), touched.3),
  ),
)

pub returns-in-None : goal.returns-in-None
returns-in-None g c =
    let ws = writes_in (phases_in c.args.phases.now) in
    no_touch (Touches (OwnedOf g.row.B c.args.layout.now) ws)
    (λ touched. subst (λ (l : Option Layout). OwnedOf g.row.B l touched.0) c.in-None.is touched.3)
