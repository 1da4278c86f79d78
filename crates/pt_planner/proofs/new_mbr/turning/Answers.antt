use Rattle.std.proofs.Common.{◌∙◌, ◌≡◌, ◌≤◌, ℕ, List, ap, subst, arith, length}
use Rattle.std.specs.Prelude.{slice_set}
use Rattle.std.proofs.lemmas.Result.{err_from_is_err_and}
use Rattle.pt_sector.specs.Device.{Told}
use Rattle.pt_sector.specs.Overlays.{content}
use Rattle.pt_sector.specs.Sectors.{Sectors, sector}
use Rattle.pt_apply.specs.Plans.{phases_of}
use Rattle.pt_cases.specs.Cases.{IsPlan}
use Rattle.pt_cases.specs.NewMbr.{emptied, empty_head}
use Rattle.pt_planner.specs.PlanReads.{FailedInPlan, MakeReads, PlanReads}
use Rattle.pt_planner.proofs.Failing.{plan_wider}
use Rattle.pt_planner.proofs.Making.{ok_so}
use Rattle.pt_planner.proofs.NewMbr.{turning_of, turning_reads}
use Rattle.pt_planner.proofs.new_mbr.turning.Goals as goal

pub returns-in_err-plan-clause-place : goal.returns-in_err-plan-clause-place
returns-in_err-plan-clause-place g c = λ tells.
    let p = err_from_is_err_and c.from_residual-in_err-plan.result c.from_residual-in_err-plan.ensures.1 in
    let d : Sectors = (g.D.Disk.told c.args.disk.now).seen in
    let n : ℕ = g.D.Disk.count c.args.disk.now in
    let count : length d ≡ n = g.met.D.Disk.sized c.args.disk.now tells in
    let under : c.in_ok-under.under ≡ sector d 0 = c.in_ok-under.ensures.bytes tells in
    let long : 512 ≤ length (sector d 0) = subst (λ (v : List ℕ). 512 ≤ length v) under c.emptied_head-head.ensures.long in
    let seen : (content g.D.Disk.told c.put.new.self).seen ≡ emptied d =
    c.put.ensures.wrote.seen
    ∙ ap (λ (x : Sectors). slice_set x 0 c.emptied_head-head.result)
    (c.new-over.ensures.seen ∙ ap (λ (t : Told). t.seen) (c.in_ok-under.ensures.same.same tells))
    ∙ ap (λ (v : List ℕ). slice_set d 0 v) (c.emptied_head-head.ensures.put ∙ ap empty_head under) in
    rw (p.1, p.2) (plan_wider (MakeReads g.row.B (emptied d) c.args.wanted.now) (PlanReads g.row.B n c.args.wanted.now)
    c.in_err-plan.field-0.0
    (λ s. turning_reads g.row.B n d c.args.wanted.now s (omega (arith, c.requires.some, count)) long count)
    (subst (λ (x : Sectors). FailedInPlan (MakeReads g.row.B x c.args.wanted.now) c.in_err-plan.field-0.0) seen
    (c.in_err-plan.ensures.place tells)))

pub returns-clause-plan : goal.returns-clause-plan
returns-clause-plan g c = λ tells.
    let d : Sectors = (g.D.Disk.told c.args.disk.now).seen in
    let under : c.in_ok-under.under ≡ sector d 0 = c.in_ok-under.ensures.bytes tells in
    let seen : (content g.D.Disk.told c.put.new.self).seen ≡ emptied d =
    c.put.ensures.wrote.seen
    ∙ ap (λ (x : Sectors). slice_set x 0 c.emptied_head-head.result)
    (c.new-over.ensures.seen ∙ ap (λ (t : Told). t.seen) (c.in_ok-under.ensures.same.same tells))
    ∙ ap (λ (v : List ℕ). slice_set d 0 v) (c.emptied_head-head.ensures.put ∙ ap empty_head under) in
    ok_so c.or_head.result _ _
    (λ one is. turning_of g.row.B d c.args.wanted.now c.in_ok-under.under c.emptied_head-head.result (phases_of c.in_ok-plan.plan)
    (phases_of one) under c.emptied_head-head.ensures.put
    (subst (λ (x : Sectors). IsPlan g.row.B x c.args.wanted.now (phases_of c.in_ok-plan.plan)) seen (c.in_ok-plan.ensures.plan tells)) is)
    c.or_head.ensures.ok

pub returns-clause-in_range : goal.returns-clause-in_range
returns-clause-in_range g c =
    ok_so c.or_head.result _ _
    (λ one each. each (g.D.Disk.count c.args.disk.now) c.requires.some
    (rw (c.put.ensures.disk, c.new-over.ensures.disk, c.in_ok-under.ensures.same.same_count) at c.in_ok-plan.ensures.in_range))
    c.or_head.ensures.in_range
