use Rattle.std.proofs.Common.{◌∙◌, ◌≡◌, ◌-◌, ℕ, inl, inr, ap}
use Rattle.std.proofs.lemmas.Result.{err_from_is_err_and}
use Rattle.pt_apply.specs.Plans.{phases_of}
use Rattle.pt_planner.specs.PlanReads.{PlanReads}
use Rattle.pt_planner.proofs.Failing.{plan_wider}
use Rattle.pt_planner.proofs.NewMbr.{headers_read, held_of, new_mbr_of, unturned_of}
use Rattle.pt_planner.proofs.new_mbr.new_mbr.Goals as goal

pub returns-in_err-plan-clause-place : goal.returns-in_err-plan-clause-place
returns-in_err-plan-clause-place g c = λ tells.
    let p = err_from_is_err_and c.from_residual.result c.from_residual.ensures.1 in
    rw (p.1, p.2) (plan_wider (PlanReads g.row.B (g.D.Disk.count c.args.disk.now) c.args.wanted.now) _ c.in_err-plan.field-0.0
    (λ s reads. inl reads) (c.in_err-plan.ensures.place tells))

pub returns-in_err-plan-clause-err : goal.returns-in_err-plan-clause-err
returns-in_err-plan-clause-err g c = λ tells.
    let p = err_from_is_err_and c.from_residual.result c.from_residual.ensures.1 in
    rw (p.1, p.2) (unturned_of g.row.B (g.D.Disk.count c.args.disk.now) (g.D.Disk.told c.args.disk.now).seen c.args.survey.now
    c.args.wanted.now (c.requires.survey tells) c.requires.first (g.met.D.Disk.sized c.args.disk.now tells) c.in_err-plan.field-0.0
    (c.in_err-plan.ensures.err tells))

pub returns-in_err-be_free-clause-err : goal.returns-in_err-be_free-clause-err
returns-in_err-be_free-clause-err g c = λ tells.
    let p = err_from_is_err_and c.from_residual-in_err-be_free.result c.from_residual-in_err-be_free.ensures.1 in
    rw (p.1, p.2) (held_of g.row.B (g.D.Disk.count c.args.disk.now) (g.D.Disk.told c.args.disk.now).seen c.args.survey.now
    c.args.wanted.now (c.requires.survey tells) c.requires.first (g.met.D.Disk.sized c.args.disk.now tells)
    (phases_of c.in_ok-plan.plan) c.in_err-be_free.field-0.0 (c.in_ok-plan.ensures.plan tells) c.in_err-be_free.ensures.err)

pub returns-in_err-zero_header-clause-place : goal.returns-in_err-zero_header-clause-place
returns-in_err-zero_header-clause-place g c = λ tells.
    let p = err_from_is_err_and c.from_residual-in_err-zero_header.result c.from_residual-in_err-zero_header.ensures.1 in
    rw (p.1, p.2) (plan_wider (λ s. s ≡ 1) _ c.in_err-zero_header.field-0.0
    (λ s at. headers_read g.row.B (g.D.Disk.count c.args.disk.now) c.args.survey.now.layout c.args.wanted.now s c.requires.first (inl at))
    c.in_err-zero_header.ensures.place)

pub returns-in_err-zero_header-2-clause-place : goal.returns-in_err-zero_header-2-clause-place
returns-in_err-zero_header-2-clause-place g c = λ tells.
    let p = err_from_is_err_and c.from_residual-in_err-zero_header-2.result c.from_residual-in_err-zero_header-2.ensures.1 in
    let n : ℕ = g.D.Disk.count c.args.disk.now in
    let last : c.sectors.result - 1 ≡ n - 1 = ap (λ (m : ℕ). m - 1) (c.sectors.ensures ∙ c.in_ok-plan.ensures.same.same_count) in
    rw (p.1, p.2) (plan_wider (λ s. s ≡ c.sectors.result - 1) _ c.in_err-zero_header-2.field-0.0
    (λ s at. headers_read g.row.B n c.args.survey.now.layout c.args.wanted.now s c.requires.first (inr (at ∙ last)))
    c.in_err-zero_header-2.ensures.place)

pub returns-clause-plan : goal.returns-clause-plan
returns-clause-plan g c = λ tells.
    let n : ℕ = g.D.Disk.count c.args.disk.now in
    let one = rw (c.in_ok-plan.ensures.same.same tells) at (c.in_ok-zero_header.ensures.zeroes tells) in
    let two = rw (
      c.in_ok-zero_header.ensures.same.same tells,
      c.in_ok-plan.ensures.same.same tells,
      c.sectors.ensures,
      c.in_ok-plan.ensures.same.same_count,
    ) at (c.in_ok-zero_header-2.ensures.zeroes tells) in
    new_mbr_of g.row.B n (g.D.Disk.told c.args.disk.now).seen c.args.survey.now
    c.args.wanted.now (c.requires.survey tells) c.requires.first (g.met.D.Disk.sized c.args.disk.now tells)
    (phases_of c.in_ok-plan.plan) (phases_of c.zero_header.new.plan) (phases_of c.zero_header-2.new.plan)
    (c.in_ok-plan.ensures.plan tells) c.in_ok-be_free.ensures.ok one two
