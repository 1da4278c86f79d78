use Rattle.std.proofs.Common.{◌≡◌, ◌⊎◌, ◌+◌, inl, inr, ⊎_elim, subst, sym, arith, refl}
use Rattle.std.proofs.lemmas.Result.{err_from_is_err_and}
use Rattle.pt_apply.specs.Plans.{phases_of}
use Rattle.pt_apply.specs.inner.Plans.{phases_in}
use Rattle.pt_cases.specs.Kept.{IsKept}
use Rattle.pt_planner.specs.inner.Kept.{IsTried}
use Rattle.pt_planner.proofs.Failing.{plan_wider}
use Rattle.pt_planner.proofs.KeptPlans.{few_stay, small_stay, backup_first_kept, primary_first_kept, failed_in}
use Rattle.pt_planner.proofs.Ranges.{length_phases}
use Rattle.pt_planner.proofs.Touching.{unless, when}
use Rattle.pt_planner.proofs.kept.keep_primary.Goals.{then-len-lt-COPIES_PHASES-via-then-len-lt-COPIES_PHASES}
use Rattle.pt_planner.proofs.kept.keep_primary.Goals.{then-len-lt-COPIES_PHASES-via-else-len-lt-COPIES_PHASES+then-not-has_room}
use Rattle.pt_planner.proofs.kept.keep_primary.Goals.{then-survey+in_ok-keep_backup_first, else-survey+in_ok-keep_primary_first}
use Rattle.pt_planner.proofs.kept.keep_primary.Goals as goal

pub returns-then-len-lt-COPIES_PHASES-clause-kept : goal.returns-then-len-lt-COPIES_PHASES-clause-kept
returns-then-len-lt-COPIES_PHASES-clause-kept g c = λ tells p plan.
    let d = (g.D.Disk.told c.args.disk.now).seen in
    elim c.then-len-lt-COPIES_PHASES.branch [
      | then-len-lt-COPIES_PHASES-via-then-len-lt-COPIES_PHASES w ↦
          let len = c.len.ensures in let count = length_phases c.args.plan.phases.items in let few = w.if-len-lt-COPIES_PHASES.true in
          few_stay g.row.B d p (phases_of c.args.plan) (omega (arith, len, count, few)) plan
      | then-len-lt-COPIES_PHASES-via-else-len-lt-COPIES_PHASES+then-not-has_room w ↦
          small_stay g.row.B d p (phases_of c.args.plan)
          (rw (g.met.D.Disk.sized c.args.disk.now tells)
          (rw w.sectors.ensures at (unless _ (rw w.if-not-has_room.true at w.has_room.ensures)))) plan
    ]

pub returns-in_err-keep_backup_first-clause-place : goal.returns-in_err-keep_backup_first-clause-place
returns-in_err-keep_backup_first-clause-place g c = λ tells.
    let q = err_from_is_err_and c.from_residual.result c.from_residual.ensures.1 in
    let n = g.D.Disk.count c.args.disk.now in
    let d = (g.D.Disk.told c.args.disk.now).seen in
    rw (q.1, q.2) (λ p plan.
    plan_wider (λ s. (s ≡ 1) ⊎ IsTried (phases_in c.args.plan.phases.items) s) _ c.in_err-keep_backup_first.field-0.0
    (λ s tried. failed_in g.row.B n d p (phases_of c.args.plan) s
    (rw c.sectors.ensures at (when _ (rw c.if-not-has_room.false at c.has_room.ensures))) (g.met.D.Disk.sized c.args.disk.now tells)
    (let len = c.len.ensures in let count = length_phases c.args.plan.phases.items in let many = c.if-len-lt-COPIES_PHASES.false in
    omega (arith, len, count, many))
    plan
    (⊎_elim (λ one. inl one) (λ it. inr (inr it)) tried))
    c.in_err-keep_backup_first.ensures.place)

pub returns-in_err-keep_primary_first-clause-place : goal.returns-in_err-keep_primary_first-clause-place
returns-in_err-keep_primary_first-clause-place g c = λ tells.
    let q = err_from_is_err_and c.from_residual-in_err-keep_primary_first.result c.from_residual-in_err-keep_primary_first.ensures.1 in
    let n = g.D.Disk.count c.args.disk.now in
    let d = (g.D.Disk.told c.args.disk.now).seen in
    rw (q.1, q.2) (λ p plan.
    plan_wider (λ s. (s ≡ 1) ⊎ ((s + 1 ≡ n) ⊎ IsTried (phases_in c.args.plan.phases.items) s)) _
    c.in_err-keep_primary_first.field-0.0
    (λ s tried. failed_in g.row.B n d p (phases_of c.args.plan) s
    (rw c.sectors.ensures at (when _ (rw c.if-not-has_room.false at c.has_room.ensures))) (g.met.D.Disk.sized c.args.disk.now tells)
    (let len = c.len.ensures in let count = length_phases c.args.plan.phases.items in let many = c.if-len-lt-COPIES_PHASES.false in
    omega (arith, len, count, many))
    plan tried)
    c.in_err-keep_primary_first.ensures.place)

pub returns-clause-kept : goal.returns-clause-kept
returns-clause-kept g c = λ tells p plan.
    let d = (g.D.Disk.told c.args.disk.now).seen in
    let survey = c.requires.survey tells in
    elim c.if-survey.branch [
      | then-survey+in_ok-keep_backup_first w ↦
          subst (λ v. IsKept g.row.B d p (phases_in v.items)) (sym w.phases-is)
          (backup_first_kept g.row.B d p (phases_of c.args.plan) (phases_in w.keep_backup_first.new.phases.items)
          (let len = c.len.ensures in let count = length_phases c.args.plan.phases.items in let many = c.if-len-lt-COPIES_PHASES.false in
          omega (arith, len, count, many))
          (λ plain. (rw w.if-survey.true at (survey.primary plain
          (rw (g.met.D.Disk.sized c.args.disk.now tells)
          (rw c.sectors.ensures at (when _ (rw c.if-not-has_room.false at c.has_room.ensures)))))).0 refl)
          (w.in_ok-keep_backup_first.ensures.kept tells) plan)
      | else-survey+in_ok-keep_primary_first w ↦
          subst (λ v. IsKept g.row.B d p (phases_in v.items)) (sym w.phases-is)
          (primary_first_kept g.row.B d p (phases_of c.args.plan) (phases_in w.keep_primary_first.new.phases.items)
          (let len = c.len.ensures in let count = length_phases c.args.plan.phases.items in let many = c.if-len-lt-COPIES_PHASES.false in
          omega (arith, len, count, many))
          (λ plain. unless _ (rw w.if-survey.false at (survey.primary plain
          (rw (g.met.D.Disk.sized c.args.disk.now tells)
          (rw c.sectors.ensures at (when _ (rw c.if-not-has_room.false at c.has_room.ensures)))))))
          c.args.survey.now.layout survey.layout
          (w.in_ok-keep_primary_first.ensures.kept tells) plan)
    ]
