use Rattle.std.proofs.Common.{◌≡◌, ◌⊎◌, [], ◌∷◌, ◌++◌, inl, inr, ⊎_elim, arith, refl}
use Rattle.std.proofs.lemmas.Result.{err_from_is_err_and}
use Rattle.pt_apply.specs.inner.Plans.{phases_in}
use Rattle.pt_planner.specs.inner.Kept.{IsTried}
use Rattle.pt_planner.proofs.Failing.{plan_wider}
use Rattle.pt_planner.proofs.kept.keep_primary_first.Goals as goal

pub keep_open-requires : goal.keep_open-requires
keep_open-requires g c = (
  omega arith,
  (
    omega arith,
    (
      c.requires.size,
      (
        let len = c.in_ok-leave_out.ensures.len in let within = c.requires.within in omega (arith, len, within),
        (
          rw c.in_ok-leave_out.ensures.same.same_count c.in_ok-leave_out.ensures.range,
          rw (c.in_ok-leave_out.ensures.same.same_count, c.in_ok-meanwhile.ensures.same.same_count) c.requires.enough,
        ),
      ),
    ),
  ),
)

pub returns-in_err-keep_open-clause-place : goal.returns-in_err-keep_open-clause-place
returns-in_err-keep_open-clause-place g c =
    let p = err_from_is_err_and c.from_residual-in_err-keep_open.result c.from_residual-in_err-keep_open.ensures.1 in
    rw (p.1, p.2) (plan_wider (λ s. (s ≡ 1) ⊎ IsTried (phases_in c.leave_out.new.phases.items) s) _ c.in_err-keep_open.field-0.0
    (λ s. ⊎_elim (λ one. inl one) (λ tried. inr (inr (c.in_ok-leave_out.ensures.tried s tried)))) c.in_err-keep_open.ensures.place)

pub returns-clause-kept : goal.returns-clause-kept
returns-clause-kept g c = λ tells zeros array header backup last is.
    let d = (g.D.Disk.told c.args.disk.now).seen in
    let left = c.in_ok-leave_out.ensures.kept tells (zeros ∷ array ∷ header ∷ []) last backup is refl in
    let wide = c.in_ok-keep_open.ensures.kept tells [] (left.0 ++ last) zeros array header left.2 refl in (
      c.in_ok-meanwhile.meanwhile,
      wide.0,
      left.0,
      c.in_ok-meanwhile.ensures.opening tells,
      rw (c.in_ok-leave_out.ensures.same.same tells, c.in_ok-meanwhile.ensures.same.same tells) at wide.1,
      rw (c.in_ok-meanwhile.ensures.same.same tells) at left.1,
      wide.2,
    )
