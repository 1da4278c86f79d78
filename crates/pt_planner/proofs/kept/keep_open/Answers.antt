use Rattle.std.proofs.Common.{◌∙◌, ◌<◌, inl, inr, ⊎_elim, ap, subst, arith, length}
use Rattle.std.specs.List.{remove}
use Rattle.std.proofs.lemmas.Result.{err_from_is_err_and}
use Rattle.pt_apply.specs.Plans.{writes_of, PhaseInRange}
use Rattle.pt_apply.specs.inner.Plans.{phases_in}
use Rattle.pt_cases.specs.Kept.{AllStand}
use Rattle.pt_cases.specs.Writes.{one_write}
use Rattle.pt_planner.specs.inner.Kept.{IsWritten, IsTried}
use Rattle.pt_planner.proofs.Standing.{all_removed, tried_there, tried_removed, array_stands, array_changes, array_opened}
use Rattle.pt_planner.proofs.Standing.{one_in_range, one_some, tried_one}
use Rattle.pt_planner.proofs.Touching.{unless, when}
use Rattle.pt_planner.proofs.kept.keep_open.Goals as goal

pub returns-in_err-stands-clause-place : goal.returns-in_err-stands-clause-place
returns-in_err-stands-clause-place g c =
    let p = err_from_is_err_and c.from_residual.result c.from_residual.ensures.1 in
    let s = c.in_err-stands.field-0.0.0.0 in
    rw (p.1, p.2) (inr (tried_removed c.args.phases.now.items c.args.at s
    (subst (λ ps. IsTried (phases_in ps) s) c.remove.ensures.items
    (tried_there c.remove.new.self.items c.args.at c.index.result.now s
    (let len = c.remove.ensures.len in let within = c.requires.within in omega (arith, len, within)) c.index.ensures
    (subst (λ ws. IsWritten (writes_of ws) s) c.deref.ensures.value c.in_err-stands.ensures.place)))))

pub leave_out-requires : goal.leave_out-requires
leave_out-requires g c = (
  omega arith,
  (
    let one = c.remove.ensures.len in let two = c.remove-then-branch.ensures.len in let within = c.requires.within in
        omega (arith, one, two, within),
    rw (c.in_ok-stands.ensures.same.same_count, c.remove-then-branch.ensures.items, c.remove.ensures.items)
        (all_removed (λ p. PhaseInRange (g.D.Disk.count c.args.disk.now) p.items) (remove c.args.phases.now.items c.args.at) c.args.at
        (all_removed (λ p. PhaseInRange (g.D.Disk.count c.args.disk.now) p.items) c.args.phases.now.items c.args.at c.requires.in_range)),
  ),
)

pub returns-in_err-leave_out-clause-place : goal.returns-in_err-leave_out-clause-place
returns-in_err-leave_out-clause-place g c =
    let p = err_from_is_err_and c.from_residual-in_err-leave_out.result c.from_residual-in_err-leave_out.ensures.1 in
    let s = c.in_err-leave_out.field-0.0.0.0 in
    rw (p.1, p.2) (inr (tried_removed c.args.phases.now.items c.args.at s
    (tried_removed (remove c.args.phases.now.items c.args.at) c.args.at s
    (rw (c.remove-then-branch.ensures.items, c.remove.ensures.items) at c.in_err-leave_out.ensures.place))))

pub returns-then-branch-clause-some : goal.returns-then-branch-clause-some
returns-then-branch-clause-some g c = λ all. c.in_ok-leave_out.ensures.some
    (rw (c.remove-then-branch.ensures.items, c.remove.ensures.items)
    (all_removed (λ p. 0 < length p.items) (remove c.args.phases.now.items c.args.at) c.args.at
    (all_removed (λ p. 0 < length p.items) c.args.phases.now.items c.args.at all)))

pub returns-then-branch-clause-kept : goal.returns-then-branch-clause-kept
returns-then-branch-clause-kept g c = λ tells.
    let d = (g.D.Disk.told c.args.disk.now).seen in
    array_stands d (one_write 1 c.args.meanwhile.now) c.args.at c.args.phases.now.items c.index.result.now
    (phases_in c.leave_out.new.phases.items)
    (subst (λ ws. AllStand d (writes_of ws))
    (c.deref.ensures.value ∙ ap (λ v. v.items) (rw c.remove.ensures.items at c.index.ensures))
    (when _ (rw c.if-branch.true at (c.in_ok-stands.ensures.stands tells))))
    (rw (c.remove-then-branch.ensures.items, c.remove.ensures.items, c.in_ok-stands.ensures.same.same tells) at
    (c.in_ok-leave_out.ensures.kept tells))

pub returns-in_ok-put_phase-clause-range : goal.returns-in_ok-put_phase-clause-range
returns-in_ok-put_phase-clause-range g c =
    c.in_ok-put_phase.ensures.range (g.D.Disk.count c.args.disk.now)
    (one_in_range c.in_ok-opening.opening.items c.args.meanwhile.now c.in_ok-opening.ensures (g.D.Disk.count c.args.disk.now)
    c.requires.enough)
    (rw c.remove.ensures.items
    (all_removed (λ p. PhaseInRange (g.D.Disk.count c.args.disk.now) p.items) c.args.phases.now.items c.args.at c.requires.in_range))

pub returns-in_ok-put_phase-clause-some : goal.returns-in_ok-put_phase-clause-some
returns-in_ok-put_phase-clause-some g c = λ all. c.in_ok-put_phase.ensures.some
    (one_some c.in_ok-opening.opening.items c.args.meanwhile.now c.in_ok-opening.ensures)
    (rw c.remove.ensures.items (all_removed (λ p. 0 < length p.items) c.args.phases.now.items c.args.at all))

pub returns-in_ok-put_phase-clause-kept : goal.returns-in_ok-put_phase-clause-kept
returns-in_ok-put_phase-clause-kept g c = λ tells.
    let d = (g.D.Disk.told c.args.disk.now).seen in
    array_changes d (one_write 1 c.args.meanwhile.now) c.args.at c.args.phases.now.items c.index.result.now c.in_ok-opening.opening
    (phases_in c.put_phase.new.phases.items)
    (subst (λ ws. ¬ AllStand d (writes_of ws))
    (c.deref.ensures.value ∙ ap (λ v. v.items) (rw c.remove.ensures.items at c.index.ensures))
    (unless _ (rw c.if-branch.false at (c.in_ok-stands.ensures.stands tells))))
    c.in_ok-opening.ensures
    (unless _ (rw (c.if-not-branch.true, c.deref-2.ensures.value, c.in_ok-stands.ensures.same.same tells) at
    (c.in_ok-stands-2.ensures.stands tells)))
    (rw c.remove.ensures.items at c.in_ok-put_phase.ensures.items)

pub returns-else-not-branch-clause-some : goal.returns-else-not-branch-clause-some
returns-else-not-branch-clause-some g c = λ all.
    rw c.remove.ensures.items (all_removed (λ p. 0 < length p.items) c.args.phases.now.items c.args.at all)

pub returns-else-not-branch-clause-kept : goal.returns-else-not-branch-clause-kept
returns-else-not-branch-clause-kept g c = λ tells.
    let d = (g.D.Disk.told c.args.disk.now).seen in
    rw c.remove.ensures.items
    (array_opened d (one_write 1 c.args.meanwhile.now) c.args.at c.args.phases.now.items c.index.result.now
    (subst (λ ws. ¬ AllStand d (writes_of ws))
    (c.deref.ensures.value ∙ ap (λ v. v.items) (rw c.remove.ensures.items at c.index.ensures))
    (unless _ (rw c.if-branch.false at (c.in_ok-stands.ensures.stands tells))))
    (when _ (rw (c.if-not-branch.false, c.deref-2.ensures.value, c.in_ok-stands.ensures.same.same tells, c.in_ok-opening.ensures) at
    (c.in_ok-stands-2.ensures.stands tells))))

pub returns-then-branch-clause-len : goal.returns-then-branch-clause-len
returns-then-branch-clause-len g c =
    let one = c.remove.ensures.len in let two = c.remove-then-branch.ensures.len in let three = c.in_ok-leave_out.ensures.len in
    omega (arith, one, two, three)

pub returns-then-branch-clause-tried : goal.returns-then-branch-clause-tried
returns-then-branch-clause-tried g c = λ s tried.
    inr (tried_removed c.args.phases.now.items c.args.at s
    (tried_removed (remove c.args.phases.now.items c.args.at) c.args.at s
    (rw (c.remove-then-branch.ensures.items, c.remove.ensures.items) at (c.in_ok-leave_out.ensures.tried s tried))))

pub returns-in_ok-put_phase-clause-len : goal.returns-in_ok-put_phase-clause-len
returns-in_ok-put_phase-clause-len g c =
    let one = c.remove.ensures.len in let two = c.in_ok-put_phase.ensures.len in omega (arith, one, two)

pub returns-in_ok-put_phase-clause-tried : goal.returns-in_ok-put_phase-clause-tried
returns-in_ok-put_phase-clause-tried g c = λ s tried.
    tried_one _ c.args.meanwhile.now s (IsTried (phases_in c.args.phases.now.items)) c.in_ok-opening.ensures
    (⊎_elim (λ new. inl new) (λ old. inr (tried_removed c.args.phases.now.items c.args.at s (rw c.remove.ensures.items at old)))
    (c.in_ok-put_phase.ensures.tried s tried))

pub returns-else-not-branch-clause-len : goal.returns-else-not-branch-clause-len
returns-else-not-branch-clause-len g c = let one = c.remove.ensures.len in omega (arith, one)

pub returns-else-not-branch-clause-tried : goal.returns-else-not-branch-clause-tried
returns-else-not-branch-clause-tried g c = λ s tried.
    inr (tried_removed c.args.phases.now.items c.args.at s (rw c.remove.ensures.items at tried))
