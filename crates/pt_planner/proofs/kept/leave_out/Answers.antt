use Rattle.std.proofs.Common.{◌∙◌, ◌<◌, List, length, ap, sym, subst, arith}
use Rattle.std.proofs.lemmas.Result.{err_from_is_err_and}
use Rattle.pt_apply.specs.Plans.{writes_of}
use Rattle.pt_apply.specs.declared.plan.Write.{Write}
use Rattle.pt_apply.specs.inner.Plans.{phases_in}
use Rattle.pt_cases.specs.Kept.{AllStand}
use Rattle.pt_planner.specs.inner.Kept.{IsWritten, LeavesOut}
use Rattle.pt_planner.proofs.Standing.{all_removed, left_out, left_in, tried_there, tried_removed}
use Rattle.pt_planner.proofs.Touching.{unless, when}
use Rattle.pt_planner.proofs.kept.leave_out.Goals as goal

pub returns-in_err-stands-clause-place : goal.returns-in_err-stands-clause-place
returns-in_err-stands-clause-place g c =
    let p = err_from_is_err_and c.from_residual.result c.from_residual.ensures.1 in
    rw (p.1, p.2) (tried_there c.args.phases.now.items c.args.at c.index.result.now c.in_err-stands.field-0.0.0.0 c.requires.within
    c.index.ensures
    (subst (λ (ws : List (Write g.row.B)). IsWritten (writes_of ws) c.in_err-stands.field-0.0.0.0) c.deref.ensures.value
    c.in_err-stands.ensures.place))

pub returns-then-branch-clause-some : goal.returns-then-branch-clause-some
returns-then-branch-clause-some g c = λ all.
    rw c.remove.ensures.items (all_removed (λ p. 0 < length p.items) c.args.phases.now.items c.args.at all)

pub returns-then-branch-clause-kept : goal.returns-then-branch-clause-kept
returns-then-branch-clause-kept g c = λ tells.
    let d = (g.D.Disk.told c.args.disk.now).seen in
    subst (λ ps. LeavesOut d c.args.at (phases_in c.args.phases.now.items) (phases_in ps)) (sym c.remove.ensures.items)
    (left_out d c.args.at c.args.phases.now.items c.index.result.now
    (subst (λ ws. AllStand d (writes_of ws)) (c.deref.ensures.value ∙ ap (λ v. v.items) c.index.ensures)
    (when _ (rw c.if-branch.true at (c.in_ok-stands.ensures.stands tells)))))

pub returns-else-branch-clause-kept : goal.returns-else-branch-clause-kept
returns-else-branch-clause-kept g c = λ tells.
    let d = (g.D.Disk.told c.args.disk.now).seen in
    left_in d c.args.at c.args.phases.now.items c.index.result.now
    (subst (λ ws. ¬ AllStand d (writes_of ws)) (c.deref.ensures.value ∙ ap (λ v. v.items) c.index.ensures)
    (unless _ (rw c.if-branch.false at (c.in_ok-stands.ensures.stands tells))))

pub returns-then-branch-clause-len : goal.returns-then-branch-clause-len
returns-then-branch-clause-len g c = let len = c.remove.ensures.len in omega (arith, len)

pub returns-then-branch-clause-tried : goal.returns-then-branch-clause-tried
returns-then-branch-clause-tried g c = λ s tried.
    tried_removed c.args.phases.now.items c.args.at s (rw c.remove.ensures.items at tried)
