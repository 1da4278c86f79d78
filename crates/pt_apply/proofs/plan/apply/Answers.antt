use Rattle.std.proofs.Common.{rules, ◌≡◌, ℕ, List, length, ap, subst, arith}
use Rattle.std.proofs.lemmas.Result.{err_from_is_err_and}
use Rattle.pt_sector.proofs.Since.{leaves_none}
use Rattle.pt_apply.proofs.Applied.{reached_none, settled_on, leaves_phase, reached_on, failed_in, fault_in}
use Rattle.pt_sector.specs.Sectors.{Writes, after}
use Rattle.pt_apply.proofs.Items.{length-phases, take-all}
use Rattle.pt_apply.specs.Plans.{phases_of, Reached, Settled}
use Rattle.pt_apply.proofs.plan.apply.Goals as goal

pub loop-phase-init : goal.loop-phase-init
loop-phase-init g c = record {
  count = search rules;
  name = search rules;
  quiet = search rules;
  settled = λ tells. c.requires.settled tells;
  leaves = λ tells. leaves_none _ _;
  reached = λ tells. reached_none _ _ _ (c.requires.settled tells);
}

pub loop-phase-preserved : goal.loop-phase-preserved
loop-phase-preserved g c = record {
  count = search rules;
  name = search rules;
  quiet = search rules;
  settled =
      λ tells. settled_on c.deref-phase-items.result.now c.loop-phase.phase-index c.phase-item.result c.loop-phase-test.true c.phase-item.is
      c.deref.result.now c.deref.ensures.value _ _ _ (c.loop-phase.invariant.settled tells) (c.in_ok-write_phase.ensures.done tells);
  leaves =
      λ tells. leaves_phase c.deref-phase-items.result.now c.loop-phase.phase-index c.phase-item.result c.loop-phase-test.true
      c.phase-item.is
      c.deref.result.now c.deref.ensures.value _ _ _ (c.loop-phase.invariant.settled tells) _ _ (c.loop-phase.invariant.leaves tells)
      (c.in_ok-write_phase.ensures.passed tells);
  reached =
      λ tells. reached_on c.deref-phase-items.result.now c.loop-phase.phase-index c.phase-item.result c.loop-phase-test.true c.phase-item.is
      c.deref.result.now c.deref.ensures.value _ _ _ (c.loop-phase.invariant.settled tells) _ (c.loop-phase.invariant.reached tells)
      (c.in_ok-write_phase.ensures.passed tells) (c.in_ok-write_phase.ensures.done tells);
}

pub returns-in_err-write_phase-clause-any_moment : goal.returns-in_err-write_phase-clause-any_moment
returns-in_err-write_phase-clause-any_moment g c = λ tells.
    rw c.deref-phase-items.ensures.value at (leaves_phase c.deref-phase-items.result.now c.loop-phase.phase-index c.phase-item.result
    c.loop-phase-test.true c.phase-item.is
    c.deref.result.now c.deref.ensures.value _ _ _ (c.loop-phase.invariant.settled tells) _ _ (c.loop-phase.invariant.leaves tells)
    (c.in_err-write_phase.ensures.failed tells).within)

pub returns-in_err-write_phase-clause-failed : goal.returns-in_err-write_phase-clause-failed
returns-in_err-write_phase-clause-failed g c = λ tells.
    let p = err_from_is_err_and c.from_residual.result c.from_residual.ensures.1 in
    rw (p.1, p.2) (rw c.deref-phase-items.ensures.value at (failed_in c.deref-phase-items.result.now c.loop-phase.phase-index
    c.phase-item.result c.loop-phase-test.true c.phase-item.is
    c.deref.result.now c.deref.ensures.value _ _ _ (c.loop-phase.invariant.settled tells) _ _ (c.loop-phase.invariant.reached tells)
    (c.in_err-write_phase.ensures.failed tells)))

pub returns-clause-passed : goal.returns-clause-passed
returns-clause-passed g c = λ tells.
    let phases = phases_of c.args.plan.now in
    let all : c.loop-phase.phase-index ≡ length phases =
    omega (arith, length-phases c.args.plan.now.phases.items, ap length c.deref-phase-items.ensures.value) in
    subst (λ (n : ℕ). Reached phases (g.D.Disk.told c.args.disk.now).seen n 0 (g.D.Disk.told c.args.disk.now)
    (g.D.Disk.told c.loop-phase.disk)) all
    (rw c.deref-phase-items.ensures.value at (c.loop-phase.invariant.reached tells))

pub returns-in_err-write_phase-clause-fault : goal.returns-in_err-write_phase-clause-fault
returns-in_err-write_phase-clause-fault g c =
    let p = err_from_is_err_and c.from_residual.result c.from_residual.ensures.1 in
    rw (p.1, p.2) (rw c.deref-phase-items.ensures.value at (fault_in c.deref-phase-items.result.now c.loop-phase.phase-index
    c.phase-item.result
    c.deref.result.now _ c.loop-phase-test.true c.phase-item.is c.deref.ensures.value c.in_err-write_phase.ensures.fault))

pub returns-clause-done : goal.returns-clause-done
returns-clause-done g c = λ tells.
    let phases = phases_of c.args.plan.now in
    let all = take-all phases c.loop-phase.phase-index
    (omega (arith, c.loop-phase-test.false, length-phases c.args.plan.now.phases.items, ap length c.deref-phase-items.ensures.value)) in
    subst (λ (ps : List Writes). Settled (g.D.Disk.told c.loop-phase.disk) (after ps (g.D.Disk.told c.args.disk.now).seen)) all
    (rw c.deref-phase-items.ensures.value at (c.loop-phase.invariant.settled tells))

pub returns-clause-any_moment : goal.returns-clause-any_moment
returns-clause-any_moment g c = λ tells. rw c.deref-phase-items.ensures.value at (c.loop-phase.invariant.leaves tells)

pub returns-in_err-write_phase-clause-blames : goal.returns-in_err-write_phase-clause-blames
returns-in_err-write_phase-clause-blames g c =
    let p = err_from_is_err_and c.from_residual.result c.from_residual.ensures.1 in
    rw (p.1, p.2) (rw c.loop-phase.invariant.quiet at c.in_err-write_phase.ensures.blames)

pub returns-in_err-write_phase-clause-done : goal.returns-in_err-write_phase-clause-done
returns-in_err-write_phase-clause-done g c =
    let p = err_from_is_err_and c.from_residual.result c.from_residual.ensures.1 in λ tells. rw p.1 tt

pub returns-in_err-write_phase-clause-passed : goal.returns-in_err-write_phase-clause-passed
returns-in_err-write_phase-clause-passed g c =
    let p = err_from_is_err_and c.from_residual.result c.from_residual.ensures.1 in λ tells. rw p.1 tt
