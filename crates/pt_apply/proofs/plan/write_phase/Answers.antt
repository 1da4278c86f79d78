use Rattle.std.proofs.Common.{rules, ◌∙◌}
use Rattle.std.proofs.lemmas.Result.{err_from_is_err_and}
use Rattle.pt_apply.proofs.ItemsLemmas.{drop-writes}
use Rattle.pt_apply.proofs.Items.{drop-all_writes, puts-write, fault-of-write, some_fault, whole_index}
use Rattle.pt_apply.proofs.Writing.{started, writing_on, writing_failed, ends_done, ends_settled, ends_failed}
use Rattle.pt_apply.proofs.plan.write_phase.Goals as goal

pub loop-write-preserved : goal.loop-write-preserved
loop-write-preserved g c = record {
  count = search rules;
  name = search rules;
  quiet = search rules;
  writing = λ tells.
      writing_on _ _ _ _ _ _ _ _ _
      (rw (drop-writes c.args.phase.now c.loop-write.write-index c.write-item.result c.loop-write-test.true
      c.write-item.is) at (c.loop-write.invariant.writing tells))
      (puts-write c.args.phase.now c.loop-write.write-index c.write-item.result c.loop-write-test.true c.write-item.is)
      (c.in_ok-write.ensures.done tells);
}

pub returns-in_err-write-clause-fault : goal.returns-in_err-write-clause-fault
returns-in_err-write-clause-fault g c =
    let p = err_from_is_err_and c.from_residual.result c.from_residual.ensures.1 in
    rw (p.1, p.2) (
      c.loop-write.write-index,
      fault-of-write c.args.phase.now c.loop-write.write-index c.write-item.result _ c.loop-write-test.true c.write-item.is
          c.in_err-write.ensures.fault,
    )

pub returns-in_err-write-clause-failed : goal.returns-in_err-write-clause-failed
returns-in_err-write-clause-failed g c = λ tells.
    let p = err_from_is_err_and c.from_residual.result c.from_residual.ensures.1 in
    rw (p.1, p.2) (record {
      call = c.loop-write.write-index;
      within = writing_failed _ _ _ _ _ _ _ _ _ (c.loop-write.invariant.writing tells)
          (puts-write c.args.phase.now c.loop-write.write-index c.write-item.result c.loop-write-test.true c.write-item.is)
          (c.in_err-write.ensures.failed tells);
      is = fault-of-write c.args.phase.now c.loop-write.write-index c.write-item.result _ c.loop-write-test.true c.write-item.is
          c.in_err-write.ensures.fault;
    })

pub returns-clause-passed : goal.returns-clause-passed
returns-clause-passed g c =
    λ tells. ends_done c.args.phase.now _ _ _ _ _ (whole_index c.loop-write-test.false c.loop-write.auto.write-index-end)
    (rw (drop-all_writes c.args.phase.now c.loop-write.write-index c.loop-write-test.false) at (c.loop-write.invariant.writing tells))
    c.flush.result (c.flush.ensures.done tells)

pub returns-clause-failed : goal.returns-clause-failed
returns-clause-failed g c =
    λ tells. ends_failed c.args.phase.now _ _ _ _ _ (whole_index c.loop-write-test.false c.loop-write.auto.write-index-end)
    (rw (drop-all_writes c.args.phase.now c.loop-write.write-index c.loop-write-test.false) at (c.loop-write.invariant.writing tells))
    c.flush.result (c.flush.ensures.failed tells) c.flush.ensures.fault

pub returns-clause-fault : goal.returns-clause-fault
returns-clause-fault g c = some_fault c.args.phase.now c.flush.result c.flush.ensures.fault

pub loop-write-init : goal.loop-write-init
loop-write-init g c = record {
  count = search rules;
  name = search rules;
  quiet = search rules;
  writing = λ tells. started _ _ _ (c.requires.settled tells);
}

pub returns-clause-done : goal.returns-clause-done
returns-clause-done g c =
    λ tells. ends_settled c.args.phase.now _ _ _ _ _ (whole_index c.loop-write-test.false c.loop-write.auto.write-index-end)
    (rw (drop-all_writes c.args.phase.now c.loop-write.write-index c.loop-write-test.false) at (c.loop-write.invariant.writing tells))
    c.flush.result (c.flush.ensures.done tells)

pub returns-clause-blames : goal.returns-clause-blames
returns-clause-blames g c = rw c.loop-write.invariant.quiet at c.flush.ensures.blames

pub returns-in_err-write-clause-blames : goal.returns-in_err-write-clause-blames
returns-in_err-write-clause-blames g c =
    let p = err_from_is_err_and c.from_residual.result c.from_residual.ensures.1 in
    rw (p.1, p.2) (rw c.loop-write.invariant.quiet at c.in_err-write.ensures.blames)

pub returns-in_err-write-clause-done : goal.returns-in_err-write-clause-done
returns-in_err-write-clause-done g c =
    let p = err_from_is_err_and c.from_residual.result c.from_residual.ensures.1 in λ tells. rw p.1 tt

pub returns-in_err-write-clause-passed : goal.returns-in_err-write-clause-passed
returns-in_err-write-clause-passed g c =
    let p = err_from_is_err_and c.from_residual.result c.from_residual.ensures.1 in λ tells. rw p.1 tt
