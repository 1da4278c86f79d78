use Rattle.std.proofs.Common.{Option, subst}
use Rattle.std.proofs.lemmas.Result.{err_from_is_err_and, IfErr-weaker, IfOk-weaker}
use Rattle.pt_apply.specs.Plans.{phases_of}
use Rattle.pt_members.specs.declared.layout.Layout.{Layout}
use Rattle.pt_recover.specs.Denotes.{Denotes}
use Rattle.pt_planner.specs.PlanReads.{PlanReadsBy, MakeReadsBy}
use Rattle.pt_plan.specs.Batches.{Words, EditReads, MendReads, mend_plan}
use Rattle.pt_plan.proofs.Mendable.{mend_planned, mend_refused_of}
use Rattle.pt_plan.proofs.Reading.{commit_nowhere, commit_wider}
use Rattle.pt_plan.proofs.Starting.{starts, no_start, reason_is, reason_hides, not_edited, not_edited_nowhere, not_planned, planned}
use Rattle.pt_plan.proofs.Starting.{plan_read}
use Rattle.pt_plan.proofs.Wanting.{not_planned_for, plan_for_reads}
use Rattle.pt_plan.proofs.prepare.plan_known.Goals as goal

pub returns-in_err-may_start-in-Edited-clause-refused : goal.returns-in_err-may_start-in-Edited-clause-refused
returns-in_err-may_start-in-Edited-clause-refused g c = λ tells.
    let batch : Words = record { edits = c.in-Edited.edits.now; guids = c.in-Edited.guids.now } in
    let p = err_from_is_err_and c.from_residual.result c.from_residual.ensures.1 in
    rw (c.in-Edited.is, p.1, p.2) (no_start c.args.primary g.row.B (g.D.Disk.count c.args.disk.now) batch
    (g.D.Disk.told c.args.disk.now).seen
    c.args.survey.now (c.requires.survey tells)
    c.in_err-may_start-in-Edited.field-0.0 c.in_err-may_start-in-Edited.ensures.may)

pub returns-in_err-may_start-in-Edited-clause-place : goal.returns-in_err-may_start-in-Edited-clause-place
returns-in_err-may_start-in-Edited-clause-place g c = λ tells.
    let p = err_from_is_err_and c.from_residual.result c.from_residual.ensures.1 in
    rw (c.in-Edited.is, p.1, p.2) (commit_nowhere (EditReads c.args.primary g.row.B (g.D.Disk.count c.args.disk.now)
    (record { edits = c.in-Edited.edits.now; guids = c.in-Edited.guids.now }) (g.D.Disk.told c.args.disk.now).seen)
    c.in_err-may_start-in-Edited.field-0.0 c.in_err-may_start-in-Edited.ensures.blames)

pub returns-in_err-layout-in-Edited-clause-refused : goal.returns-in_err-layout-in-Edited-clause-refused
returns-in_err-layout-in-Edited-clause-refused g c = λ tells.
    let p = err_from_is_err_and c.from_residual-in_err-layout-in-Edited.result c.from_residual-in_err-layout-in-Edited.ensures.1 in
    rw (c.in-Edited.is, p.1, p.2) (not_edited c.args.primary g.row.B (g.D.Disk.count c.args.disk.now) _ (g.D.Disk.told c.args.disk.now).seen
    (g.met.D.Disk.sized c.args.disk.now tells) c.args.survey.now.layout
    (starts g.row.B _ (g.D.Disk.told c.args.disk.now).seen c.args.survey.now (c.requires.survey tells)
    c.in_ok-may_start-in-Edited.ensures.may)
    c.sectors.result c.sectors.ensures c.in_err-layout-in-Edited.field-0.0 c.in_err-layout-in-Edited.ensures.err)

pub returns-in_err-layout-in-Edited-clause-place : goal.returns-in_err-layout-in-Edited-clause-place
returns-in_err-layout-in-Edited-clause-place g c = λ tells.
    let batch : Words = record { edits = c.in-Edited.edits.now; guids = c.in-Edited.guids.now } in
    let p = err_from_is_err_and c.from_residual-in_err-layout-in-Edited.result c.from_residual-in_err-layout-in-Edited.ensures.1 in
    rw (c.in-Edited.is, p.1, p.2) (not_edited_nowhere g.row.B _ c.args.survey.now.layout batch
    (EditReads c.args.primary g.row.B (g.D.Disk.count c.args.disk.now) batch (g.D.Disk.told c.args.disk.now).seen)
    c.in_err-layout-in-Edited.field-0.0
    c.in_err-layout-in-Edited.ensures.err)

pub returns-in_ok-layout-in-Edited-clause-planned : goal.returns-in_ok-layout-in-Edited-clause-planned
returns-in_ok-layout-in-Edited-clause-planned g c = λ tells.
    rw c.in-Edited.is (IfOk-weaker c.planned.result _ _
    (λ plan. planned c.args.primary g.row.B (g.D.Disk.count c.args.disk.now) _ (g.D.Disk.told c.args.disk.now).seen
    (g.met.D.Disk.sized c.args.disk.now tells) c.args.survey.now.layout
    (starts g.row.B _ (g.D.Disk.told c.args.disk.now).seen c.args.survey.now (c.requires.survey tells)
    c.in_ok-may_start-in-Edited.ensures.may)
    c.sectors.result c.sectors.ensures c.in_ok-layout-in-Edited.layout c.in_ok-layout-in-Edited.ensures.ok (phases_of plan))
    (c.planned.ensures.plan tells))

pub returns-in_ok-layout-in-Edited-clause-refused : goal.returns-in_ok-layout-in-Edited-clause-refused
returns-in_ok-layout-in-Edited-clause-refused g c = λ tells.
    rw c.in-Edited.is (IfErr-weaker c.planned.result _ _
    (not_planned c.args.primary g.row.B (g.D.Disk.count c.args.disk.now) _ (g.D.Disk.told c.args.disk.now).seen
    (g.met.D.Disk.sized c.args.disk.now tells) c.args.survey.now.layout
    (starts g.row.B _ (g.D.Disk.told c.args.disk.now).seen c.args.survey.now (c.requires.survey tells)
    c.in_ok-may_start-in-Edited.ensures.may)
    c.sectors.result c.sectors.ensures c.in_ok-layout-in-Edited.layout c.in_ok-layout-in-Edited.ensures.ok)
    (c.planned.ensures.err tells))

pub returns-in_ok-layout-in-Edited-clause-place : goal.returns-in_ok-layout-in-Edited-clause-place
returns-in_ok-layout-in-Edited-clause-place g c = λ tells.
    rw c.in-Edited.is (IfErr-weaker c.planned.result _ _
    (λ e. commit_wider (PlanReadsBy c.args.primary g.row.B (g.D.Disk.count c.args.disk.now) c.in_ok-layout-in-Edited.layout)
    (EditReads c.args.primary g.row.B (g.D.Disk.count c.args.disk.now)
    (record { edits = c.in-Edited.edits.now; guids = c.in-Edited.guids.now })
    (g.D.Disk.told c.args.disk.now).seen) e
    (plan_read c.args.primary g.row.B (g.D.Disk.count c.args.disk.now) _ (g.D.Disk.told c.args.disk.now).seen
    (g.met.D.Disk.sized c.args.disk.now tells) c.args.survey.now.layout
    (starts g.row.B _ (g.D.Disk.told c.args.disk.now).seen c.args.survey.now (c.requires.survey tells)
    c.in_ok-may_start-in-Edited.ensures.may)
    c.sectors.result c.sectors.ensures c.in_ok-layout-in-Edited.layout c.in_ok-layout-in-Edited.ensures.ok))
    (c.planned.ensures.place tells))

pub returns-in-Layout-clause-place : goal.returns-in-Layout-clause-place
returns-in-Layout-clause-place g c = λ tells.
    rw c.in-Layout.is (IfErr-weaker c.planned-in-Layout.result _ _
    (λ e. commit_wider (PlanReadsBy c.args.primary g.row.B (g.D.Disk.count c.args.disk.now) c.in-Layout.layout.now)
    (MakeReadsBy c.args.primary g.row.B (g.D.Disk.told c.args.disk.now).seen c.in-Layout.layout.now) e
    (plan_for_reads c.args.primary g.row.B (g.D.Disk.count c.args.disk.now) c.in-Layout.layout.now (g.D.Disk.told c.args.disk.now).seen
    (g.met.D.Disk.sized c.args.disk.now tells)))
    (c.planned-in-Layout.ensures.place tells))

pub returns-in-Layout-clause-refused : goal.returns-in-Layout-clause-refused
returns-in-Layout-clause-refused g c = λ tells.
    rw c.in-Layout.is (IfErr-weaker c.planned-in-Layout.result _ _
    (not_planned_for c.args.primary g.row.B (g.D.Disk.count c.args.disk.now) c.in-Layout.layout.now (g.D.Disk.told c.args.disk.now).seen _
    (c.requires.survey tells).layout)
    (c.planned-in-Layout.ensures.err tells))

pub returns-in-Some-clause-place : goal.returns-in-Some-clause-place
returns-in-Some-clause-place g c = λ tells.
    rw c.in-Own.is (IfErr-weaker c.planned-in-Some.result _ _
    (λ e. commit_wider (PlanReadsBy c.args.primary g.row.B (g.D.Disk.count c.args.disk.now) c.in-Some.own)
    (MendReads c.args.primary g.row.B (g.D.Disk.count c.args.disk.now) (g.D.Disk.told c.args.disk.now).seen) e
    (λ s reads. mend_plan c.in-Some.own
    (subst (λ (o : Option Layout). Denotes g.row.B (g.D.Disk.told c.args.disk.now).seen o) c.in-Some.is
    (c.requires.survey tells).layout) reads))
    (c.planned-in-Some.ensures.place tells))

pub returns-in-Some-clause-planned : goal.returns-in-Some-clause-planned
returns-in-Some-clause-planned g c = λ tells.
    rw c.in-Own.is (IfOk-weaker c.planned-in-Some.result _ _
    (λ plan. mend_planned c.args.primary g.row.B (g.D.Disk.told c.args.disk.now).seen c.requires.size c.args.survey.now.layout
    (c.requires.survey tells).layout
    c.in-Some.own c.in-Some.is (phases_of plan))
    (c.planned-in-Some.ensures.plan tells))

pub returns-in-Some-clause-refused : goal.returns-in-Some-clause-refused
returns-in-Some-clause-refused g c = λ tells.
    rw c.in-Own.is (mend_refused_of c.args.primary g.row.B (g.D.Disk.told c.args.disk.now).seen c.requires.size c.args.survey.now.layout
    (c.requires.survey tells).layout
    c.in-Some.own c.in-Some.is c.planned-in-Some.result c.planned-in-Some.ensures.hides (c.planned-in-Some.ensures.err tells))

pub returns-in-None-clause-refused : goal.returns-in-None-clause-refused
returns-in-None-clause-refused g c = λ tells.
    rw c.in-Own.is (reason_is g.row.B (g.D.Disk.told c.args.disk.now).seen c.args.survey.now c.reason.result (c.requires.survey tells)
    c.reason.ensures.why)

pub returns-in-None-clause-hides : goal.returns-in-None-clause-hides
returns-in-None-clause-hides g c = reason_hides c.reason.result c.reason.ensures.told

pub returns-in-None-clause-place : goal.returns-in-None-clause-place
returns-in-None-clause-place g c = λ tells. tt
