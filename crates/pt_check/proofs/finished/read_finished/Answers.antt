use Rattle.std.proofs.Common.{rules, ◌≡◌, ◌∙◌, ap, subst, arith, Ok, Err}
use Rattle.std.proofs.lemmas.Result.{err_from_is_err_and}
use Rattle.pt_sector.specs.Device.{with_fault}
use Rattle.pt_sector.specs.Overlays.{OnlyReads, FailedIn, fault_of, own_writes}
use Rattle.pt_sector.proofs.ReadsLemmas.{blames_below, failed_outside}
use Rattle.pt_sector.specs.Sectors.{Sectors, after}
use Rattle.pt_apply.specs.Plans.{phases_of}
use Rattle.pt_layout.specs.Surveys.{IsSurvey}
use Rattle.pt_layout.specs.declared.survey.Survey.{Survey}
use Rattle.pt_check.specs.Answers.{fault_in, told_failure}
use Rattle.pt_check.proofs.Finishing.{failure_blames}
use Rattle.pt_layout.specs.Healthy.{VerdictReads}
use Rattle.pt_check.proofs.Reading.{failure_unwritten}
use Rattle.pt_check.proofs.finished.read_finished.Goals as goal

pub put_plan-requires : goal.put_plan-requires
put_plan-requires g c = (
  search rules,
  (search rules, (search rules, (c.requires.size, omega (arith, c.new-over.ensures.room, c.in_ok-room.ensures, c.requires.room)))),
)

pub returns-in_err-room-clause-same : goal.returns-in_err-room-clause-same
returns-in_err-room-clause-same g c = g.met.D.Disk.reads_same c.args.disk.now

pub returns-in_err-told-clause-same : goal.returns-in_err-told-clause-same
returns-in_err-told-clause-same g c =
    let same : OnlyReads g.D.Disk c.args.disk.now c.survey_after.new.disk.disk.now =
    rw (c.put_plan.ensures.disk, c.new-over.ensures.disk) at c.in_err-told.ensures.same.through.0.below in
    search (rules, same)

pub returns-clause-same : goal.returns-clause-same
returns-clause-same g c =
    let same : OnlyReads g.D.Disk c.args.disk.now c.survey_after.new.disk.disk.now =
    rw (c.put_plan.ensures.disk, c.new-over.ensures.disk) at c.in_ok-told.ensures.same.through.0.below in
    search (rules, same)

pub returns-clause-blames : goal.returns-clause-blames
returns-clause-blames g c =
    let quiet : g.D.Disk.faults c.survey_after.new.disk.disk.now ≡ g.D.Disk.faults c.args.disk.now =
    blames_below g.D.Disk fault_of (Ok c.in_ok-told.told) _ _ _ _ c.in_ok-told.ensures.same.through.0 c.in_ok-told.ensures.blames
    ∙ ap g.D.Disk.faults (c.put_plan.ensures.disk ∙ c.new-over.ensures.disk) in
    search (rules, quiet)

pub returns-clause-survey : goal.returns-clause-survey
returns-clause-survey g c = λ tells.
    subst (λ (d : Sectors). IsSurvey g.row.B d c.in_ok-told.told)
    (c.put_plan.ensures.seen ∙ ap (after (phases_of c.args.plan.now)) c.new-over.ensures.seen) (c.in_ok-told.ensures.ok tells)

pub returns-in_err-told-clause-blames : goal.returns-in_err-told-clause-blames
returns-in_err-told-clause-blames g c =
    let p = err_from_is_err_and c.from_residual-in_err-told.result c.from_residual-in_err-told.ensures.1 in
    let e = c.in_err-told.field-0.0 in
    let below : g.D.Disk.faults c.survey_after.new.disk.disk.now ≡ with_fault (g.D.Disk.faults c.put_plan.new.over.disk.now) (fault_of e) =
    blames_below g.D.Disk {T = Survey} fault_of (Err e) _ _ _ _ c.in_err-told.ensures.same.through.0 c.in_err-told.ensures.blames in
    let here : g.D.Disk.faults c.survey_after.new.disk.disk.now ≡ with_fault (g.D.Disk.faults c.args.disk.now) (fault_of e) =
    rw (c.put_plan.ensures.disk, c.new-over.ensures.disk) at below in
    let blames : g.D.Disk.faults c.survey_after.new.disk.disk.now ≡ with_fault
    (g.D.Disk.faults c.args.disk.now) (fault_in (told_failure e)) =
    failure_blames _ _ e here in
    rw (p.1, p.2) (search (rules, blames))

pub returns-in_err-told-clause-place : goal.returns-in_err-told-clause-place
returns-in_err-told-clause-place g c = λ tells.
    let p = err_from_is_err_and c.from_residual-in_err-told.result c.from_residual-in_err-told.ensures.1 in
    let d : Sectors = (g.D.Disk.told c.args.disk.now).seen in
    let e = c.in_err-told.field-0.0 in
    let own = λ (x : Sectors). c.put_plan.ensures.own x ∙ ap (after (phases_of c.args.plan.now)) (c.new-over.ensures.own x) in
    rw (p.1, p.2) (failure_unwritten (VerdictReads g.row.B (after (phases_of c.args.plan.now) d)) (own_writes c.put_plan.new.over.own)
    (phases_of c.args.plan.now) e own
    (subst (λ (x : Sectors). FailedIn (VerdictReads g.row.B x) e)
    (c.put_plan.ensures.seen ∙ ap (after (phases_of c.args.plan.now)) c.new-over.ensures.seen) (c.in_err-told.ensures.place tells))
    (failed_outside {T = Survey} fault_of (Err e) _ _ _ c.in_err-told.ensures.same.through.2 c.in_err-told.ensures.blames))
