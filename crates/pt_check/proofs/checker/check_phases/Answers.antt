use Rattle.std.proofs.Common.{rules, ◌∙◌, List, sym, ap}
use Rattle.std.proofs.lemmas.Result.{err_from_is_err_and}
use Rattle.pt_sector.specs.Device.{with_fault, Told}
use Rattle.pt_sector.specs.Sectors.{Sectors}
use Rattle.pt_apply.specs.Plans.{phases_of, finished}
use Rattle.pt_recover.specs.Denotes.{Denotes}
use Rattle.pt_sector.specs.declared.disk.Fault.{Fault}
use Rattle.pt_layout.specs.Surveys.{IsSurvey}
use Rattle.pt_check.specs.Answers.{fault_in}
use Rattle.pt_check.proofs.Exits.{concluding}
use Rattle.pt_check.proofs.Finishing.{found_layout, leads, survey_known, survey_wrong}
use Rattle.pt_check.proofs.Reading.{finish_failed}
use Rattle.pt_check.proofs.checker.check_phases.Goals as goal

pub returns-clause-outcome : goal.returns-clause-outcome
returns-clause-outcome g c = λ tells.
    let d : Sectors = (g.D.Disk.told c.args.disk.now).seen in
    let x = c.in_ok-end.end in
    let read : IsSurvey g.row.B (finished c.args.plan.now d) x = c.in_ok-end.ensures.survey tells in
    let from : Denotes g.row.B d c.args.old = (c.requires.known tells).denotes in
    let both = concluding g.row.B d (phases_of c.args.plan.now)
    (c.requires.fit tells) c.args.old x.layout (record { from = from; to = read.layout }) c.in_ok-trial.trial
    c.in_ok-misplaced.misplaced x.finding
    (rw (c.in_ok-end.ensures.same.same tells, c.into_parts-new.ensures) at (c.in_ok-trial.ensures.tried tells))
    (rw c.into_parts-new.ensures at c.in_ok-misplaced.ensures) (survey_wrong g.row.B _ x.layout x.finding read.finding) in
    record {
      answers = rw (c.conclude.ensures.answer, c.into_parts-new.ensures) both.0;
      promises = rw (c.conclude.ensures.answer, c.into_parts-new.ensures) both.1;
      layout = λ o is. leads g.row.B _ x.layout o
          (rw (c.into_new.ensures, c.into_parts-new.ensures) at (c.conclude.ensures.layout o is)) read.layout;
    }

pub conclude-requires : goal.conclude-requires
conclude-requires g c = rw (c.into_new.ensures, c.into_parts-new.ensures) (found_layout c.in_ok-end.end c.in_ok-end.ensures.tells)

pub try_phases-requires : goal.try_phases-requires
try_phases-requires g c = (
  search rules,
  (
    c.requires.size,
    (
      c.requires.room,
      (
        (λ tells. rw (c.in_ok-end.ensures.same.same tells) (c.requires.known tells)),
        (λ tells. rw (c.into_parts-new.ensures, c.in_ok-end.ensures.same.same tells)
            (survey_known g.row.B _ c.in_ok-end.end (c.in_ok-end.ensures.survey tells))),
      ),
    ),
  ),
)

pub read_finished-requires : goal.read_finished-requires
read_finished-requires g c = (search rules, (c.requires.size, c.requires.room))

pub returns-in_err-end-clause-same : goal.returns-in_err-end-clause-same
returns-in_err-end-clause-same g c = c.in_err-end.ensures.same

pub returns-in_err-end-clause-blames : goal.returns-in_err-end-clause-blames
returns-in_err-end-clause-blames g c =
    let p = err_from_is_err_and c.from_residual.result c.from_residual.ensures.1 in
    rw (p.1, p.2) c.in_err-end.ensures.blames

pub returns-in_err-trial-clause-same : goal.returns-in_err-trial-clause-same
returns-in_err-trial-clause-same g c =
    g.met.D.Disk.reads_on c.args.disk.now c.read_finished.new.disk c.try_phases.new.disk c.in_ok-end.ensures.same
    c.in_err-trial.ensures.same

pub returns-in_err-trial-clause-blames : goal.returns-in_err-trial-clause-blames
returns-in_err-trial-clause-blames g c =
    let p = err_from_is_err_and c.from_residual-in_err-trial.result c.from_residual-in_err-trial.ensures.1 in
    rw (p.1, p.2) (c.in_err-trial.ensures.blames
    ∙ ap (λ (fs : List Fault). with_fault fs (fault_in c.in_err-trial.field-0.0)) c.in_ok-end.ensures.blames)

pub returns-clause-same : goal.returns-clause-same
returns-clause-same g c =
    g.met.D.Disk.reads_on c.args.disk.now c.read_finished.new.disk c.try_phases.new.disk c.in_ok-end.ensures.same
    c.in_ok-trial.ensures.same

pub returns-clause-blames : goal.returns-clause-blames
returns-clause-blames g c = c.in_ok-trial.ensures.blames ∙ c.in_ok-end.ensures.blames

pub returns-in_err-end-clause-place : goal.returns-in_err-end-clause-place
returns-in_err-end-clause-place g c = λ tells.
    let p = err_from_is_err_and c.from_residual.result c.from_residual.ensures.1 in
    rw (p.1, p.2) (finish_failed g.row.B (g.D.Disk.told c.args.disk.now).seen (phases_of c.args.plan.now) c.in_err-end.field-0.0
    (c.in_err-end.ensures.place tells))

pub returns-in_err-trial-clause-place : goal.returns-in_err-trial-clause-place
returns-in_err-trial-clause-place g c = λ tells.
    let p = err_from_is_err_and c.from_residual-in_err-trial.result c.from_residual-in_err-trial.ensures.1 in
    rw (p.1, p.2) (rw (c.in_ok-end.ensures.same.same tells) at (c.in_err-trial.ensures.place tells))
