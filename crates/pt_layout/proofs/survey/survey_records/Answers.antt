use Rattle.std.specs.Prelude.{Result, Err}
use Rattle.std.proofs.Common.{sym, subst}
use Rattle.std.proofs.lemmas.Result.{err_from_is_err_and}
use Rattle.pt_sector.specs.Sectors.{Sectors}
use Rattle.pt_sector.specs.Device.{Told}
use Rattle.pt_recover.specs.Denotes.{FoundIs, IsTraceOf}
use Rattle.pt_recover.specs.declared.error.Reason.{Reason}
use Rattle.pt_members.specs.declared.layout.Layout.{Layout}
use Rattle.pt_layout.proofs.Failing.{read_failed, survey_failed}
use Rattle.pt_layout.proofs.Surveys.{mbr_nothing}
use Rattle.pt_layout.proofs.survey.survey_records.Goals as goal

pub returns-in_err-found-clause-place : goal.returns-in_err-found-clause-place
returns-in_err-found-clause-place g c = λ tells.
    let p = err_from_is_err_and c.from_residual.result c.from_residual.ensures.1 in
    rw (p.1, p.2) (read_failed g.row.B (g.D.Disk.told c.args.disk.now).seen c.in_err-found.field-0.0 (c.in_err-found.ensures.place tells))

pub survey_layout-requires-clause-traced : goal.survey_layout-requires-clause-traced
survey_layout-requires-clause-traced g c = λ tells.
    subst (λ (t : Told). IsTraceOf g.row.B t.seen c.in_ok-found.trace) (sym (c.in_ok-found.ensures.same.same tells))
    (c.in_ok-found.ensures.traced tells)

pub returns-in-Ok-clause-place : goal.returns-in-Ok-clause-place
returns-in-Ok-clause-place g c = λ tells.
    survey_failed g.row.B (g.D.Disk.told c.args.disk.now).seen c.survey_layout.result
    (rw (c.in_ok-found.ensures.same.same tells) at (c.survey_layout.ensures.place tells))

pub returns-clause-ok : goal.returns-clause-ok
returns-clause-ok g c = λ tells.
    let d : Sectors = (g.D.Disk.told c.args.disk.now).seen in
    let found : FoundIs g.row.B d (Err c.in-Err.reason) =
    subst (λ (r : Result Layout Reason). FoundIs g.row.B d r) c.in-Err.is (c.in_ok-found.ensures.found tells) in
    rw c.nothing.ensures (mbr_nothing g.row.B d c.in-Err.reason c.in_ok-guarded-in-Err.guarded c.in_ok-found.trace
    (c.requires.mbr tells).0 found c.in_ok-guarded-in-Err.ensures (c.in_ok-found.ensures.traced tells))
