use Rattle.std.proofs.lemmas.Result.{err_from_is_err_and}
use Rattle.std.proofs.Common.{ℕ, length, sym, subst}
use Rattle.std.specs.Prelude.{IfOk, IfErr}
use Rattle.pt_sector.specs.Sectors.{Sectors}
use Rattle.pt_sector.specs.Device.{Told}
use Rattle.pt_sector.specs.Overlays.{FailedIn, fault_of}
use Rattle.pt_sector.proofs.CallsLemmas.{blames_after}
use Rattle.pt_gpt.specs.Copies.{HasRoom}
use Rattle.pt_members.specs.declared.layout.Body.TheVariants.{Gpt}
use Rattle.pt_recover.specs.Denotes.{IsMbrDisk, FoundCopyIs}
use Rattle.pt_layout.specs.Healthy.{VerdictReads}
use Rattle.pt_layout.specs.Surveys.{HeadOf, IsSurvey}
use Rattle.pt_layout.specs.inner.Surveys.{BrokenIs, IsBodyTrace}
use Rattle.pt_layout.proofs.Failing.{backup_failed}
use Rattle.pt_layout.proofs.survey.survey_copies.Goals as goal

pub returns-in_err-broken-clause-place : goal.returns-in_err-broken-clause-place
returns-in_err-broken-clause-place g c = λ tells.
    let d : Sectors = (g.D.Disk.told c.args.disk.now).seen in
    let room : HasRoom g.row.B (length d) =
    subst (λ (n : ℕ). HasRoom g.row.B n) (sym (g.met.D.Disk.sized c.args.disk.now tells)) c.requires.room in
    let p = err_from_is_err_and c.from_residual.result c.from_residual.ensures.1 in
    rw (p.1, p.2) (backup_failed g.row.B d c.in_err-broken.field-0.0 (c.requires.plain tells) room (c.in_err-broken.ensures.place tells))

pub survey_table-requires-clause-room : goal.survey_table-requires-clause-room
survey_table-requires-clause-room g c = subst (λ (n : ℕ). HasRoom g.row.B n) (sym c.in_ok-broken.ensures.same.same_count) c.requires.room

pub survey_table-requires-clause-head : goal.survey_table-requires-clause-head
survey_table-requires-clause-head g c =
    λ tells. subst (λ (t : Told). HeadOf t.seen c.args.head) (sym (c.in_ok-broken.ensures.same.same tells)) (c.requires.head tells)

pub survey_table-requires-clause-plain : goal.survey_table-requires-clause-plain
survey_table-requires-clause-plain g c =
    λ tells. subst (λ (t : Told). ¬ IsMbrDisk t.seen) (sym (c.in_ok-broken.ensures.same.same tells)) (c.requires.plain tells)

pub survey_table-requires-clause-found : goal.survey_table-requires-clause-found
survey_table-requires-clause-found g c = λ tells.
    subst (λ (t : Told). FoundCopyIs g.row.B t.seen c.args.found) (sym (c.in_ok-broken.ensures.same.same tells)) (c.requires.found tells)

pub survey_table-requires-clause-broken : goal.survey_table-requires-clause-broken
survey_table-requires-clause-broken g c = λ tells.
    subst (λ (t : Told). BrokenIs g.row.B t.seen (Gpt c.args.found.table) c.in_ok-broken.broken)
    (sym (c.in_ok-broken.ensures.same.same tells)) (c.in_ok-broken.ensures.ok tells)

pub survey_table-requires-clause-traced : goal.survey_table-requires-clause-traced
survey_table-requires-clause-traced g c = λ tells.
    subst (λ (t : Told). IsBodyTrace g.row.B t.seen c.args.trace) (sym (c.in_ok-broken.ensures.same.same tells)) (c.requires.traced tells)

pub returns-clause-blames : goal.returns-clause-blames
returns-clause-blames g c =
    blames_after fault_of c.survey_table.result (g.D.Disk.faults c.args.disk.now) (g.D.Disk.faults c.broken_copies.new.disk)
    (g.D.Disk.faults c.survey_table.new.disk) c.in_ok-broken.ensures.blames c.survey_table.ensures.blames

pub returns-clause-place : goal.returns-clause-place
returns-clause-place g c = λ tells.
    subst (λ (t : Told). IfErr c.survey_table.result (FailedIn (VerdictReads g.row.B t.seen))) (c.in_ok-broken.ensures.same.same tells)
    (c.survey_table.ensures.place tells)

pub returns-clause-ok : goal.returns-clause-ok
returns-clause-ok g c = λ tells.
    subst (λ (t : Told). IfOk c.survey_table.result (IsSurvey g.row.B t.seen)) (c.in_ok-broken.ensures.same.same tells)
    (c.survey_table.ensures.ok tells)
