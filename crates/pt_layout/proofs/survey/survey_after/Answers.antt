use Rattle.std.proofs.Common.{◌≡◌, ◌∙◌, length, sym, subst, arith, inl}
use Rattle.pt_sector.specs.Sectors.{Sectors}
use Rattle.pt_sector.specs.Device.{Told}
use Rattle.pt_gpt.specs.Copies.{HasRoom}
use Rattle.pt_recover.specs.Denotes.{IsMbr, IsMbrDisk, head, body}
use Rattle.pt_recover.specs.declared.error.Reason.TheVariants.{TooSmall}
use Rattle.pt_layout.specs.Surveys.{HeadOf, IsSurvey}
use Rattle.pt_layout.specs.declared.health.Head.TheVariants.{Unprotected}
use Rattle.pt_layout.proofs.Verdicts.{small_reason, empty_head, head_is, records_mbr, records_plain}
use Rattle.pt_layout.proofs.Surveys.{nothing_survey}
use Rattle.pt_layout.proofs.Traced.{empty_trace}
use Rattle.std.specs.Prelude.{IfOk, IfErr}
use Rattle.std.proofs.lemmas.Result.{err_from_is_err_and}
use Rattle.pt_sector.proofs.CallsLemmas.{blames_after}
use Rattle.pt_sector.specs.Overlays.{FailedIn, fault_of}
use Rattle.pt_recover.proofs.Bodies.{some_sector}
use Rattle.pt_layout.specs.Healthy.{VerdictReads}
use Rattle.pt_layout.proofs.survey.survey_after.Goals as goal

pub returns-then-sectors-eq0-clause-ok : goal.returns-then-sectors-eq0-clause-ok
returns-then-sectors-eq0-clause-ok g c = λ tells.
    let d : Sectors = (g.D.Disk.told c.args.disk.now).seen in
    let none : length d ≡ 0 = g.met.D.Disk.sized c.args.disk.now tells ∙ sym c.sectors.ensures ∙ c.if-sectors-eq0.true in
    let small : ¬ HasRoom g.row.B (length d) = λ room. omega (arith, none, room) in
    let is = empty_head d none in
    let why = small_reason g.row.B d is.0 small in
    rw c.nothing.ensures (nothing_survey g.row.B d Unprotected TooSmall c.new-guarded.result c.new-trace.result is is.0 why.0 why.1
    (λ big copy. small big) c.new-guarded.ensures (empty_trace g.row.B d c.new-trace.result none is.0 small c.new-trace.ensures))

pub survey_mbr-requires-clause-mbr : goal.survey_mbr-requires-clause-mbr
survey_mbr-requires-clause-mbr g c = λ tells.
    let d : Sectors = (g.D.Disk.told c.args.disk.now).seen in
    subst (λ (t : Told). IsMbr t.seen c.in-Some.mbr.records) (sym (c.in_ok-first.ensures.same.same tells))
    (records_mbr d (g.D.Disk.count c.args.disk.now) c.in_ok-first.first.records c.in-Some.mbr (c.in_ok-first.ensures.records tells)
    c.in-Some.is (sym (g.met.D.Disk.sized c.args.disk.now tells)) (omega arith))

pub survey_gpt-requires-clause-head : goal.survey_gpt-requires-clause-head
survey_gpt-requires-clause-head g c = λ tells.
    let d : Sectors = (g.D.Disk.told c.args.disk.now).seen in
    subst (λ (t : Told). HeadOf t.seen c.in_ok-first.first.head) (sym (c.in_ok-first.ensures.same.same tells))
    (head_is d (g.D.Disk.count c.args.disk.now) c.in_ok-first.first.head (c.in_ok-first.ensures.head tells)
    (sym (g.met.D.Disk.sized c.args.disk.now tells)) (omega arith))

pub survey_gpt-requires-clause-plain : goal.survey_gpt-requires-clause-plain
survey_gpt-requires-clause-plain g c = λ tells.
    let d : Sectors = (g.D.Disk.told c.args.disk.now).seen in
    subst (λ (t : Told). ¬ IsMbrDisk t.seen) (sym (c.in_ok-first.ensures.same.same tells))
    (records_plain d c.in_ok-first.first.records (c.in_ok-first.ensures.records tells) c.in-None.is)

pub returns-in_err-first-clause-same : goal.returns-in_err-first-clause-same
returns-in_err-first-clause-same g c = c.in_err-first.ensures.same

pub returns-in_err-first-clause-blames : goal.returns-in_err-first-clause-blames
returns-in_err-first-clause-blames g c =
    let p = err_from_is_err_and c.from_residual.result c.from_residual.ensures.1 in
    rw (p.1, p.2) c.in_err-first.ensures.blames

pub returns-in_err-first-clause-place : goal.returns-in_err-first-clause-place
returns-in_err-first-clause-place g c = λ tells.
    let p = err_from_is_err_and c.from_residual.result c.from_residual.ensures.1 in
    rw (p.1, p.2) (inl (body (head (some_sector c.sectors.result (g.D.Disk.count c.args.disk.now)
    (length (g.D.Disk.told c.args.disk.now).seen) c.if-sectors-eq0.false c.sectors.ensures
    (g.met.D.Disk.sized c.args.disk.now tells)) c.in_err-first.ensures.place)))

pub returns-in_err-first-clause-numbers : goal.returns-in_err-first-clause-numbers
returns-in_err-first-clause-numbers g c = let p = err_from_is_err_and c.from_residual.result c.from_residual.ensures.1 in rw p.1 tt

pub returns-in_err-first-clause-tells : goal.returns-in_err-first-clause-tells
returns-in_err-first-clause-tells g c = let p = err_from_is_err_and c.from_residual.result c.from_residual.ensures.1 in rw p.1 tt

pub returns-in_err-first-clause-ok : goal.returns-in_err-first-clause-ok
returns-in_err-first-clause-ok g c = λ tells.
    let p = err_from_is_err_and c.from_residual.result c.from_residual.ensures.1 in rw p.1 tt

pub returns-in-Some-clause-same : goal.returns-in-Some-clause-same
returns-in-Some-clause-same g c =
    g.met.D.Disk.reads_on c.args.disk.now c.read_first.new.disk c.survey_mbr.new.disk c.in_ok-first.ensures.same c.survey_mbr.ensures.same

pub returns-in-Some-clause-blames : goal.returns-in-Some-clause-blames
returns-in-Some-clause-blames g c =
    blames_after fault_of c.survey_mbr.result (g.D.Disk.faults c.args.disk.now) (g.D.Disk.faults c.read_first.new.disk)
    (g.D.Disk.faults c.survey_mbr.new.disk) c.in_ok-first.ensures.blames c.survey_mbr.ensures.blames

pub returns-in-Some-clause-place : goal.returns-in-Some-clause-place
returns-in-Some-clause-place g c = λ tells.
    subst (λ (t : Told). IfErr c.survey_mbr.result (FailedIn (VerdictReads g.row.B t.seen))) (c.in_ok-first.ensures.same.same tells)
    (c.survey_mbr.ensures.place tells)

pub returns-in-Some-clause-numbers : goal.returns-in-Some-clause-numbers
returns-in-Some-clause-numbers g c = c.survey_mbr.ensures.numbers

pub returns-in-Some-clause-tells : goal.returns-in-Some-clause-tells
returns-in-Some-clause-tells g c = c.survey_mbr.ensures.tells

pub returns-in-Some-clause-ok : goal.returns-in-Some-clause-ok
returns-in-Some-clause-ok g c = λ tells.
    subst (λ (t : Told). IfOk c.survey_mbr.result (IsSurvey g.row.B t.seen)) (c.in_ok-first.ensures.same.same tells)
    (c.survey_mbr.ensures.ok tells)

pub returns-in-None-clause-same : goal.returns-in-None-clause-same
returns-in-None-clause-same g c =
    g.met.D.Disk.reads_on c.args.disk.now c.read_first.new.disk c.survey_gpt.new.disk c.in_ok-first.ensures.same c.survey_gpt.ensures.same

pub returns-in-None-clause-blames : goal.returns-in-None-clause-blames
returns-in-None-clause-blames g c =
    blames_after fault_of c.survey_gpt.result (g.D.Disk.faults c.args.disk.now) (g.D.Disk.faults c.read_first.new.disk)
    (g.D.Disk.faults c.survey_gpt.new.disk) c.in_ok-first.ensures.blames c.survey_gpt.ensures.blames

pub returns-in-None-clause-place : goal.returns-in-None-clause-place
returns-in-None-clause-place g c = λ tells.
    subst (λ (t : Told). IfErr c.survey_gpt.result (FailedIn (VerdictReads g.row.B t.seen))) (c.in_ok-first.ensures.same.same tells)
    (c.survey_gpt.ensures.place tells)

pub returns-in-None-clause-numbers : goal.returns-in-None-clause-numbers
returns-in-None-clause-numbers g c = c.survey_gpt.ensures.numbers

pub returns-in-None-clause-tells : goal.returns-in-None-clause-tells
returns-in-None-clause-tells g c = c.survey_gpt.ensures.tells

pub returns-in-None-clause-ok : goal.returns-in-None-clause-ok
returns-in-None-clause-ok g c = λ tells.
    subst (λ (t : Told). IfOk c.survey_gpt.result (IsSurvey g.row.B t.seen)) (c.in_ok-first.ensures.same.same tells)
    (c.survey_gpt.ensures.ok tells)
