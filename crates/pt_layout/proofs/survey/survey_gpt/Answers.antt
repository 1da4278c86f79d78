use Rattle.std.proofs.lemmas.Result.{err_from_is_err_and}
use Rattle.std.proofs.lemmas.Bool.{false≢true}
use Rattle.std.proofs.Common.{◌≡◌, ◌∙◌, ℕ, length, sym, subst, refl}
use Rattle.pt_sector.specs.Sectors.{Sectors}
use Rattle.pt_sector.specs.Device.{Told}
use Rattle.pt_gpt.specs.Copies.{HasRoom}
use Rattle.pt_gpt.specs.declared.error.CopyError.{CopyError}
use Rattle.pt_recover.specs.declared.error.Reason.TheVariants.{NoCopy, TooSmall}
use Rattle.pt_layout.specs.Surveys.{HeadOf, IsSurvey}
use Rattle.pt_layout.proofs.Verdicts.{small_reason}
use Rattle.pt_layout.proofs.Surveys.{nothing_survey, nothing_tells}
use Rattle.pt_layout.proofs.Found.{none_found}
use Rattle.pt_layout.proofs.Traced.{small_trace, table_trace}
use Rattle.pt_layout.proofs.Failing.{table_failed}
use Rattle.std.specs.Prelude.{Result, Err, IfOk, IfErr}
use Rattle.pt_sector.proofs.CallsLemmas.{blames_after}
use Rattle.pt_sector.specs.Overlays.{FailedIn, fault_of}
use Rattle.pt_recover.specs.Denotes.{IsMbrDisk, EitherIs, FoundCopyIs}
use Rattle.pt_recover.specs.declared.tables.FoundCopy.{FoundCopy}
use Rattle.pt_layout.specs.Healthy.{VerdictReads}
use Rattle.pt_layout.proofs.survey.survey_gpt.Goals as goal

pub returns-then-not-has_room-clause-ok : goal.returns-then-not-has_room-clause-ok
returns-then-not-has_room-clause-ok g c = λ tells.
    let d : Sectors = (g.D.Disk.told c.args.disk.now).seen in
    let sized : c.sectors-sectors.result ≡ length d = c.sectors-sectors.ensures ∙ sym (g.met.D.Disk.sized c.args.disk.now tells) in
    let small : ¬ HasRoom g.row.B (length d) =
    λ room. false≢true (c.if-not-has_room.ensures.1 (subst (λ (n : ℕ). HasRoom g.row.B n) (sym sized) room)) in
    let why = small_reason g.row.B d (c.requires.plain tells) small in
    rw c.nothing.ensures (nothing_survey g.row.B d c.args.head TooSmall c.new.result c.add_one.new.self (c.requires.head tells)
    (c.requires.plain tells) why.0 why.1 (λ big copy. small big) c.new.ensures
    (small_trace g.row.B d c.new-trace.result c.add_one.new.self (rw (g.met.D.Disk.sized c.args.disk.now tells) c.requires.some)
    (c.requires.plain tells) small c.new-trace.ensures c.in_ok-add_one.ensures))

pub survey_copies-requires-clause-head : goal.survey_copies-requires-clause-head
survey_copies-requires-clause-head g c =
    λ tells. subst (λ (t : Told). HeadOf t.seen c.args.head) (sym (c.in_ok-found.ensures.same.same tells)) (c.requires.head tells)

pub returns-in_err-found-clause-place : goal.returns-in_err-found-clause-place
returns-in_err-found-clause-place g c = λ tells.
    let p = err_from_is_err_and c.from_residual-in_err-found.result c.from_residual-in_err-found.ensures.1 in
    rw (p.1, p.2) (let d : Sectors = (g.D.Disk.told c.args.disk.now).seen in
    let sized : c.sectors-sectors.result ≡ length d = c.sectors-sectors.ensures ∙ sym (g.met.D.Disk.sized c.args.disk.now tells) in
    let enough : HasRoom g.row.B c.sectors-sectors.result = c.if-not-has_room.ensures.0 refl in
    let room : HasRoom g.row.B (length d) = subst (λ (n : ℕ). HasRoom g.row.B n) sized enough in
    table_failed g.row.B d c.in_err-found.field-0.0 (c.requires.plain tells) room (c.in_err-found.ensures.place tells))

pub survey_copies-requires-clause-traced : goal.survey_copies-requires-clause-traced
survey_copies-requires-clause-traced g c = λ tells.
    let d : Sectors = (g.D.Disk.told c.args.disk.now).seen in
    let sized : c.sectors-sectors.result ≡ length d = c.sectors-sectors.ensures ∙ sym (g.met.D.Disk.sized c.args.disk.now tells) in
    let room : HasRoom g.row.B (length d) = subst (λ (n : ℕ). HasRoom g.row.B n) sized (c.if-not-has_room.ensures.0 refl) in
    rw (c.in_ok-found.ensures.same.same tells)
    (table_trace g.row.B d c.new-trace.result c.add_one.new.self c.read_either.new.trace
    (rw (g.met.D.Disk.sized c.args.disk.now tells) c.requires.some) (c.requires.plain tells) room c.new-trace.ensures
    c.in_ok-add_one.ensures (c.in_ok-found.ensures.traced tells))

pub read_either-requires-clause-room : goal.read_either-requires-clause-room
read_either-requires-clause-room g c = subst (λ (n : ℕ). HasRoom g.row.B n) c.sectors-sectors.ensures (c.if-not-has_room.ensures.0 refl)

pub survey_copies-requires-clause-room : goal.survey_copies-requires-clause-room
survey_copies-requires-clause-room g c =
    subst (λ (n : ℕ). HasRoom g.row.B n) (c.sectors-sectors.ensures ∙ sym c.in_ok-found.ensures.same.same_count)
    (c.if-not-has_room.ensures.0 refl)

pub survey_copies-requires-clause-plain : goal.survey_copies-requires-clause-plain
survey_copies-requires-clause-plain g c =
    λ tells. subst (λ (t : Told). ¬ IsMbrDisk t.seen) (sym (c.in_ok-found.ensures.same.same tells)) (c.requires.plain tells)

pub survey_copies-requires-clause-found : goal.survey_copies-requires-clause-found
survey_copies-requires-clause-found g c = λ tells.
    subst (λ (t : Told). FoundCopyIs g.row.B t.seen c.in-Ok.found) (sym (c.in_ok-found.ensures.same.same tells))
    (subst (λ (r : Result FoundCopy (CopyError × CopyError)). EitherIs g.row.B (g.D.Disk.told c.args.disk.now).seen r) c.in-Ok.is
    (c.in_ok-found.ensures.ok tells))

pub returns-in-Err-clause-ok : goal.returns-in-Err-clause-ok
returns-in-Err-clause-ok g c = λ tells.
    let d : Sectors = (g.D.Disk.told c.args.disk.now).seen in
    let sized : c.sectors-sectors.result ≡ length d = c.sectors-sectors.ensures ∙ sym (g.met.D.Disk.sized c.args.disk.now tells) in
    let room : HasRoom g.row.B (length d) = subst (λ (n : ℕ). HasRoom g.row.B n) sized (c.if-not-has_room.ensures.0 refl) in
    let faults : EitherIs g.row.B d (Err (c.in-Err.primary, c.in-Err.backup)) =
    subst (λ (r : Result FoundCopy (CopyError × CopyError)). EitherIs g.row.B d r) c.in-Err.is (c.in_ok-found.ensures.ok tells) in
    rw c.nothing-in-Err.ensures (none_found g.row.B d c.args.head c.in-Err.primary c.in-Err.backup c.new-in-Err.result
    c.read_either.new.trace (c.requires.plain tells) (c.requires.head tells) room faults.0 faults.1 c.new-in-Err.ensures
    (table_trace g.row.B d c.new-trace.result c.add_one.new.self c.read_either.new.trace
    (rw (g.met.D.Disk.sized c.args.disk.now tells) c.requires.some) (c.requires.plain tells) room c.new-trace.ensures
    c.in_ok-add_one.ensures (c.in_ok-found.ensures.traced tells)))

pub returns-in_err-found-clause-same : goal.returns-in_err-found-clause-same
returns-in_err-found-clause-same g c = c.in_err-found.ensures.same

pub returns-in_err-found-clause-blames : goal.returns-in_err-found-clause-blames
returns-in_err-found-clause-blames g c =
    let p = err_from_is_err_and c.from_residual-in_err-found.result c.from_residual-in_err-found.ensures.1 in
    rw (p.1, p.2) c.in_err-found.ensures.blames

pub returns-in-Ok-clause-same : goal.returns-in-Ok-clause-same
returns-in-Ok-clause-same g c =
    g.met.D.Disk.reads_on c.args.disk.now c.read_either.new.disk c.survey_copies.new.disk c.in_ok-found.ensures.same
    c.survey_copies.ensures.same

pub returns-in-Ok-clause-blames : goal.returns-in-Ok-clause-blames
returns-in-Ok-clause-blames g c =
    blames_after fault_of c.survey_copies.result (g.D.Disk.faults c.args.disk.now) (g.D.Disk.faults c.read_either.new.disk)
    (g.D.Disk.faults c.survey_copies.new.disk) c.in_ok-found.ensures.blames c.survey_copies.ensures.blames

pub returns-in-Ok-clause-place : goal.returns-in-Ok-clause-place
returns-in-Ok-clause-place g c = λ tells.
    subst (λ (t : Told). IfErr c.survey_copies.result (FailedIn (VerdictReads g.row.B t.seen))) (c.in_ok-found.ensures.same.same tells)
    (c.survey_copies.ensures.place tells)

pub returns-in-Ok-clause-numbers : goal.returns-in-Ok-clause-numbers
returns-in-Ok-clause-numbers g c = c.survey_copies.ensures.numbers

pub returns-in-Ok-clause-tells : goal.returns-in-Ok-clause-tells
returns-in-Ok-clause-tells g c = c.survey_copies.ensures.tells

pub returns-in-Ok-clause-ok : goal.returns-in-Ok-clause-ok
returns-in-Ok-clause-ok g c = λ tells.
    subst (λ (t : Told). IfOk c.survey_copies.result (IsSurvey g.row.B t.seen)) (c.in_ok-found.ensures.same.same tells)
    (c.survey_copies.ensures.ok tells)

pub returns-then-not-has_room-clause-same : goal.returns-then-not-has_room-clause-same
returns-then-not-has_room-clause-same g c = g.met.D.Disk.reads_same c.args.disk.now

pub returns-then-not-has_room-clause-blames : goal.returns-then-not-has_room-clause-blames
returns-then-not-has_room-clause-blames g c = refl

pub returns-then-not-has_room-clause-numbers : goal.returns-then-not-has_room-clause-numbers
returns-then-not-has_room-clause-numbers g c = rw c.nothing.ensures tt

pub returns-then-not-has_room-clause-tells : goal.returns-then-not-has_room-clause-tells
returns-then-not-has_room-clause-tells g c = rw c.nothing.ensures (nothing_tells c.args.head TooSmall c.new.result c.add_one.new.self)

pub returns-in-Err-clause-tells : goal.returns-in-Err-clause-tells
returns-in-Err-clause-tells g c = rw c.nothing-in-Err.ensures (nothing_tells c.args.head (NoCopy c.in-Err.primary c.in-Err.backup)
    c.new-in-Err.result c.read_either.new.trace)

pub returns-in_err-add_one-clause-same : goal.returns-in_err-add_one-clause-same
returns-in_err-add_one-clause-same g c = g.met.D.Disk.reads_same c.args.disk.now

pub returns-in_err-add_one-clause-blames : goal.returns-in_err-add_one-clause-blames
returns-in_err-add_one-clause-blames g c =
    let p = err_from_is_err_and c.from_residual.result c.from_residual.ensures.1 in
    rw (p.1, p.2) refl

pub returns-in_err-add_one-clause-place : goal.returns-in_err-add_one-clause-place
returns-in_err-add_one-clause-place g c = λ tells.
    let p = err_from_is_err_and c.from_residual.result c.from_residual.ensures.1 in
    rw (p.1, p.2) tt
