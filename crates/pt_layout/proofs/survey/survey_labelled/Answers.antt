use Rattle.std.proofs.lemmas.Result.{err_from_is_err_and}
use Rattle.std.proofs.Common.{◌≡◌, ℕ, length, Some, sym, subst}
use Rattle.pt_sector.specs.Sectors.{Sectors}
use Rattle.pt_sector.specs.Device.{Told}
use Rattle.pt_sector.specs.Overlays.{FailedIn}
use Rattle.pt_gpt.specs.Copies.{HasRoom}
use Rattle.pt_members.specs.Members.{places_of, IsPlace}
use Rattle.pt_members.specs.declared.layout.Body.{Body}
use Rattle.pt_members.specs.declared.layout.Body.TheVariants.{Gpt}
use Rattle.pt_recover.specs.Denotes.{Denotes, Reads, IsTraceOf}
use Rattle.pt_recover.specs.Spans.{Adds}
use Rattle.pt_layout.specs.Surveys.{FindingIs}
use Rattle.pt_layout.specs.inner.Surveys.{BrokenIs}
use Rattle.pt_layout.proofs.Failing.{label_failed, read_failed}
use Rattle.pt_layout.proofs.Found.{found_body, found_primary}
use Rattle.pt_layout.proofs.Surveys.{ArePlaces, table_survey, gpt_numbers, only_places}
use Rattle.pt_layout.proofs.Traced.{whole_trace}
use Rattle.pt_layout.proofs.Verdicts.{gpt_denotes}
use Rattle.pt_layout.proofs.survey.survey_labelled.Goals as goal

pub returns-in_err-layout-clause-place : goal.returns-in_err-layout-clause-place
returns-in_err-layout-clause-place g c = λ tells.
    let d : Sectors = (g.D.Disk.told c.args.disk.now).seen in
    let f = c.args.found in
    let sized : length d ≡ g.D.Disk.count c.args.disk.now = g.met.D.Disk.sized c.args.disk.now tells in
    let room : HasRoom g.row.B (length d) = subst (λ (n : ℕ). HasRoom g.row.B n) (sym sized) c.requires.room in
    let p = err_from_is_err_and c.from_residual.result c.from_residual.ensures.1 in
    rw (p.1, p.2) (read_failed g.row.B d c.in_err-layout.field-0.0
    (label_failed g.row.B (g.D.Disk.count c.args.disk.now) d (Gpt f.table) c.in_err-layout.field-0.0
    (found_body g.row.B d f.no_primary f.header f.table (c.requires.plain tells) room (c.requires.found tells)) (sym sized)
    c.in_err-layout.ensures.place))

pub judge_after-requires-clause-denotes : goal.judge_after-requires-clause-denotes
judge_after-requires-clause-denotes g c = λ tells.
    let d : Sectors = (g.D.Disk.told c.args.disk.now).seen in
    let f = c.args.found in
    let sized : length d ≡ g.D.Disk.count c.args.disk.now = g.met.D.Disk.sized c.args.disk.now tells in
    let room : HasRoom g.row.B (length d) = subst (λ (n : ℕ). HasRoom g.row.B n) (sym sized) c.requires.room in
    let body = found_body g.row.B d f.no_primary f.header f.table (c.requires.plain tells) room (c.requires.found tells) in
    subst (λ (t : Told). Denotes g.row.B t.seen (Some c.in_ok-layout.layout)) (sym (c.in_ok-layout.ensures.same.same tells))
    (gpt_denotes g.row.B d f.table c.in_ok-layout.layout body (c.in_ok-layout.ensures.ok tells))

pub judge_after-requires-clause-broken : goal.judge_after-requires-clause-broken
judge_after-requires-clause-broken g c = λ tells.
    let o = c.in_ok-layout.layout in
    let d : Sectors = (g.D.Disk.told c.args.disk.now).seen in
    subst (λ (t : Told). BrokenIs g.row.B t.seen o.body c.args.broken) (sym (c.in_ok-layout.ensures.same.same tells))
    (subst (λ (y : Body). BrokenIs g.row.B d y c.args.broken) (sym c.in_ok-layout.ensures.body) (c.requires.broken tells))

pub returns-in_err-finding-clause-place : goal.returns-in_err-finding-clause-place
returns-in_err-finding-clause-place g c = λ tells.
    let d : Sectors = (g.D.Disk.told c.args.disk.now).seen in
    let p = err_from_is_err_and c.from_residual-in_err-finding.result c.from_residual-in_err-finding.ensures.1 in
    rw (p.1, p.2) (read_failed g.row.B d c.in_err-finding.field-0.0
    (subst (λ (t : Told). FailedIn (Reads g.row.B t.seen) c.in_err-finding.field-0.0) (c.in_ok-layout.ensures.same.same tells)
    (c.in_err-finding.ensures.place tells)))

pub returns-clause-ok : goal.returns-clause-ok
returns-clause-ok g c = λ tells.
    let d : Sectors = (g.D.Disk.told c.args.disk.now).seen in
    let f = c.args.found in
    let o = c.in_ok-layout.layout in
    let sized : length d ≡ g.D.Disk.count c.args.disk.now = g.met.D.Disk.sized c.args.disk.now tells in
    let room : HasRoom g.row.B (length d) = subst (λ (n : ℕ). HasRoom g.row.B n) (sym sized) c.requires.room in
    let body = found_body g.row.B d f.no_primary f.header f.table (c.requires.plain tells) room (c.requires.found tells) in
    let places : ArePlaces (places_of g.row.B (length d) (Gpt f.table)) c.with_labels.new.guarded =
    only_places c.new-guarded.result c.with_labels.new.guarded (places_of g.row.B (length d) (Gpt f.table)) c.new-guarded.ensures
    (subst (λ (n : ℕ). Adds c.new-guarded.result c.with_labels.new.guarded (IsPlace (places_of g.row.B n (Gpt f.table)))) (sym sized)
    c.in_ok-layout.ensures.guarded) in
    let traced : IsTraceOf g.row.B d c.with_labels.new.trace =
    whole_trace g.row.B d (Gpt f.table) c.args.trace c.with_labels.new.trace body (c.requires.traced tells)
    (subst (λ (n : ℕ). Adds c.args.trace c.with_labels.new.trace (IsPlace (places_of g.row.B n (Gpt f.table)))) (sym sized)
    c.in_ok-layout.ensures.traced) in
    let finding : FindingIs g.row.B d (Some o) c.in_ok-finding.finding =
    subst (λ (t : Told). FindingIs g.row.B t.seen (Some o) c.in_ok-finding.finding) (c.in_ok-layout.ensures.same.same tells)
    (c.in_ok-finding.ensures.ok tells) in
    table_survey g.row.B d c.args.head f.table o c.in_ok-finding.finding c.is_none-primary.result c.with_labels.new.guarded
    c.with_labels.new.trace (c.requires.head tells) body (c.in_ok-layout.ensures.ok tells) finding
    (found_primary g.row.B d f.no_primary f.header f.table c.is_none-primary.result room (c.requires.found tells)
    c.is_none-primary.ensures) places traced

pub returns-clause-numbers : goal.returns-clause-numbers
returns-clause-numbers g c = gpt_numbers c.in_ok-layout.layout c.args.found.table c.in_ok-layout.ensures.body

pub returns-clause-tells : goal.returns-clause-tells
returns-clause-tells g c = λ none. absurd cc
