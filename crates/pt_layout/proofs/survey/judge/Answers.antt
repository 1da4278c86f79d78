use Rattle.std.proofs.lemmas.Result.{err_from_is_err_and}
use Rattle.std.proofs.Common.{Option, Some, None, subst, sym, ◌∙◌, refl}
use Rattle.pt_sector.specs.Sectors.{Sectors}
use Rattle.pt_layout.specs.declared.sound.finding.Finding.{Finding}
use Rattle.pt_path.specs.declared.path.Path.{Path}
use Rattle.pt_layout.specs.Sound.{Sound, UnsoundIs}
use Rattle.pt_layout.specs.inner.Surveys.{ForeignIs}
use Rattle.pt_layout.proofs.Verdicts.{unsound_finding, healthy, foreign_finding}
use Rattle.pt_layout.proofs.Failing.{label_failed}
use Rattle.pt_layout.proofs.survey.judge.Goals as goal

pub returns-in-Some-clause-ok : goal.returns-in-Some-clause-ok
returns-in-Some-clause-ok g c = λ tells.
    let o = c.args.layout.now in
    let is : UnsoundIs g.row.B o (Some c.in-Some.finding) =
    subst (λ (f : Option Finding). UnsoundIs g.row.B o f) c.in-Some.is c.in_ok-broken.ensures.found in
    unsound_finding g.row.B (g.D.Disk.told c.args.disk.now).seen o c.in-Some.finding (c.requires.denotes tells) (c.requires.whole tells) is

pub returns-in-None-foreign-clause-ok : goal.returns-in-None-foreign-clause-ok
returns-in-None-foreign-clause-ok g c = λ tells.
    let o = c.args.layout.now in
    let d : Sectors = (g.D.Disk.told c.args.disk.now).seen in
    let sound : Sound g.row.B o = subst (λ (f : Option Finding). UnsoundIs g.row.B o f) c.in-None.is c.in_ok-broken.ensures.found in
    let none : ForeignIs g.row.B d o None =
    subst (λ (p : Option Path). ForeignIs g.row.B d o p) c.in-None-foreign.is (c.in_ok-foreign.ensures.ok tells) in
    healthy g.row.B d o (c.requires.denotes tells) (c.requires.whole tells) sound none

pub returns-in_err-foreign-clause-place : goal.returns-in_err-foreign-clause-place
returns-in_err-foreign-clause-place g c = λ tells.
    let p = err_from_is_err_and c.from_residual-in_err-foreign.result c.from_residual-in_err-foreign.ensures.1 in
    rw (p.1, p.2) (let d : Sectors = (g.D.Disk.told c.args.disk.now).seen in
    label_failed g.row.B (g.D.Disk.count c.args.disk.now) d c.args.layout.now.body c.in_err-foreign.field-0.0
    (c.requires.denotes tells).1 (sym (g.met.D.Disk.sized c.args.disk.now tells)) (c.in_err-foreign.ensures.place tells))

pub first_foreign-requires-clause-sectors : goal.first_foreign-requires-clause-sectors
first_foreign-requires-clause-sectors g c = λ tells. (c.requires.denotes tells).0 ∙ g.met.D.Disk.sized c.args.disk.now tells

pub returns-in_err-broken-clause-same : goal.returns-in_err-broken-clause-same
returns-in_err-broken-clause-same g c = g.met.D.Disk.reads_same c.args.disk.now

pub returns-in_err-broken-clause-blames : goal.returns-in_err-broken-clause-blames
returns-in_err-broken-clause-blames g c =
    let p = err_from_is_err_and c.from_residual.result c.from_residual.ensures.1 in
    rw (p.1, p.2) refl

pub returns-in_err-broken-clause-place : goal.returns-in_err-broken-clause-place
returns-in_err-broken-clause-place g c = λ tells.
    let p = err_from_is_err_and c.from_residual.result c.from_residual.ensures.1 in
    rw (p.1, p.2) tt

pub returns-in_err-foreign-clause-same : goal.returns-in_err-foreign-clause-same
returns-in_err-foreign-clause-same g c = c.in_err-foreign.ensures.same

pub returns-in_err-foreign-clause-blames : goal.returns-in_err-foreign-clause-blames
returns-in_err-foreign-clause-blames g c =
    let p = err_from_is_err_and c.from_residual-in_err-foreign.result c.from_residual-in_err-foreign.ensures.1 in
    rw (p.1, p.2) c.in_err-foreign.ensures.blames

pub returns-in-Some-foreign-clause-same : goal.returns-in-Some-foreign-clause-same
returns-in-Some-foreign-clause-same g c = c.in_ok-foreign.ensures.same

pub returns-in-Some-foreign-clause-blames : goal.returns-in-Some-foreign-clause-blames
returns-in-Some-foreign-clause-blames g c = c.in_ok-foreign.ensures.blames

pub returns-in-Some-foreign-clause-ok : goal.returns-in-Some-foreign-clause-ok
returns-in-Some-foreign-clause-ok g c = λ tells.
    let o = c.args.layout.now in
    let d : Sectors = (g.D.Disk.told c.args.disk.now).seen in
    let sound : Sound g.row.B o = subst (λ (f : Option Finding). UnsoundIs g.row.B o f) c.in-None.is c.in_ok-broken.ensures.found in
    foreign_finding g.row.B d o _ (c.requires.denotes tells) (c.requires.whole tells) sound
    (subst (λ (p : Option Path). ForeignIs g.row.B d o p) c.in-Some-foreign.is (c.in_ok-foreign.ensures.ok tells))

pub returns-in-None-foreign-clause-same : goal.returns-in-None-foreign-clause-same
returns-in-None-foreign-clause-same g c = c.in_ok-foreign.ensures.same

pub returns-in-None-foreign-clause-blames : goal.returns-in-None-foreign-clause-blames
returns-in-None-foreign-clause-blames g c = c.in_ok-foreign.ensures.blames
