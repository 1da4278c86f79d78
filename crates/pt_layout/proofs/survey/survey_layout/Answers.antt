use Rattle.pt_layout.proofs.Verdicts.{mbr_whole}
use Rattle.pt_layout.proofs.Surveys.{mbr_survey}
use Rattle.std.proofs.lemmas.Result.{err_from_is_err_and}
use Rattle.pt_layout.proofs.survey.survey_layout.Goals as goal

pub judge-requires-clause-whole : goal.judge-requires-clause-whole
judge-requires-clause-whole g c = λ tells.
    mbr_whole g.row.B (g.D.Disk.told c.args.disk.now).seen c.args.layout (c.requires.mbr tells) (c.requires.denotes tells)

pub returns-clause-ok : goal.returns-clause-ok
returns-clause-ok g c = λ tells.
    mbr_survey g.row.B (g.D.Disk.told c.args.disk.now).seen c.args.layout c.in_ok-finding.finding c.in_ok-guarded.guarded c.args.trace
    (c.requires.mbr tells) (c.requires.denotes tells) c.requires.numbers (c.in_ok-finding.ensures.ok tells) c.in_ok-guarded.ensures
    (c.requires.traced tells)

pub returns-in_err-finding-clause-same : goal.returns-in_err-finding-clause-same
returns-in_err-finding-clause-same g c = c.in_err-finding.ensures.same

pub returns-in_err-finding-clause-blames : goal.returns-in_err-finding-clause-blames
returns-in_err-finding-clause-blames g c =
    let p = err_from_is_err_and c.from_residual.result c.from_residual.ensures.1 in
    rw (p.1, p.2) c.in_err-finding.ensures.blames

pub returns-in_err-finding-clause-place : goal.returns-in_err-finding-clause-place
returns-in_err-finding-clause-place g c = λ tells.
    let p = err_from_is_err_and c.from_residual.result c.from_residual.ensures.1 in
    rw (p.1, p.2) (c.in_err-finding.ensures.place tells)

pub returns-in_err-guarded-clause-same : goal.returns-in_err-guarded-clause-same
returns-in_err-guarded-clause-same g c = c.in_ok-finding.ensures.same

pub returns-in_err-guarded-clause-blames : goal.returns-in_err-guarded-clause-blames
returns-in_err-guarded-clause-blames g c =
    let p = err_from_is_err_and c.from_residual-in_err-guarded.result c.from_residual-in_err-guarded.ensures.1 in
    rw (p.1, p.2) c.in_ok-finding.ensures.blames

pub returns-in_err-guarded-clause-place : goal.returns-in_err-guarded-clause-place
returns-in_err-guarded-clause-place g c = λ tells.
    let p = err_from_is_err_and c.from_residual-in_err-guarded.result c.from_residual-in_err-guarded.ensures.1 in
    rw (p.1, p.2) tt

pub returns-clause-same : goal.returns-clause-same
returns-clause-same g c = c.in_ok-finding.ensures.same

pub returns-clause-blames : goal.returns-clause-blames
returns-clause-blames g c = c.in_ok-finding.ensures.blames

pub returns-clause-numbers : goal.returns-clause-numbers
returns-clause-numbers g c = c.requires.numbers

pub returns-clause-tells : goal.returns-clause-tells
returns-clause-tells g c = λ none. absurd cc
