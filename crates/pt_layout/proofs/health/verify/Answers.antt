use Rattle.std.proofs.lemmas.Result.{err_from_is_err_and}
use Rattle.pt_layout.proofs.health.verify.Goals as goal

pub returns-in_err-told-clause-same : goal.returns-in_err-told-clause-same
returns-in_err-told-clause-same g c = c.in_err-told.ensures.same

pub returns-in_err-told-clause-blames : goal.returns-in_err-told-clause-blames
returns-in_err-told-clause-blames g c =
    let p = err_from_is_err_and c.from_residual.result c.from_residual.ensures.1 in
    rw (p.1, p.2) c.in_err-told.ensures.blames

pub returns-in_err-told-clause-place : goal.returns-in_err-told-clause-place
returns-in_err-told-clause-place g c = λ tells.
    let p = err_from_is_err_and c.from_residual.result c.from_residual.ensures.1 in
    rw (p.1, p.2) (c.in_err-told.ensures.place tells)

pub returns-clause-same : goal.returns-clause-same
returns-clause-same g c = c.in_ok-told.ensures.same

pub returns-clause-blames : goal.returns-clause-blames
returns-clause-blames g c = c.in_ok-told.ensures.blames

pub returns-clause-ok : goal.returns-clause-ok
returns-clause-ok g c = λ tells. c.verdict.ensures g.row.B (g.D.Disk.told c.args.disk.now).seen (c.in_ok-told.ensures.ok tells)
