use Rattle.std.proofs.lemmas.Result.{err_from_is_err_and}
use Rattle.pt_recover.specs.Denotes.{IsOutsideDisk}
use Rattle.pt_recover.proofs.Bodies.{rest_mbr, rest_mbr_or}
use Rattle.pt_recover.proofs.Failed.{rest_of_chain}
use Rattle.pt_recover.proofs.body.read_mbr.Goals as goal

pub returns-clause-traced : goal.returns-clause-traced
returns-clause-traced g c = λ tells.
    rest_mbr g.row.B (g.D.Disk.told c.args.disk.now).seen c.args.mbr.now.records c.args.trace.now c.read_lone.new.trace
    (c.requires.is_mbr tells) (c.in_ok-chain.ensures.traced tells)

pub returns-in_err-chain-clause-traced_err : goal.returns-in_err-chain-clause-traced_err
returns-in_err-chain-clause-traced_err g c = λ tells.
    let p = err_from_is_err_and c.from_residual.result c.from_residual.ensures.1 in
    rw (p.1, p.2) (rest_mbr_or (IsOutsideDisk c.in_err-chain.field-0.0) g.row.B
    (g.D.Disk.told c.args.disk.now).seen c.args.mbr.now.records c.args.trace.now c.read_lone.new.trace (c.requires.is_mbr tells)
    (c.in_err-chain.ensures.traced_err tells))

pub returns-in_err-chain-clause-place : goal.returns-in_err-chain-clause-place
returns-in_err-chain-clause-place g c = λ tells.
    let p = err_from_is_err_and c.from_residual.result c.from_residual.ensures.1 in
    rw (p.1, p.2) (rest_of_chain g.row.B (g.D.Disk.told c.args.disk.now).seen c.args.mbr.now.records c.in_err-chain.field-0.0
    (c.requires.is_mbr tells) (c.in_err-chain.ensures.place tells))

pub returns-in_err-chain-clause-same : goal.returns-in_err-chain-clause-same
returns-in_err-chain-clause-same g c = c.in_err-chain.ensures.same

pub returns-in_err-chain-clause-blames : goal.returns-in_err-chain-clause-blames
returns-in_err-chain-clause-blames g c =
    let p = err_from_is_err_and c.from_residual.result c.from_residual.ensures.1 in
    rw (p.1, p.2) c.in_err-chain.ensures.blames

pub returns-in_err-chain-clause-err : goal.returns-in_err-chain-clause-err
returns-in_err-chain-clause-err g c = λ tells.
    let p = err_from_is_err_and c.from_residual.result c.from_residual.ensures.1 in
    rw (p.1, p.2) (c.in_err-chain.ensures.err tells)

pub returns-clause-same : goal.returns-clause-same
returns-clause-same g c = c.in_ok-chain.ensures.same

pub returns-clause-blames : goal.returns-clause-blames
returns-clause-blames g c = c.in_ok-chain.ensures.blames

pub returns-clause-ok : goal.returns-clause-ok
returns-clause-ok g c = λ tells. (c.requires.is_mbr tells, c.in_ok-chain.ensures.ok tells)
