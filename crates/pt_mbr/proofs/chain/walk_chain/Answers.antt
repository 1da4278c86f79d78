use Rattle.pt_mbr.proofs.Reading.{reads_are}
use Rattle.pt_mbr.specs.declared.chain.ChainError.{ChainError}
use Rattle.pt_mbr.specs.declared.ebr.Ebr.{Ebr}
use Rattle.pt_mbr.specs.Changes.{EndsIn}
use Rattle.pt_sector.specs.Sectors.{Sectors, Span}
use Rattle.std.proofs.Common.{List}
use Rattle.std.proofs.lemmas.Result.{err_from_is_err_and}
use Rattle.pt_mbr.specs.Chain.{span_of, ChainFault}
use Rattle.pt_mbr.proofs.ReadingLemmas.{of_list}
use Rattle.pt_mbr.proofs.chain.walk_chain.Goals as goal

of_ends : (d : Sectors) (x : Span) (list : List Ebr) (e : ChainError) → EndsIn d x list e → ChainFault d x e
of_ends d x list e ends = ends.fault

pub returns-clause-read_ok : goal.returns-clause-read_ok
returns-clause-read_ok g c tells =
    of_list (g.D.Disk.told c.args.disk.now).seen (span_of c.args.extent.now) c.follow.new.list.items (c.in_ok-follow.ensures.ok tells)

pub returns-in_err-follow-clause-same : goal.returns-in_err-follow-clause-same
returns-in_err-follow-clause-same g c = c.in_err-follow.ensures.same

pub returns-in_err-follow-clause-blames : goal.returns-in_err-follow-clause-blames
returns-in_err-follow-clause-blames g c =
    let p = err_from_is_err_and c.from_residual.result c.from_residual.ensures.1 in
    rw (p.1, p.2) c.in_err-follow.ensures.blames

pub returns-in_err-follow-clause-err : goal.returns-in_err-follow-clause-err
returns-in_err-follow-clause-err g c = λ tells.
    let p = err_from_is_err_and c.from_residual.result c.from_residual.ensures.1 in
    rw (p.1, p.2) (of_ends (g.D.Disk.told c.args.disk.now).seen (span_of c.args.extent.now)
    c.follow.new.list.items c.in_err-follow.field-0.0 (c.in_err-follow.ensures.err tells))

pub returns-in_err-follow-clause-decoded : goal.returns-in_err-follow-clause-decoded
returns-in_err-follow-clause-decoded g c = λ tells.
    let p = err_from_is_err_and c.from_residual.result c.from_residual.ensures.1 in
    rw (p.1, p.2) (c.in_err-follow.ensures.err tells)

pub returns-in_err-follow-clause-read_err : goal.returns-in_err-follow-clause-read_err
returns-in_err-follow-clause-read_err g c = λ tells.
    let p = err_from_is_err_and c.from_residual.result c.from_residual.ensures.1 in
    rw (p.1, p.2) (reads_are (g.D.Disk.told c.args.disk.now).seen (span_of c.args.extent.now)
    c.follow.new.list.items c.in_err-follow.field-0.0
    (c.in_err-follow.ensures.err tells))

pub returns-clause-same : goal.returns-clause-same
returns-clause-same g c = c.in_ok-follow.ensures.same

pub returns-clause-blames : goal.returns-clause-blames
returns-clause-blames g c = c.in_ok-follow.ensures.blames
