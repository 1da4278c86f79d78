use Rattle.std.proofs.Common.{◌∙◌, sym}
use Rattle.std.proofs.lemmas.Result.{err_from_is_err_and}
use Rattle.pt_gpt.proofs.Heads.{head_of, fault_of_header, fault_of_place}
use Rattle.pt_gpt.proofs.copy.read_head.Goals as goal

pub returns-in_err-header-clause-err : goal.returns-in_err-header-clause-err
returns-in_err-header-clause-err g c tells =
    let p = err_from_is_err_and c.from_residual.result c.from_residual.ensures.1 in
    rw (p.1, p.2) (fault_of_header g.row.B (g.D.Disk.told c.args.disk.now).seen c.args.side _ c.header_at.result c.sectors-sectors.result
    c.header_at.ensures (c.sectors-sectors.ensures ∙ sym (g.met.D.Disk.sized c.args.disk.now tells)) (c.in_err-header.ensures.err tells))

pub returns-clause-ok : goal.returns-clause-ok
returns-clause-ok g c tells =
    head_of g.row.B (g.D.Disk.told c.args.disk.now).seen c.args.side c.in_ok-header.header c.header_at.result c.sectors-sectors.result
    c.header_at.ensures (c.sectors-sectors.ensures ∙ sym (g.met.D.Disk.sized c.args.disk.now tells))
    (c.in_ok-header.ensures.ok tells) c.in_ok-check_place.ensures.ok

pub returns-in_err-check_place-clause-err : goal.returns-in_err-check_place-clause-err
returns-in_err-check_place-clause-err g c tells =
    let p = err_from_is_err_and c.from_residual-in_err-check_place.result c.from_residual-in_err-check_place.ensures.1 in
    rw (p.1, p.2) (fault_of_place g.row.B
    (g.D.Disk.told c.args.disk.now).seen c.args.side c.in_ok-header.header _ c.header_at.result c.sectors-sectors.result
    c.header_at.ensures (c.sectors-sectors.ensures ∙ sym (g.met.D.Disk.sized c.args.disk.now tells))
    (c.in_ok-header.ensures.ok tells) c.in_err-check_place.ensures.err)
