use Rattle.std.proofs.Common.{length, refl}
use Rattle.std.proofs.lemmas.Result.{err_from_is_err_and}
use Rattle.pt_gpt.specs.Copies.{HasRoom}
use Rattle.pt_recover.proofs.Alone.{copy_failed}
use Rattle.pt_recover.proofs.Bodies.{enough}
use Rattle.pt_recover.proofs.side.table_from.Goals as goal

pub returns-in_err-table-clause-place : goal.returns-in_err-table-clause-place
returns-in_err-table-clause-place g c = λ tells.
    let p = err_from_is_err_and c.from_residual.result c.from_residual.ensures.1 in
    rw (p.1, p.2) (let room : HasRoom g.row.B c.sectors.result = c.if-not-has_room.ensures.0 refl in
    copy_failed g.row.B (g.D.Disk.told c.args.disk.now).seen c.args.side c.in_err-table.field-0.0
    (enough g.row.B c.sectors.result (g.D.Disk.count c.args.disk.now)
    (length (g.D.Disk.told c.args.disk.now).seen) room c.sectors.ensures (g.met.D.Disk.sized c.args.disk.now tells))
    (c.in_err-table.ensures.place tells))
