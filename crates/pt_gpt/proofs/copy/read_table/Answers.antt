use Rattle.std.proofs.Common.{◌∙◌, sym, inl, inr}
use Rattle.std.proofs.lemmas.Result.{err_from_is_err_and}
use Rattle.pt_gpt.specs.Copies.{SideReads, InArray}
use Rattle.pt_gpt.proofs.Heads.{failed_in, other_crc_of, table_of, array_within, small_within}
use Rattle.pt_gpt.proofs.copy.read_table.Goals as goal

pub returns-in_err-crc-clause-place : goal.returns-in_err-crc-clause-place
returns-in_err-crc-clause-place g c tells =
    let h = c.args.header.now in
    let p = err_from_is_err_and c.from_residual.result c.from_residual.ensures.1 in
    rw (p.1, p.2) (failed_in (InArray g.row.B h) (SideReads g.row.B (g.D.Disk.told c.args.disk.now).seen c.args.side) _
    (λ s here. inr (h, c.requires.head tells, here)) c.in_err-crc.ensures.place)

pub returns-then-crc-header-clause-err : goal.returns-then-crc-header-clause-err
returns-then-crc-header-clause-err g c tells =
    other_crc_of g.row.B (g.D.Disk.told c.args.disk.now).seen c.args.side c.args.header.now (c.requires.head tells)
    (λ crc. c.if-crc-header.true (c.in_ok-crc.ensures.crc tells ∙ sym crc))

pub returns-clause-with : goal.returns-clause-with
returns-clause-with g c tells =
    table_of g.row.B (g.D.Disk.told c.args.disk.now).seen c.args.side c.args.header.now _ (c.requires.head tells)
    (sym c.if-crc-header.false ∙ c.in_ok-crc.ensures.crc tells) c.in_ok-crc.ensures.number (c.in_ok-crc.ensures.entries tells)

pub returns-clause-ok : goal.returns-clause-ok
returns-clause-ok g c tells =
    let sized = g.met.D.Disk.sized c.args.disk.now tells in
    record { room = rw sized c.requires.room; head = c.args.header.now; stands = returns-clause-with g c tells }

pub returns-in_err-crc-clause-blames : goal.returns-in_err-crc-clause-blames
returns-in_err-crc-clause-blames g c =
    let p = err_from_is_err_and c.from_residual.result c.from_residual.ensures.1 in
    rw (p.1, p.2) c.in_err-crc.ensures.blames

pub returns-in_err-crc-clause-err : goal.returns-in_err-crc-clause-err
returns-in_err-crc-clause-err g c tells =
    let p = err_from_is_err_and c.from_residual.result c.from_residual.ensures.1 in
    rw (p.1, p.2) (inl c.in_err-crc.ensures.outside)

pub returns-in_err-crc-clause-same : goal.returns-in_err-crc-clause-same
returns-in_err-crc-clause-same g c = c.in_err-crc.ensures.same

pub returns-then-crc-header-clause-same : goal.returns-then-crc-header-clause-same
returns-then-crc-header-clause-same g c = c.in_ok-crc.ensures.same

pub returns-then-crc-header-clause-blames : goal.returns-then-crc-header-clause-blames
returns-then-crc-header-clause-blames g c = c.in_ok-crc.ensures.blames

pub returns-clause-same : goal.returns-clause-same
returns-clause-same g c = c.in_ok-crc.ensures.same

pub returns-clause-blames : goal.returns-clause-blames
returns-clause-blames g c = c.in_ok-crc.ensures.blames

pub read_entries-requires-clause-most : goal.read_entries-requires-clause-most
read_entries-requires-clause-most g c = c.requires.placed.shape.1

pub read_entries-requires-clause-within : goal.read_entries-requires-clause-within
read_entries-requires-clause-within g c =
    array_within g.row.B c.args.side _ c.args.header.now c.requires.size c.requires.room c.requires.placed

pub read_entries-requires-clause-fits : goal.read_entries-requires-clause-fits
read_entries-requires-clause-fits g c =
    small_within g.row.B (g.D.Disk.count c.args.disk.now) _ c.requires.size (g.met.D.Disk.bounded c.args.disk.now)
    (read_entries-requires-clause-within g c)
