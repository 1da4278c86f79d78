use Rattle.std.proofs.Common.{◌∙◌, sym, inr}
use Rattle.std.proofs.lemmas.Result.{err_from_is_err_and}
use Rattle.pt_gpt.specs.Copies.{SideReads, InArray}
use Rattle.pt_gpt.proofs.Heads.{failed_in, other_crc_of, tells_same}
use Rattle.pt_gpt.proofs.copy.read_same.Goals as goal

pub returns-in_err-crc-clause-place : goal.returns-in_err-crc-clause-place
returns-in_err-crc-clause-place g c tells =
    let h = c.args.header.now in
    let p = err_from_is_err_and c.from_residual.result c.from_residual.ensures.1 in
    rw (p.1, p.2) (failed_in (InArray g.row.B h) (SideReads g.row.B (g.D.Disk.told c.args.disk.now).seen c.args.side) _
    (λ s here. inr (h, c.requires.head tells, here)) c.in_err-crc.ensures.place)

pub returns-then-crc-header-clause-err : goal.returns-then-crc-header-clause-err
returns-then-crc-header-clause-err g c tells =
    other_crc_of g.row.B (g.D.Disk.told c.args.disk.now).seen c.args.side c.args.header.now (c.requires.head tells)
    (λ crc. c.if-crc-header.true (c.in_ok-crc.ensures.crc tells ∙ sym crc))

pub returns-then-same-clause-ok : goal.returns-then-same-clause-ok
returns-then-same-clause-ok g c tells =
    let found = c.in_ok-crc.ensures.entries tells in
    tells_same g.row.B (g.D.Disk.told c.args.disk.now).seen c.args.side c.args.header.now c.args.table.now found.0 c.has_numbers.result
    (c.requires.head tells) (sym c.if-crc-header.false ∙ c.in_ok-crc.ensures.crc tells) (c.in_ok-crc.ensures.number tells) found.1
    (λ is. (found.2.0 c.if-same.true, c.has_numbers.ensures.0 is)) (λ same numbers. c.has_numbers.ensures.1 numbers)

pub returns-else-same-clause-ok : goal.returns-else-same-clause-ok
returns-else-same-clause-ok g c tells =
    let found = c.in_ok-crc.ensures.entries tells in
    tells_same g.row.B (g.D.Disk.told c.args.disk.now).seen c.args.side c.args.header.now c.args.table.now found.0 c.in_ok-crc.same
    (c.requires.head tells) (sym c.if-crc-header.false ∙ c.in_ok-crc.ensures.crc tells) (c.in_ok-crc.ensures.number tells) found.1
    (λ is. absurd (cc)) (λ same numbers. found.2.1 same)
