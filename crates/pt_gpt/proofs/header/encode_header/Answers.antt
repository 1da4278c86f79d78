use Rattle.std.proofs.Common.{◌∙◌, replicate, drop, refl, arith}
use Rattle.std.proofs.lemmas.List.{drop-replicate}
use Rattle.pt_gpt.proofs.HeaderEncoding.{is_header, is_plain}
use Rattle.pt_gpt.proofs.header.encode_header.Goals as goal

pub returns-clause-header : goal.returns-clause-header
returns-clause-header g c =
    let told = c.summed-front.ensures in
    let h = c.args.header.now in
    rw (c.copy_from_slice.ensures.after, told.bytes) (is_header g.row.B h h.disk.0 (drop 92 (replicate g.row.B 0))
    (omega (arith, c.requires)) told.fits.disk refl told.fits told.crc)

pub returns-clause-size : goal.returns-clause-size
returns-clause-size g c =
    let told = c.summed-front.ensures in
    rw (c.copy_from_slice.ensures.after, told.bytes) (is_plain c.args.header.now c.args.header.now.disk.0
    (drop 92 (replicate g.row.B 0)) told.fits.disk).size

pub returns-clause-reserved : goal.returns-clause-reserved
returns-clause-reserved g c =
    let told = c.summed-front.ensures in
    rw (c.copy_from_slice.ensures.after, told.bytes) (is_plain c.args.header.now c.args.header.now.disk.0
    (drop 92 (replicate g.row.B 0)) told.fits.disk).reserved

pub returns-clause-rest : goal.returns-clause-rest
returns-clause-rest g c =
    let told = c.summed-front.ensures in
    rw (c.copy_from_slice.ensures.after, told.bytes) ((is_plain c.args.header.now c.args.header.now.disk.0
    (drop 92 (replicate g.row.B 0)) told.fits.disk).rest ∙ drop-replicate 92 g.row.B 0)
