use Rattle.std.proofs.Common.{ℕ, List, ap, ◌∙◌}
use Rattle.std.specs.Fmt.{decimal}
use Rattle.hex.specs.Hex.{decode_sized}
use Rattle.pt_apply.proofs.Cuts.{decimal_spaceless, fields_one, if_none}
use Rattle.pt_apply.proofs.read.read_write.Goals as goal

pub returns-in_err-number-clause-none : goal.returns-in_err-number-clause-none
returns-in_err-number-clause-none g c =
    if_none c.from_residual.result
    (λ w is. c.in_err-number.ensures.none (decimal w.0) is.digits (decimal_spaceless w.0 is.fits) is.written)

pub returns-in_err-number-2-clause-none : goal.returns-in_err-number-2-clause-none
returns-in_err-number-2-clause-none g c = if_none c.from_residual-in_err-number-2.result (λ w is.
    let found = c.in_ok-number.ensures.some in
    let e = fields_one g.row.B c.args.line.now c.in_ok-number.number.now c.in_ok-number.digits.now w found.0 found.1 is in
    c.in_err-number-2.ensures.none w.0 (record { fits = is.fits; digits = e.0 }))

pub returns-in_err-bytes-clause-none : goal.returns-in_err-bytes-clause-none
returns-in_err-bytes-clause-none g c = if_none c.from_residual-in_err-bytes.result (λ w is.
    let found = c.in_ok-number.ensures.some in
    let e = fields_one g.row.B c.args.line.now c.in_ok-number.number.now c.in_ok-number.digits.now w found.0 found.1 is in
    c.in_err-bytes.ensures.none w.1 (ap (λ (d : List ℕ). decode_sized d g.row.B) e.1 ∙ is.bytes))
