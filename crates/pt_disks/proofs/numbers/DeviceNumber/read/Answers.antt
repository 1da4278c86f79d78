use Rattle.pt_disks.proofs.DeviceNumbers.{if_none, no_number, number_parts}
use Rattle.pt_disks.proofs.numbers.DeviceNumber.read.Goals as goal

pub returns-in_err-major-clause-none : goal.returns-in_err-major-clause-none
returns-in_err-major-clause-none c = if_none c.from_residual.result (no_number c.args.text.now c.in_err-major.ensures.cases)

pub returns-in_err-major-2-clause-none : goal.returns-in_err-major-2-clause-none
returns-in_err-major-2-clause-none c = if_none c.from_residual-in_err-major-2.result (λ d is.
    let parts = number_parts c.args.text.now c.in_ok-major.major c.in_ok-major.minor c.in_ok-major.ensures.cases d is in
    c.in_err-major-2.ensures.none d.major (record { fits = is.major_fits; digits = parts.0 }))

pub returns-in_err-minor-clause-none : goal.returns-in_err-minor-clause-none
returns-in_err-minor-clause-none c = if_none c.from_residual-in_err-minor.result (λ d is.
    let parts = number_parts c.args.text.now c.in_ok-major.major c.in_ok-major.minor c.in_ok-major.ensures.cases d is in
    c.in_err-minor.ensures.none d.minor (record { fits = is.minor_fits; digits = parts.1 }))
