use Rattle.std.proofs.Common.{None, refl}
use Rattle.pt_path.proofs.number.dotted.Goals as goal

pub returns-in_err-path-clause-none : goal.returns-in_err-path-clause-none
returns-in_err-path-clause-none c = rw c.from_residual-in_err-path.ensures (λ p is.
    c.in_err-path.ensures.none (record { number = p.number; letter = None })
    (record { first = is.first; number = is.number; letter = refl }))
