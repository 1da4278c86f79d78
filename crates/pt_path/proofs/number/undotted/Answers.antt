use Rattle.std.proofs.Common.{arith}
use Rattle.pt_path.proofs.OneText.{number_is_one_lem}
use Rattle.pt_path.proofs.number.undotted.Goals as goal

pub returns-then-number-eq0-clause-none : goal.returns-then-number-eq0-clause-none
returns-then-number-eq0-clause-none c = λ p is.
    let same = number_is_one_lem c.args.digits.now p.number c.in_ok-number.number is.number c.in_ok-number.ensures.some in
    absurd (omega (arith, is.first))
