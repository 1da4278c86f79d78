-- The parser reads digits, and what is plain among them is a number.
use Rattle.pt_path.proofs.Numbers.{plain_number, read_number, unread_number}
use Rattle.pt_path.proofs.number.parse_number.Goals as goal

pub returns-then-not-is_plain-clause-none : goal.returns-then-not-is_plain-clause-none
returns-then-not-is_plain-clause-none c = λ n is. let h = c.is_plain.ensures.1 (plain_number c.args.text.now n is) in cc

pub returns-in-Ok-clause-some : goal.returns-in-Ok-clause-some
returns-in-Ok-clause-some c =
    read_number c.args.text.now c.in-Ok.number (c.is_plain.ensures.0 c.if-not-is_plain.false) c.in-Ok.ensures.value

pub returns-in-Err-clause-none : goal.returns-in-Err-clause-none
returns-in-Err-clause-none c = unread_number c.args.text.now c.in-Err.ensures.value
