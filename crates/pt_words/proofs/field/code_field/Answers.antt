use Rattle.std.proofs.Common.{arith}
use Rattle.std.proofs.lemmas.Bool.Decides.{nat_tests}
use Rattle.pt_words.proofs.Values.{read_two, read_four, unread_code}
use Rattle.pt_words.proofs.field.code_field.Goals as goal

pub returns-in-Err : goal.returns-in-Err
returns-in-Err c = unread_code c.args.text.now 2 8 (omega arith) (omega arith) (omega arith) c.in-Err.ensures.value

pub returns-in-Err-from_str_radix : goal.returns-in-Err-from_str_radix
returns-in-Err-from_str_radix c =
    unread_code c.args.text.now 4 16 (omega arith) (omega arith) (omega arith) c.in-Err-from_str_radix.ensures.value

pub returns-in-Ok : goal.returns-in-Ok
returns-in-Ok c = read_two c.args.text.now c.in-Ok.digits (omega arith) (grind (arith, nat_tests)) c.in-Ok.ensures.value

pub returns-in-Ok-from_str_radix : goal.returns-in-Ok-from_str_radix
returns-in-Ok-from_str_radix c =
    read_four c.args.text.now c.in-Ok-from_str_radix.digits (omega arith) (grind (arith, nat_tests)) c.in-Ok-from_str_radix.ensures.value
