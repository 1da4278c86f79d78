use Rattle.std.proofs.Common.{◌∙◌, subst, arith}
use Rattle.pt_types.proofs.Digits.{NoPlus, code_parsed}
use Rattle.pt_types.proofs.texts.code_in.Goals as goal

pub returns-in-len4 : goal.returns-in-len4
returns-in-len4 c =
    let none : NoPlus c.args.text.now = subst NoPlus c.as_bytes.ensures.value (λ plus. omega (arith, plus)) in
    c.ok.ensures.value ∙ code_parsed c.args.text.now c.from_str_radix.result (omega arith) none c.from_str_radix.ensures.value
