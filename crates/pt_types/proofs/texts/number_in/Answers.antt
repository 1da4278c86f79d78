use Rattle.std.proofs.Common.{◌∙◌, subst, arith}
use Rattle.pt_types.proofs.Digits.{NoPlus, number_parsed}
use Rattle.pt_types.proofs.texts.number_in.Goals as goal

pub returns-in-len1 : goal.returns-in-len1
returns-in-len1 c =
    let none : NoPlus c.args.text.now = subst NoPlus c.as_bytes.ensures.value (λ plus. omega (arith, plus)) in
    c.ok.ensures.value
    ∙ number_parsed c.args.text.now c.from_str_radix.result (omega arith) (omega arith) none c.from_str_radix.ensures.value
