use Rattle.std.proofs.Common.{◌∙◌, ap, sym, length, List, ℕ}
use Rattle.pt_gpt.proofs.Puts.{part_long, put_part}
use Rattle.pt_gpt.proofs.entry.put_units.Goals as goal

pub returns-clause-put : goal.returns-clause-put
returns-clause-put c =
    let is = c.write_u16_into.ensures in
    put_part c.args.at 72 c.args.bytes.now _ _ is
    (sym (ap (λ (t : List ℕ). length t) is) ∙ c.write_u16_into.auto.dst ∙ part_long c.args.at 72 c.args.bytes.now c.requires)
