use Rattle.std.proofs.Common.{◌∙◌, ◌*◌, ap, sym, length, List, ℕ}
use Rattle.pt_gpt.proofs.Puts.{part_long, put_part}
use Rattle.pt_gpt.proofs.array.put_entry.Goals as goal

pub returns-clause-put : goal.returns-clause-put
returns-clause-put c =
    let is = c.copy_from_slice.ensures.after ∙ c.bytes_of.ensures.bytes in
    put_part (c.args.k * 128) 128 c.args.bytes.now _ _ is
    (sym (ap (λ (t : List ℕ). length t) is) ∙ c.copy_from_slice.ensures.len ∙ part_long (c.args.k * 128) 128 c.args.bytes.now c.requires)
