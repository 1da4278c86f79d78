use Rattle.std.proofs.Common.{ℕ, ◌<◌, get_or, sym, ap, ◌∙◌, arith}
use Rattle.std.proofs.lemmas.Nat.{xor_comm}
use Rattle.pt_sum.specs.Sums.{after_bytes}
use Rattle.pt_sum.proofs.Eight.{eight_at_once, of_eight}
use Rattle.pt_sum.proofs.crc.after_eight.Goals as goal

pub returns : goal.returns
returns c =
    let xs = c.args.bytes.now in
    let byte : (i : ℕ) → get_or xs i 0 < 256 = λ i. omega (arith, c.type_inv.bytes i) in
    let last = c.from_le_bytes.ensures in
    let first = c.from_le_bytes-2.ensures in
    xor_comm c.moved_word-last.result c.moved_word.result ∙ rw (c.moved_word.ensures, c.moved_word-last.ensures)
    (sym (ap (after_bytes c.args.register) (of_eight xs c.requires)
    ∙ eight_at_once c.args.register (get_or xs 0 0) (get_or xs 1 0) (get_or xs 2 0) (get_or xs 3 0) (get_or xs 4 0) (get_or xs 5 0)
    (get_or xs 6 0) (get_or xs 7 0) c.from_le_bytes-2.result c.from_le_bytes.result
    (byte 0) (byte 1) (byte 2) (byte 3) (byte 4) (byte 5) (byte 6) (byte 7) (omega arith) (omega arith)))
