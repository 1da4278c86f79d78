use Rattle.std.proofs.Common.{ℕ, ◌≡◌, ◌/◌, sym, ap, ◌∙◌, arith}
use Rattle.std.specs.Prelude.{bit_xor}
use Rattle.std.specs.Int.Bits.{xor_assoc}
use Rattle.std.proofs.lemmas.Nat.{and_mask, xor_comm}
use Rattle.pt_sum.proofs.Eight.{moved_four}
use Rattle.pt_sum.proofs.crc.moved_word.Goals as goal

last_to_front : (a b c d : ℕ) → bit_xor (bit_xor (bit_xor d a) b) c ≡ bit_xor (bit_xor (bit_xor a b) c) d
last_to_front a b c d =
    ap (λ (x : ℕ). bit_xor x c) (xor_assoc d a b) ∙ xor_assoc d (bit_xor a b) c ∙ xor_comm d (bit_xor (bit_xor a b) c)

pub returns : goal.returns
returns c =
    let w = c.args.word in
    let m0 = and_mask w 8 in
    let m1 = and_mask (w / 256) 8 in
    let m2 = and_mask (w / 65536) 8 in
    let e = moved_four c.args.k w (omega arith) in
    let f0 = c.entry_at.ensures in
    let f1 = c.entry_at-2.ensures in
    let f2 = c.entry_at-3.ensures in
    let f3 = c.entry_at-4.ensures in
    last_to_front c.entry_at-2.result c.entry_at-3.result c.entry_at-4.result c.entry_at.result
    ∙ rw (f0, f1, f2, f3) (rw (m0, m1, m2) (sym e))
