use Rattle.std.proofs.Common.{◌≡◌, ◌+◌, ◌*◌, ◌%◌, ◌/◌, ◌∙◌, length, refl, arith}
use Rattle.hex.proofs.Pairs.{decode_done, decode_sized-pairs}
use Rattle.pt_apply.proofs.Pairs.{decoded_more, larger, below}
use Rattle.pt_apply.proofs.digits.decode_digits.Goals as goal

pub loop-k-preserved : goal.loop-k-preserved
loop-k-preserved c =
    let high = c.value_of-high.ensures in
    let low = c.value_of-low.ensures in
    rw (c.max-worst.ensures, c.max.ensures, larger c.loop-k.worst c.value_of-high.result)
    (decoded_more c.args.digits.now c.loop-k.bytes c.loop-k.k c.loop-k.worst c.value_of-high.result c.value_of-low.result
    ((c.value_of-high.result * 16 % 256 + c.value_of-low.result) % 256)
    c.loop-k.invariant (omega arith) (omega arith) high.some high.none low.some low.none refl)

pub returns-clause-yes : goal.returns-clause-yes
returns-clause-yes c = λ is.
    let s = c.args.digits.now in
    let even : length s % 2 ≡ 0 = omega arith in
    let half : length s / 2 ≡ length c.args.bytes.now = omega arith in
    decode_sized-pairs s (length c.args.bytes.now) even half
    ∙ decode_done s c.loop-k.bytes c.loop-k.k (omega arith) (omega arith) (c.loop-k.invariant.good (below c.loop-k.worst is))
