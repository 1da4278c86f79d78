use Rattle.std.proofs.Common.{◌≡◌, ◌*◌, ℕ, length, ap, ◌∙◌, arith}
use Rattle.std.specs.Prelude.{bit_xor}
use Rattle.pt_sum.specs.inner.Sums.{moved}
use Rattle.pt_resum.proofs.Changes.{changed}
use Rattle.pt_resum.proofs.change.sum_after_change.Goals as goal

pub returns : goal.returns
returns c p x y s alike behind all before now =
    let places : 1024 * c.args.behind ≡ 8 * length s = omega arith in
    let moves = c.moved_behind.ensures ∙ ap (λ (n : ℕ). moved n (bit_xor c.args.before c.args.now)) places in
    rw (moves, all, before, now) (changed p x y s alike)
