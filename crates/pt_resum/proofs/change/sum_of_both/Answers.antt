use Rattle.std.proofs.Common.{◌≡◌, ◌*◌, ℕ, length, ap, ◌∙◌, arith}
use Rattle.pt_sum.specs.inner.Sums.{moved}
use Rattle.pt_resum.proofs.Changes.{joined}
use Rattle.pt_resum.proofs.change.sum_of_both.Goals as goal

pub returns : goal.returns
returns c a b behind first second =
    let places : 1024 * c.args.behind ≡ 8 * length b = omega arith in
    let moves = c.moved_behind.ensures ∙ ap (λ (n : ℕ). moved n c.args.first) places in
    rw (moves, first, second) (joined a b)
