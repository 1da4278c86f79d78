use Rattle.std.proofs.Common.{◌*◌, ◌^◌, ◌%◌, ◌≡◌, ◌∙◌, ℕ, ap, refl, arith}
use Rattle.pt_sum.specs.inner.Sums.{moved}
use Rattle.pt_resum.proofs.Columns.{is_set, is_clear, step_taken, step_left}
use Rattle.pt_resum.proofs.change.moved_behind.Goals as goal
use Rattle.pt_resum.proofs.change.moved_behind.Goals.{then-behind-j-eq1, else-behind-j-eq1}

pub loop-j-init : goal.loop-j-init
unfolding moved
loop-j-init c = let none : 1024 * (c.args.behind % 1) ≡ 0 = omega arith in rw none refl

pub loop-j-preserved : goal.loop-j-preserved
loop-j-preserved c =
    let j = c.loop-j.j in
    let r = c.args.register in
    let d = c.args.behind in
    elim c.if-behind-j-eq1.branch [
      | then-behind-j-eq1 w ↦ w.sum-is ∙ w.after_step-sum.ensures ∙ ap (moved (1024 * 2 ^ j)) c.loop-j.invariant
          ∙ step_taken r d j (is_set d j w.if-behind-j-eq1.true)
      | else-behind-j-eq1 w ↦ w.sum-is ∙ c.loop-j.invariant ∙ step_left r d j (is_clear d j w.if-behind-j-eq1.false)
    ]

pub returns : goal.returns
returns c =
    let end : c.loop-j.j ≡ 7 = omega arith in
    let whole : c.args.behind % 2 ^ 7 ≡ c.args.behind = omega arith in
    c.loop-j.invariant
    ∙ ap (λ (k : ℕ). moved (1024 * (c.args.behind % 2 ^ k)) c.args.register) end
    ∙ ap (λ (k : ℕ). moved (1024 * k) c.args.register) whole
