use Rattle.std.proofs.Common.{◌≡◌, ℕ, ◌*◌, ◌^◌, ◌%◌, ◌∙◌, [], get_or, ap, arith}
use Rattle.std.proofs.lemmas.Nat.Bits.{shr_and_one}
use Rattle.pt_sum.specs.inner.Sums.{moved}
use Rattle.pt_resum.specs.declared.steps.TheConstants.{STEPS}
use Rattle.pt_resum.proofs.Columns.{moved_none, one_more, all_bits}
use Rattle.pt_resum.proofs.StepFacts.{row_moves}
use Rattle.pt_resum.proofs.change.after_step.Goals as goal

pub loop-i-init : goal.loop-i-init
loop-i-init c = moved_none (1024 * 2 ^ c.args.j) c.args.register

pub loop-i-preserved : goal.loop-i-preserved
loop-i-preserved c =
    let i = c.loop-i.i in
    let j = c.args.j in
    let column = row_moves j c.requires i c.loop-i-test.true in
    rw (c.loop-i.invariant, shr_and_one c.args.register i)
    (one_more (1024 * 2 ^ j) c.args.register i (get_or (get_or STEPS j []) i 0) column)

pub returns : goal.returns
returns c =
    let n = 1024 * 2 ^ c.args.j in
    let end : c.loop-i.i ≡ 32 = omega arith in
    let low = c.loop-i.invariant ∙ ap (λ (k : ℕ). moved n (c.args.register % 2 ^ k)) end in
    low ∙ all_bits n c.args.register (omega arith)
