use Rattle.std.proofs.Common.{◌≡◌, ℕ, Bool, true, length, sym, arith}
use Rattle.std.proofs.lemmas.Grind.{common_steps}
use Rattle.pt_edit.specs.Chains.{ebr_at, is_empty_in}
use Rattle.pt_edit.proofs.Ranges.{found_in_range, none_in_range}
use Rattle.pt_edit.proofs.records.chain_create.find_empty.Goals as goal

pub returns-then-is_none-clause-value : goal.returns-then-is_none-clause-value
returns-then-is_none-clause-value c =
    let chain = c.args.chain.now in
    let p : ℕ → Bool = λ k. is_empty_in c.args.at.0 (ebr_at chain k) in
    let here : p c.loop-k.k ≡ true = grind (arith, common_steps) in
    sym (found_in_range p 0 (length chain) c.loop-k.k (omega arith) (omega arith) (λ j low lt. c.loop-k.invariant j lt) here)

pub returns-clause-value : goal.returns-clause-value
returns-clause-value c =
    let chain = c.args.chain.now in
    let p : ℕ → Bool = λ k. is_empty_in c.args.at.0 (ebr_at chain k) in
    sym (none_in_range p 0 (length chain) (λ j low lt. c.loop-k.invariant j (omega arith)))
