use Rattle.std.proofs.Common.{ℕ, Bool, length, Option, ap, sym, arith}
use Rattle.std.specs.Prelude.{nat_le, unwrap_or}
use Rattle.std.proofs.lemmas.Bool.{le-leb}
use Rattle.pt_edit.specs.Chains.{ebr_at}
use Rattle.pt_edit.proofs.Ranges.{found_in_range, none_in_range}
use Rattle.pt_edit.proofs.records.chain_create.place_for.Goals as goal

pub returns-then-chain-k-clause-value : goal.returns-then-chain-k-clause-value
returns-then-chain-k-clause-value c =
    let chain = c.args.chain.now in
    let p : ℕ → Bool = λ k. nat_le c.args.at.0 (ebr_at chain k).at.0 in
    sym (ap (λ (o : Option ℕ). unwrap_or o (length chain)) (found_in_range p 0 (length chain) c.loop-k.k (omega arith) (omega arith)
    (λ j low lt. c.loop-k.invariant j lt) (le-leb c.args.at.0 (ebr_at chain c.loop-k.k).at.0 c.if-chain-k.true)))

pub returns-clause-value : goal.returns-clause-value
returns-clause-value c =
    let chain = c.args.chain.now in
    let p : ℕ → Bool = λ k. nat_le c.args.at.0 (ebr_at chain k).at.0 in
    sym (ap (λ (o : Option ℕ). unwrap_or o (length chain)) (none_in_range p 0 (length chain)
    (λ j low lt. c.loop-k.invariant j (omega arith))))
