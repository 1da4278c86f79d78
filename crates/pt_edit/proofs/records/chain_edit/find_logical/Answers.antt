use Rattle.std.proofs.Common.{◌∙◌, sym, arith}
use Rattle.pt_edit.proofs.Numbering.{logical_found, logical_none}
use Rattle.pt_edit.proofs.records.chain_edit.find_logical.Goals as goal

pub returns-then-next-number-clause-value : goal.returns-then-next-number-clause-value
returns-then-next-number-clause-value c =
    sym (logical_found c.args.chain.now c.args.number c.loop-k.k c.in-Some.record c.loop-k-test.true c.in-Some.is
    (sym c.loop-k.invariant.counted ∙ c.if-next-number.true) c.loop-k.invariant.none)

pub returns-clause-value : goal.returns-clause-value
returns-clause-value c =
    sym (logical_none c.args.chain.now c.args.number (λ j within. c.loop-k.invariant.none j (omega arith)))
