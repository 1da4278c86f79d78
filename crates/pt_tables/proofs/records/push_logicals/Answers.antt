use Rattle.std.proofs.Common.{◌∙◌, ◌+◌, ◌++◌, ℕ, ap, arith, drop, sym}
use Rattle.pt_tables.specs.Records.{logicals_data}
use Rattle.pt_tables.specs.inner.Objects.{values_in}
use Rattle.pt_tables.proofs.Listed.{few_more, logical_more, logicals_end}
use Rattle.pt_tables.proofs.records.push_logicals.Goals as goal

pub loop-k-preserved : goal.loop-k-preserved
loop-k-preserved c = record {
  small = few_more _ _ _ _ c.next_number-number.ensures c.loop-k.invariant.small;
  left = logical_more c.args.device.now c.args.labels.now _ _ c.loop-k.k c.args.chain.now _ c.loop-k.number _
      (omega (arith, c.loop-k-test.true)) c.loop-k.invariant.left c.in_ok-push_logical.ensures
      ∙ ap (λ (n : ℕ). values_in c.push_logical.new.list
      ++ logicals_data c.args.device.now c.args.labels.now n (drop (c.loop-k.k + 1) c.args.chain.now)) (sym c.next_number-number.ensures);
}

pub returns : goal.returns
returns c =
    logicals_end c.args.device.now c.args.labels.now _ _ c.loop-k.k c.args.chain.now c.loop-k.number (omega (arith, c.loop-k-test.false))
    c.loop-k.invariant.left
