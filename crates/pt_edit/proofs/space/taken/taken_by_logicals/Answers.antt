use Rattle.std.proofs.Common.{arith}
use Rattle.pt_edit.proofs.Pushed.{one_logical, all_logicals}
use Rattle.pt_edit.proofs.space.taken.taken_by_logicals.Goals as goal

pub returns : goal.returns
returns c =
    all_logicals c.args.chain.now c.loop-k.k c.loop-k.taken.items (omega (arith, c.loop-k-test.false)) c.loop-k.invariant.taken

pub loop-k-preserved : goal.loop-k-preserved
loop-k-preserved c = record {
  taken = one_logical c.args.chain.now c.loop-k.k c.numbered_logical.result c.loop-k.taken.items c.push_run.new.taken.items
      (omega (arith, c.loop-k-test.true)) c.numbered_logical.ensures.value c.loop-k.invariant.taken c.in_ok-push_run.ensures;
  number = c.number_behind-number.ensures;
}
