use Rattle.std.proofs.Common.{arith, None, get_or, refl}
use Rattle.pt_mbr.specs.Chain.{StandsAt}
use Rattle.pt_mbr.specs.declared.ebr.Ebr.{Ebr}
use Rattle.pt_recover.proofs.Traces.{left_first, chain_more, chain_end}
use Rattle.pt_recover.proofs.extended.trace_chain.Goals as goal

pub loop-k-init : goal.loop-k-init
loop-k-init c = left_first c.args.trace.now (λ s. StandsAt s c.args.list.now)

pub loop-k-preserved : goal.loop-k-preserved
loop-k-preserved c =
    let z : Ebr = record { at = record { 0 = 0 }; logical = None; next = None } in
    chain_more c.args.trace.now c.loop-k.trace c.add_one.new.self c.args.list.now c.loop-k.k z (get_or c.args.list.now c.loop-k.k z)
    (omega arith) refl c.loop-k.invariant c.in_ok-add_one.ensures

pub returns : goal.returns
returns c = chain_end c.args.trace.now c.loop-k.trace c.args.list.now c.loop-k.k (omega arith) c.loop-k.invariant
