use Rattle.std.proofs.Common.{◌<◌, ◌≤◌, length, ◌∙◌, arith}
use Rattle.pt_set.proofs.Steps.{chain_pushed, chain_whole}
use Rattle.pt_set.proofs.chains.chain_of.Goals as goal

pub loop-k-preserved : goal.loop-k-preserved
loop-k-preserved c =
    let within : c.loop-k.k < length c.args.links.now = omega arith in
    chain_pushed c.args.logicals.now c.args.links.now c.loop-k.k c.loop-k.chain.items c.push.new.self.items c.logical_in.result
    c.next_of.result within c.loop-k.invariant c.in_ok-push.ensures.items c.logical_in.ensures c.next_of.ensures

pub returns : goal.returns
returns c =
    let past : length c.args.links.now ≤ c.loop-k.k = omega arith in
    c.new.ensures ∙ chain_whole c.args.logicals.now c.args.links.now c.loop-k.k c.loop-k.chain.items past c.loop-k.invariant
