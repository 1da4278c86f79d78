-- the chain that is made so far, and what is left of it, are the whole
use Rattle.std.proofs.Common.{◌≡◌, ◌++◌, drop}
use Rattle.pt_set.specs.Chains.{chain_of}
use Rattle.pt_set.proofs.chains.chain_of.Given as goal

abbrev pub invariant-loop-k : goal.invariant-loop-k
invariant-loop-k l = l.chain.items ++ chain_of l.logicals (drop l.k l.links) ≡ chain_of l.logicals l.links
