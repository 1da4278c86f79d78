use Rattle.std.proofs.Common.{◌≡◌, ◌++◌, take}
use Rattle.pt_set.specs.Chains.{stated_logicals}
use Rattle.pt_set.proofs.chains.push_stated.Given as goal

abbrev pub invariant-loop-k : goal.invariant-loop-k
invariant-loop-k g l = l.runs.items ≡ l.fn.runs.items ++ stated_logicals g.row.B l.logicals (take l.k l.later)
