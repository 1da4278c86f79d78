use Rattle.std.proofs.Common.{◌<◌, ℕ, length, get_or}
use Rattle.pt_recover.specs.Denotes.{EbrNumbers}
use Rattle.pt_mbr.specs.declared.ebr.Ebr.{Ebr}
use Rattle.pt_recover.proofs.numbers.chain_numbers.Given as goal

abbrev pub invariant-loop-k : goal.invariant-loop-k
invariant-loop-k l = (j : ℕ) (z : Ebr) → j < l.k → j < length l.chain → EbrNumbers (get_or l.chain j z)
