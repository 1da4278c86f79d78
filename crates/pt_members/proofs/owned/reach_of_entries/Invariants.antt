use Rattle.std.proofs.Common.{ℕ, ◌<◌, get_or, None}
use Rattle.std.specs.Prelude.{IfSome}
use Rattle.pt_members.specs.inner.Tables.{Spans}
use Rattle.pt_members.proofs.owned.reach_of_entries.Given as goal

abbrev pub invariant-loop-k : goal.invariant-loop-k
invariant-loop-k l = (j : ℕ) → j < l.k → IfSome (get_or l.entries j None) (Spans l.reach)
