use Rattle.std.proofs.Common.{◌≡◌, drop}
use Rattle.pt_set.specs.Pasts.{kept_at}
use Rattle.pt_set.proofs.past.kept_at.Given as goal

abbrev pub invariant-loop-k : goal.invariant-loop-k
invariant-loop-k l = kept_at l.logicals l.start ≡ kept_at (drop l.k l.logicals) l.start
