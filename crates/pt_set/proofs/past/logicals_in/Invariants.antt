use Rattle.std.proofs.Common.{◌≡◌, take}
use Rattle.pt_set.specs.Pasts.{logicals_in}
use Rattle.pt_set.proofs.past.logicals_in.Given as goal

abbrev pub invariant-loop-ebr : goal.invariant-loop-ebr
invariant-loop-ebr l = l.logicals.items ≡ logicals_in (take l.ebr-index l.chain)
