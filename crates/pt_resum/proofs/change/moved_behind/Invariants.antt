use Rattle.std.proofs.Common.{◌≡◌, ◌*◌, ◌%◌, ◌^◌}
use Rattle.pt_sum.specs.inner.Sums.{moved}
use Rattle.pt_resum.proofs.change.moved_behind.Given as goal

abbrev pub invariant-loop-j : goal.invariant-loop-j
invariant-loop-j l = l.sum ≡ moved (1024 * (l.behind % 2 ^ l.j)) l.initial.sum
