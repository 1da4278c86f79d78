use Rattle.std.proofs.Common.{◌≡◌, ◌*◌, ◌%◌, ◌^◌}
use Rattle.pt_sum.specs.inner.Sums.{moved}
use Rattle.pt_resum.proofs.change.after_step.Given as goal

abbrev pub invariant-loop-i : goal.invariant-loop-i
invariant-loop-i l = l.sum ≡ moved (1024 * 2 ^ l.j) (l.register % 2 ^ l.i)
