use Rattle.std.proofs.Common.{◌≡◌, ◌-◌, ◌+◌, ◌≤◌, drop}
use Rattle.pt_bsd.specs.Labels.{count_of}
use Rattle.pt_bsd.proofs.encode.count_in.Given as goal

abbrev pub invariant-loop-count : goal.invariant-loop-count
invariant-loop-count l = (l.count ≤ 8) × (count_of l.entries ≡ l.count + count_of (drop l.count l.entries))

abbrev pub decreases-loop-count : goal.decreases-loop-count
decreases-loop-count l = 8 - l.count
