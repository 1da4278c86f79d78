use Rattle.std.proofs.Common.{ℕ, ◌<◌, ◌≤◌, slice_index_or}
use Rattle.pt_disks.specs.inner.Devices.{IsOn}
use Rattle.pt_disks.specs.declared.uses.Claim.{Claim}
use Rattle.pt_disks.proofs.uses.use_among.Given as goal

abbrev pub invariant-loop-claim : goal.invariant-loop-claim
invariant-loop-claim l = (k : ℕ) (d : Claim) → k < l.claim-index → ¬ IsOn l.devices (slice_index_or l.claims k d)
