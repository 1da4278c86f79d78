use Rattle.std.proofs.Common.{ℕ, ◌<◌, get_or}
use Rattle.pt_layout.specs.Sound.{IsApart}
use Rattle.pt_layout.specs.inner.Sound.{no_group}
use Rattle.pt_layout.proofs.sound.soundness.first_shared.Given as goal

abbrev pub invariant-loop-k : goal.invariant-loop-k
invariant-loop-k l = (j : ℕ) → j < l.k → IsApart (get_or l.groups j no_group).members
