use Rattle.std.proofs.Common.{ℕ, ◌<◌}
use Rattle.pt_layout.specs.inner.Sound.{SameAt}
use Rattle.pt_layout.proofs.sound.soundness.twin_of.Given as goal

abbrev pub invariant-loop-i : goal.invariant-loop-i
invariant-loop-i l = (j : ℕ) → j < l.i → ¬ SameAt l.entries j l.k
