use Rattle.std.proofs.Common.{◌≡◌, ℕ, ◌<◌, length}
use Rattle.pt_layout.specs.inner.Sound.{SameAt}
use Rattle.pt_layout.proofs.Marks.{AllMet}
use Rattle.pt_layout.proofs.sound.soundness.first_twins.Given as goal

abbrev pub invariant-loop-k : goal.invariant-loop-k
invariant-loop-k l = record {
  apart : (i j : ℕ) → i < j → j < l.k → ¬ SameAt l.entries i j;
  met : AllMet l.entries l.met l.k;
  long : length l.met ≡ 2048;
}
