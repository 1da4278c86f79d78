-- Consecutive sectors of a disk: what they are, and what may stand in them.
use Rattle.std.specs.Prelude.{◌≡◌, ◌⊎◌, ℕ, ◌+◌, ◌<◌, List, Some, None}
use Rattle.example_disk.specs.Window.{moved}

module _ (first n : ℕ) where
  -- a write is of one of the sectors, or of none of them
  abbrev pub Falls : ℕ × List ℕ → Type 0
  Falls w = ((k : ℕ) × (k < n) × (w.0 ≡ first + k) × (moved first n w ≡ Some (k, w.1)))
      ⊎ ((moved first n w ≡ None) × ((k : ℕ) → k < n → ¬ (w.0 ≡ first + k)))
