-- Entries that are read one after the other.
use Rattle.std.specs.Prelude.{◌≡◌, ◌<◌, ◌≤◌, ℕ, List, Option, None, length, slice_index_or}
use Rattle.pt_bsd.specs.Labels.{IsEntry}
use Rattle.pt_bsd.specs.declared.label.LabelEntry.{LabelEntry}

-- the first i entries are read, and the others are none so far
pub record ReadSoFar (entries : List (Option LabelEntry)) (i : ℕ) (bytes : List ℕ) : Type 0 where
  pub places : length entries ≡ 8
  pub done : (k : ℕ) → k < i → IsEntry (slice_index_or entries k None) k bytes
  pub open_yet : (k : ℕ) → i ≤ k → k < 8 → slice_index_or entries k None ≡ None
