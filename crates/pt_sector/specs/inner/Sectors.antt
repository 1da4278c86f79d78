-- Sectors, lists of them as disks, and what writes make of a disk: what private contracts cite.
use Rattle.std.proofs.Common.{◌==◌, ℕ, List, [], ◌∷◌, cond}
use Rattle.pt_sector.specs.Sectors.{Writes, sector_at}
use Rattle.std.specs.Prelude.{◌<◌, ◌≤◌, length}

-- ## What sector k holds after these writes, if it held v before.

-- what sector k holds after these writes, if it held v before
abbrev pub value_after : Writes → ℕ → List ℕ → List ℕ
value_after [] k v = v
value_after (w ∷ ws) k v = value_after ws k (cond (w.0 == k) w.1 v)

-- ## Writes in the order of their sectors, each sector once.

-- a write of sector k would go to place i: lower sectors before it, and higher ones from it on
pub record IsGapFor (ws : Writes) (k i : ℕ) : Type 0 where
  pub in_range : i ≤ length ws
  pub lower_before : (j : ℕ) → j < i → sector_at ws j < k
  pub higher_after : (j : ℕ) → i ≤ j → j < length ws → k < sector_at ws j
