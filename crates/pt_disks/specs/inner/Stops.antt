-- Disks that stop and fail where that was chosen: what private contracts cite.
use Rattle.std.specs.Prelude.{ℕ, ◌+◌, List, [], ◌∷◌, drop, slice_index, if◌then◌else◌}
use Rattle.pt_sector.specs.Sectors.{Sectors, Writes}
use Rattle.pt_disks.specs.Stops.{values, is_pending, chosen}

-- the same, one sector after the other from k on
abbrev pub picked : Writes → ℕ → List ℕ → Sectors → Sectors
picked ws k cs [] = []
picked ws k cs (s ∷ d) = chosen s (values ws k) (slice_index cs 0) ∷ picked ws (k + 1) (if is_pending ws k then drop 1 cs else cs) d
