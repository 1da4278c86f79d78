-- The sectors of a trace.
use Rattle.std.specs.Prelude.{ℕ, ◌<◌, ◌≤◌, ◌+◌, ◌⊎◌, ◌↔◌, List, [], ◌∷◌}
use Rattle.pt_recover.specs.declared.trace.TracedRun.{TracedRun}

abbrev pub InRun : TracedRun → ℕ → Type 0
InRun r s = (r.first ≤ s) × (s ≤ r.last)

-- the sector is in one of these runs
unfoldable pub IsIn : List TracedRun → ℕ → Type 0
IsIn [] s = ⊥
IsIn (r ∷ rs) s = InRun r s ⊎ IsIn rs s

abbrev pub Follows : TracedRun → List TracedRun → Type 0
Follows r [] = Unit {0}
Follows r (q ∷ qs) = r.last + 1 < q.first

-- the runs ascend, and no two of them touch
unfoldable pub Apart : List TracedRun → Type 0
Apart [] = Unit {0}
Apart (r ∷ rs) = (r.first ≤ r.last) × Follows r rs × Apart rs

-- new has the sectors of old, and those of S
abbrev pub Adds : List TracedRun → List TracedRun → (ℕ → Type 0) → Type 0
Adds old new S = (s : ℕ) → IsIn new s ↔ (IsIn old s ⊎ S s)
