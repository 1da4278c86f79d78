-- Sectors and what they must hold, in their order: what private contracts cite.
use Rattle.std.specs.Prelude.{◌≡◌, ℕ, ◌+◌, ◌<◌, List, [], ◌∷◌, length, filter, Bool, true, false, not, ◌&&◌, nat_le, bytes_eq}
use Rattle.std.specs.Prelude.{Option, Some, None}
use Rattle.std.specs.List.{list_any}
use Rattle.pt_sector.specs.Sectors.{Writes}
use Rattle.pt_recover.specs.declared.trace.TracedRun.{TracedRun}
use Rattle.pt_cases.specs.Targets.{targeted, sector_of}
use Rattle.pt_cases.specs.declared.targets.target.Target.{Target}
use Rattle.pt_cases.specs.declared.targets.target.TargetKind.{TargetKind}
use Rattle.pt_cases.specs.declared.targets.target.TargetKind.TheVariants.{Stays, New, Changes}
use Rattle.pt_cases.specs.declared.targets.writes.Choice.{Choice}
use Rattle.pt_cases.specs.declared.targets.writes.Choice.TheVariants.{Unmet, Loud, Quiet, UnreadNew}

-- ## Targets in the order of their sectors, and two of one sector.

-- two neighbours are of one sector
abbrev pub HasTwinTargets : {b : ℕ} → List (Target b) → Type 0
HasTwinTargets ts = (k : ℕ) × (k + 1 < length ts) × (sector_of ts k ≡ sector_of ts (k + 1))

-- ## The targets that are chosen, and their writes.

-- whether its sector holds it already
abbrev pub is_met : {b : ℕ} → Target b → Bool
is_met t = bytes_eq t.bytes t.under

-- whether the sector is in one of these runs
abbrev pub is_in : List TracedRun → ℕ → Bool
is_in runs s = list_any (λ (r : TracedRun). nat_le r.first s && nat_le s r.last) runs

abbrev pub is_new : TargetKind → Bool
is_new Stays = false
is_new New = true
is_new Changes = false

abbrev pub is_chosen : {b : ℕ} → Choice → Target b → Bool
is_chosen Unmet t = not (is_met t)
is_chosen (Loud guarded) t = not (is_met t) && is_in guarded.now t.at.0
is_chosen (Quiet guarded) t = not (is_met t) && not (is_in guarded.now t.at.0)
is_chosen (UnreadNew guarded) t = is_new t.kind && not (is_met t && is_in guarded.now t.at.0)

-- the writes of those that are chosen, in their order
abbrev pub chosen_writes : {b : ℕ} → Choice → List (Target b) → Writes
chosen_writes choice ts = targeted (filter (is_chosen choice) ts)

-- the element of a list that has no other
abbrev pub only : {X : Type 0} → List X → Option X
only [] = None
only (x ∷ []) = Some x
only (x ∷ y ∷ rest) = None
