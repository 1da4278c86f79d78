-- The plan of an MBR where a disk denotes none: what private contracts cite.
use Rattle.std.specs.Prelude.{◌≡◌, ◌≢◌, ◌⊎◌, ℕ, ◌<◌, List, [], ◌∷◌, ◌++◌, Option, Some}
use Rattle.pt_sector.specs.Sectors.{Sectors, Writes}
use Rattle.pt_apply.specs.Plans.{writes_in}
use Rattle.pt_members.specs.declared.layout.Body.TheVariants.{Gpt, Mbr}
use Rattle.pt_members.specs.declared.layout.Layout.{Layout}
use Rattle.pt_gpt.specs.declared.table.Table.{Table}
use Rattle.pt_mbr.specs.declared.ebr.Ebr.{Ebr}
use Rattle.pt_mbr.specs.declared.record.Record.{Record}
use Rattle.pt_cases.specs.Cases.{HadMbr}
use Rattle.pt_cases.specs.NewMbr.{Zeroes, WritesOwned, before_last}
use Rattle.pt_cases.specs.declared.targets.error.PlanError.{PlanError}
use Rattle.pt_cases.specs.declared.targets.error.PlanError.TheVariants.{NotOneSwitch, ReusedInOneBatch}
use Rattle.pt_planner.specs.inner.Phases.{Touches}
use Rattle.pt_recover.specs.Spans.{IsIn}
use Rattle.pt_recover.specs.declared.trace.TracedRun.{TracedRun}

-- ## Which layouts are made by it.

-- o is a GPT
pub record WasGpt (o : Option Layout) : Type 0 where
  pub old : Layout
  pub table : Table
  pub is_old : o ≡ Some old
  pub was : old.body ≡ Gpt table

-- p is an MBR, and o is none, on n sectors, of which there is one
pub record IsFirstMbr (n : ℕ) (o : Option Layout) (p : Layout) : Type 0 where
  pub some : 0 < n
  pub records : List (Option Record)
  pub chain : List Ebr
  pub body : p.body ≡ Mbr records chain
  pub other : ¬ HadMbr o

-- ## The phases up to the turn.

-- these phases, or where there are none one of these writes
abbrev pub IsOr : List Writes → Writes → List Writes → Type 0
IsOr phases ws now = ((phases ≡ []) × (now ≡ ws ∷ [])) ⊎ ((phases ≢ []) × (now ≡ phases))

-- ## What there may be against the phases up to the turn.

-- no write of them is of a sector that o owns, and none before the last phase is of one of these
pub record IsFree (b : ℕ) (o : Option Layout) (trace : List TracedRun) (phases : List Writes) : Type 0 where
  pub unowned : ¬ WritesOwned b o (writes_in phases)
  pub unread : ¬ Touches (IsIn trace) (before_last phases)

-- why there is one
abbrev pub IsHeld : ℕ → Option Layout → List TracedRun → List Writes → PlanError → Type 0
IsHeld b o trace phases ReusedInOneBatch = WritesOwned b o (writes_in phases)
IsHeld b o trace phases NotOneSwitch = (¬ WritesOwned b o (writes_in phases)) × Touches (IsIn trace) (before_last phases)
IsHeld b o trace phases _ = ⊥

-- ## The phases behind the turn.

-- the phase that zeroes the sector is added, where it is to be
abbrev pub AddsZeroes : ℕ → Sectors → Option Layout → Layout → ℕ → List Writes → List Writes → Type 0
AddsZeroes b d o p s before now = (more : List Writes) × Zeroes b d o p s more × (now ≡ before ++ more)
