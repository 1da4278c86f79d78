-- Plans by phases: what private contracts cite.
use Rattle.std.specs.Prelude.{◌≡◌, ℕ, List, [], ◌∷◌, ◌++◌, ◌⊎◌, Option, take, Contains, Some, None}
use Rattle.pt_sector.specs.Sectors.{Writes, Sectors, Puts}
use Rattle.pt_gpt.specs.Copies.{AllFit}
use Rattle.pt_gpt.specs.declared.table.Side.TheVariants.{Primary, Backup}
use Rattle.pt_gpt.specs.declared.table.Table.{Table}
use Rattle.pt_cases.specs.Writes.{header_of, IsWrittenHeader, one_write, closing, backup_phase, IsProtectedFrom, Protects}
use Rattle.pt_members.specs.Tables.{OwnedOf, IsWithin}
use Rattle.pt_members.specs.declared.layout.Layout.{Layout}
use Rattle.pt_recover.specs.declared.trace.TracedRun.{TracedRun}
use Rattle.pt_cases.specs.Cases.{within_mbr_phases, backup_first_phases, primary_first_phases, from_mbr_phases}
use Rattle.pt_cases.specs.Unplanned.{NoneOwned}
use Rattle.pt_cases.specs.Targets.{TellDisk, HasTwoOfOne, InSectorOrder, IsChange, IsSplit, NotOneLoud, IsOneChange, NotOneChange}
use Rattle.pt_cases.specs.declared.targets.error.PlanError.{PlanError}
use Rattle.pt_cases.specs.declared.targets.error.PlanError.TheVariants.{NotOneSwitch, ReusedInOneBatch, Memory, NeedsRepair, Unsound}
use Rattle.pt_cases.specs.declared.targets.error.PlanError.TheVariants.{Device}
use Rattle.pt_cases.specs.declared.targets.target.Target.{Target}
use Rattle.pt_recover.specs.Spans.{IsIn}
use Rattle.pt_apply.specs.Plans.{writes_in}
use Rattle.pt_planner.specs.Phases.{WroteCopies}
use Rattle.pt_cases.specs.declared.targets.target.TargetKind.TheVariants.{Changes}
use Rattle.pt_planner.specs.declared.phases.copies.Order.{Order}
use Rattle.pt_planner.specs.declared.phases.copies.Order.TheVariants.{BackupFirst, PrimaryFirst, FromMbr}
use Rattle.pt_planner.specs.declared.phases.reserved.Reserved.{Reserved}
use Rattle.pt_planner.specs.declared.phases.reserved.Reserved.TheVariants.{Owned, Guarded}

-- ## What is added to writes and to phases, step by step.

-- the backup copy is added to writes
pub record AddsBackup (b n : ℕ) (t : Table) (before now : Writes) : Type 0 where
  pub header : List ℕ
  pub is_header : IsWrittenHeader b (header_of b n t Backup) header
  pub is : now ≡ before ++ backup_phase b n t header

-- the phases of the primary copy are added, with this one for its array
pub record ArePrimary (b n : ℕ) (t : Table) (array : Writes) (before now : List Writes) : Type 0 where
  pub header : List ℕ
  pub is_header : IsWrittenHeader b (header_of b n t Primary) header
  pub fit : AllFit t.entries
  pub is : now ≡ before ++ (closing b ∷ array ∷ one_write 1 header ∷ [])

-- ## What is left of some targets, as one turn or as none.

-- one is
pub record OneOwned {b : _} (o : Option Layout) (ts : List (Target b)) : Type 0 where
  pub target : Target b
  pub change : IsChange ts target
  pub owned : OwnedOf b o target.at.0

-- the targets by ascending sector, and none that changes is owned
pub record AreFree {b : _} (o : Option Layout) (ts sorted : List (Target b)) : Type 0 where
  pub order : InSectorOrder ts sorted
  pub free : NoneOwned o sorted

-- why they aren't
abbrev pub NotFree : {b : _} → Option Layout → List (Target b) → PlanError → Type 0
NotFree o ts NotOneSwitch = HasTwoOfOne ts
NotFree o ts ReusedInOneBatch = OneOwned o ts
NotFree o ts Memory = Unit {0}
NotFree o ts _ = ⊥

-- the phases of a turn with one guarded sector
pub record IsTurn {b : _} (o : Option Layout) (guarded : List TracedRun) (ts : List (Target b)) (phases : List Writes) : Type 0 where
  pub sorted : List (Target b)
  pub free : AreFree o ts sorted
  pub quiet : Writes
  pub loud : ℕ × List ℕ
  pub split : (d : Sectors) → TellDisk d sorted → IsSplit d guarded sorted quiet loud
  pub is : within_mbr_phases quiet loud phases

-- why there is none
abbrev pub NoTurn : {b : _} → Option Layout → List TracedRun → List (Target b) → PlanError → Type 0
NoTurn o guarded ts NotOneSwitch = HasTwoOfOne ts ⊎ ((sorted : List (Target _)) × AreFree o ts sorted × NotOneLoud guarded sorted)
NoTurn o guarded ts ReusedInOneBatch = OneOwned o ts
NoTurn o guarded ts Memory = Unit {0}
NoTurn o guarded ts _ = ⊥

-- the one write of a turn
pub record IsLoneTurn {b : _} (o : Option Layout) (ts : List (Target b)) (loud : ℕ × List ℕ) : Type 0 where
  pub sorted : List (Target b)
  pub free : AreFree o ts sorted
  pub change : (d : Sectors) → TellDisk d sorted → IsOneChange d sorted loud

-- why there is none
abbrev pub NoLoneTurn : {b : _} → Option Layout → List (Target b) → PlanError → Type 0
NoLoneTurn o ts NotOneSwitch = HasTwoOfOne ts ⊎ ((sorted : List (Target _)) × AreFree o ts sorted × NotOneChange sorted)
NoLoneTurn o ts ReusedInOneBatch = OneOwned o ts
NoLoneTurn o ts Memory = Unit {0}
NoLoneTurn o ts _ = ⊥

-- ## The phases of both copies in an order, what there may be against them, and what they have where there is nothing.

-- the last phase: sector 0 where it was given and isn't protective yet
abbrev pub Closes : ℕ → Option (List ℕ) → List Writes → Type 0
Closes n (Some old) last = Protects n old last
Closes n None last = last ≡ []

-- both copies on n sectors in this order, with these labels
abbrev pub Arranged : (b : ℕ) → ℕ → Table → Writes → Order b → List Writes → Type 0
Arranged b n t labels (BackupFirst given) phases =
    (last : List Writes) × Closes n given last × WroteCopies b n t (λ p k. backup_first_phases b n t p k labels last) phases
Arranged b n t labels (PrimaryFirst given) phases =
    (last : List Writes) × Closes n given last × WroteCopies b n t (λ p k. primary_first_phases b n t p k labels last) phases
Arranged b n t labels (FromMbr old) phases =
    (new : List ℕ) × IsProtectedFrom n old new × WroteCopies b n t (λ p k. from_mbr_phases b n t p k labels new) phases

-- how many phases come before the one with which the disk turns
abbrev pub phases_before : {b : ℕ} → Order b → ℕ
phases_before (BackupFirst given) = 1
phases_before (PrimaryFirst given) = 2
phases_before (FromMbr old) = 1

-- their writes
abbrev pub writes_before : {b : ℕ} → Order b → List Writes → Writes
writes_before order phases = writes_in (take (phases_before order) phases)

-- one of the writes is of a sector of which P holds
abbrev pub Touches : (ℕ → Type 0) → Writes → Type 0
Touches P ws = (s : ℕ) × (v : List ℕ) × Puts ws s v × P s

-- a target of a label that changes, of whose sector P holds
abbrev pub Alters : {b : ℕ} → (ℕ → Type 0) → List (Target b) → Type 0
Alters P ts = (t : Target _) × Contains ts t × (t.kind ≡ Changes) × P t.at.0

-- why phases with these targets are no plan
abbrev pub RefusedBy : {b : ℕ} → Option Layout → List TracedRun → Order b → List (Target b) → List Writes → PlanError → Type 0
RefusedBy {b = b} old guarded order ts phases ReusedInOneBatch = Touches (OwnedOf b old) (writes_in phases) ⊎ Alters (OwnedOf b old) ts
RefusedBy {b = b} old guarded order ts phases NotOneSwitch =
    (¬ Touches (OwnedOf b old) (writes_in phases)) × (¬ Alters (OwnedOf b old) ts)
    × (Alters (λ s. Unit {0}) ts ⊎ Touches (IsIn guarded) (writes_before order phases))
RefusedBy old guarded order ts phases NeedsRepair = ⊥
RefusedBy old guarded order ts phases Memory = ⊥
RefusedBy old guarded order ts phases (Device fault) = ⊥
RefusedBy old guarded order ts phases (Unsound finding) = ⊥

-- there is nothing against them
pub record Passes {b : ℕ} (old : Option Layout) (guarded : List TracedRun) (order : Order b) (ts : List (Target b))
    (phases : List Writes) : Type 0 where
  pub free : ¬ Touches (OwnedOf b old) (writes_in phases)
  pub settled : (t : Target b) → Contains ts t → ¬ (t.kind ≡ Changes)
  pub unguarded : ¬ Touches (IsIn guarded) (writes_before order phases)

-- ## Sectors that a plan may not write, or not yet.

-- the sector is one of them
abbrev pub IsAnyReserved : ℕ → Reserved → ℕ → Type 0
IsAnyReserved b (Owned layout reach) s = IsWithin reach s × OwnedOf b layout.now s
IsAnyReserved b (Guarded trace) s = IsIn trace.now s
