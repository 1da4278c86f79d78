-- What a batch of words, a layout or a repair wants.
use Rattle.std.specs.Prelude.{◌≡◌, ℕ, List, [], ◌∷◌, Option, Result, Some, Ok}
use Rattle.pt_sector.specs.Sectors.{Sectors, Writes}
use Rattle.pt_sector.specs.Device.{Told}
use Rattle.pt_guid.specs.declared.guid.Guid.{Guid}
use Rattle.pt_recover.specs.Denotes.{IsReason, Denotes}
use Rattle.pt_members.specs.declared.layout.Layout.{Layout}
use Rattle.pt_layout.specs.Healthy.{Healthy, VerdictReads}
use Rattle.pt_edit.specs.Edited.{Edited}
use Rattle.pt_words.specs.declared.error.Refusal.{Refusal}
use Rattle.pt_words.specs.declared.word.Edit.{Edit}
use Rattle.pt_words.specs.declared.word.Edit.TheVariants.{Align, Empty}
use Rattle.pt_members.specs.Tables.{OwnedOf, TableOf}
use Rattle.pt_cases.specs.Kept.{IsPlanBy}
use Rattle.pt_cases.specs.declared.primary.Primary.{Primary as Choice}
use Rattle.pt_cases.specs.NewMbr.{UnplannedBy}
use Rattle.pt_cases.specs.Unplanned.{IsUnmendable}
use Rattle.pt_plan.specs.declared.error.CommitError.{CommitError}
use Rattle.pt_plan.specs.declared.repair_error.RepairError.{RepairError}
use Rattle.pt_plan.specs.Commits.{Committed, Planned, Ready, Refuses}
use Rattle.pt_plan.specs.Repairs.{Repaired, MendPlanned, ReadyToMend, RefusesToMend}
use Rattle.pt_sector.specs.declared.disk.Fault.TheVariants.{Read}
use Rattle.pt_check.specs.Answers.{CheckReads}
use Rattle.pt_planner.specs.PlanReads.{PlanReadsBy, MakeReadsBy}
use Rattle.pt_plan.specs.declared.error.CommitError.TheVariants as commit
use Rattle.pt_plan.specs.declared.repair_error.RepairError.TheVariants as repair

-- ## Batches of words, and what a commit of one does.

-- the words of a commit, and the GUIDs that they may take
pub record Words : Type 0 where
  pub edits : List Edit
  pub guids : List Guid

-- the first word but `a` is `o`
abbrev pub MakesTable : List Edit → Type 0
MakesTable [] = ⊥
MakesTable (Align k ∷ words) = MakesTable words
MakesTable (Empty ∷ words) = Unit {0}
MakesTable (word ∷ words) = ⊥

abbrev pub Makes : Words → Type 0
Makes batch = MakesTable batch.edits

-- what a batch makes of what a disk of n sectors denotes
abbrev pub EditedBy : ℕ → ℕ → Option Layout → Words → Result Layout Refusal → Type 0
EditedBy b n old batch result = Edited b n old batch.edits batch.guids result

-- a change of a layout: what words make of it, or another layout in its place, wherever that comes from
pub data Change : Type 0 where
  by_words : Words → Change
  to_layout : Layout → Change

-- what a change makes of what a disk of n sectors denotes. A layout in its place is never refused
abbrev pub ChangedBy : ℕ → ℕ → Option Layout → Change → Result Layout Refusal → Type 0
ChangedBy b n old (by_words batch) result = EditedBy b n old batch result
ChangedBy b n old (to_layout wanted) result = result ≡ Ok wanted

-- it may start from nothing: words where they make a table, and a layout always
abbrev pub FromNothing : Change → Type 0
FromNothing (by_words batch) = Makes batch
FromNothing (to_layout wanted) = Unit {0}

-- a commit of the change to a disk of n sectors of b bytes, by what becomes of its primary copy
abbrev pub CommitsChange : Choice → ℕ → ℕ → Change → Result Unit CommitError → Told → Told → Type 0
CommitsChange primary b n =
    Committed (Denotes b) (IsReason b) FromNothing (ChangedBy b n) (IsPlanBy primary b) (UnplannedBy primary b) (Healthy b) (TableOf b)
    (OwnedOf b)

-- a commit of it, whatever becomes of the primary copy
abbrev pub CommitsAny : ℕ → ℕ → Change → Result Unit CommitError → Told → Told → Type 0
CommitsAny b n change result old new = (primary : Choice) × CommitsChange primary b n change result old new

-- a plan for the change
abbrev pub IsPlannedChange : Choice → ℕ → ℕ → Change → Sectors → List Writes → Type 0
IsPlannedChange primary b n =
    Planned (Denotes b) (IsReason b) FromNothing (ChangedBy b n) (IsPlanBy primary b) (UnplannedBy primary b) (Healthy b) (TableOf b)
    (OwnedOf b)

-- a checked plan for it
abbrev pub IsReadyChange : Choice → ℕ → ℕ → Change → Sectors → List Writes → Type 0
IsReadyChange primary b n =
    Ready (Denotes b) (IsReason b) FromNothing (ChangedBy b n) (IsPlanBy primary b) (UnplannedBy primary b) (Healthy b) (TableOf b)
    (OwnedOf b)

-- why it is refused
abbrev pub IsRefusedChange : Choice → ℕ → ℕ → Change → Sectors → CommitError → Type 0
IsRefusedChange primary b n =
    Refuses (Denotes b) (IsReason b) FromNothing (ChangedBy b n) (IsPlanBy primary b) (UnplannedBy primary b) (Healthy b) (TableOf b)
    (OwnedOf b)

-- the same of a batch of words
abbrev pub Commits : Choice → ℕ → ℕ → Words → Result Unit CommitError → Told → Told → Type 0
Commits primary b n batch = CommitsChange primary b n (by_words batch)

abbrev pub IsPlanned : Choice → ℕ → ℕ → Words → Sectors → List Writes → Type 0
IsPlanned primary b n batch = IsPlannedChange primary b n (by_words batch)

abbrev pub IsReady : Choice → ℕ → ℕ → Words → Sectors → List Writes → Type 0
IsReady primary b n batch = IsReadyChange primary b n (by_words batch)

abbrev pub IsRefusal : Choice → ℕ → ℕ → Words → Sectors → CommitError → Type 0
IsRefusal primary b n batch = IsRefusedChange primary b n (by_words batch)

-- a repair of a disk of n sectors of b bytes
abbrev pub Repairs : Choice → ℕ → ℕ → Result Unit RepairError → Told → Told → Type 0
Repairs primary b n =
    Repaired (Denotes b) (IsReason b) (ChangedBy b n) (IsPlanBy primary b) (IsUnmendable b) (Healthy b) (TableOf b) (OwnedOf b)

-- a repair, whatever becomes of the primary copy
abbrev pub RepairsAny : ℕ → ℕ → Result Unit RepairError → Told → Told → Type 0
RepairsAny b n result old new = (primary : Choice) × Repairs primary b n result old new

-- a plan for a repair
abbrev pub IsMendPlan : Choice → ℕ → Sectors → List Writes → Type 0
IsMendPlan primary b = MendPlanned (Denotes b) (IsPlanBy primary b) (IsUnmendable b)

-- a checked plan for a repair
abbrev pub IsReadyToMend : Choice → ℕ → Sectors → List Writes → Type 0
IsReadyToMend primary b = ReadyToMend (Denotes b) (IsPlanBy primary b) (IsUnmendable b) (Healthy b) (TableOf b) (OwnedOf b)

-- why a disk isn't repaired
abbrev pub IsMendRefusal : ℕ → Sectors → RepairError → Type 0
IsMendRefusal b = RefusesToMend (Denotes b) (IsReason b) (IsUnmendable b)

-- ## Which sectors commits and a repair read.

-- if the fault is a read's, its sector is one of these
abbrev pub FailedInCommit : (ℕ → Type 0) → CommitError → Type 0
FailedInCommit S (commit.Device (Read at)) = S at.0
FailedInCommit S _ = Unit {0}

abbrev pub FailedInRepair : (ℕ → Type 0) → RepairError → Type 0
FailedInRepair S (repair.Device (Read at)) = S at.0
FailedInRepair S _ = Unit {0}

-- the sectors that a plan for the batch reads on a disk of n sectors: those that decide a verdict of it, and those of a plan for what
-- the words make of its layout
pub data EditReads (primary : Choice) (b n : ℕ) (batch : Words) (d : Sectors) (s : ℕ) : Type 0 where
  verdict : VerdictReads b d s → EditReads primary b n batch d s
  plan : (old : Option Layout) (wanted : Layout) → Denotes b d old → EditedBy b n old batch (Ok wanted) → PlanReadsBy primary b n wanted s
      → EditReads primary b n batch d s

-- the sectors that a commit reads: these, and those of a check of that plan
pub data CommitReads (primary : Choice) (b n : ℕ) (batch : Words) (d : Sectors) (s : ℕ) : Type 0 where
  edit : EditReads primary b n batch d s → CommitReads primary b n batch d s
  check : (phases : List Writes) → IsPlanned primary b n batch d phases → CheckReads b d phases s → CommitReads primary b n batch d s

-- the sectors that a commit of a layout reads: those of a plan for it, and those of a check of that plan
pub data LayoutReads (primary : Choice) (b : ℕ) (wanted : Layout) (d : Sectors) (s : ℕ) : Type 0 where
  layout_plan : MakeReadsBy primary b d wanted s → LayoutReads primary b wanted d s
  layout_check : (phases : List Writes) → IsPlanBy primary b d wanted phases → CheckReads b d phases s → LayoutReads primary b wanted d s

-- the sectors that a plan for a repair reads: those that decide a verdict of the disk, and those of a plan for its own layout
pub data MendReads (primary : Choice) (b n : ℕ) (d : Sectors) (s : ℕ) : Type 0 where
  mend_verdict : VerdictReads b d s → MendReads primary b n d s
  mend_plan : (layout : Layout) → Denotes b d (Some layout) → PlanReadsBy primary b n layout s → MendReads primary b n d s

-- the sectors that a repair reads: these, and those of a check of that plan
pub data RepairReads (primary : Choice) (b n : ℕ) (d : Sectors) (s : ℕ) : Type 0 where
  mend : MendReads primary b n d s → RepairReads primary b n d s
  mend_check : (phases : List Writes) → IsMendPlan primary b d phases → CheckReads b d phases s → RepairReads primary b n d s
