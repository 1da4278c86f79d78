-- What is wanted of a disk: what words make of its layout, a layout, or its own.
use Rattle.std.specs.Prelude.{ℕ, List, Result, Ok, Err}
use Rattle.pt_sector.specs.Sectors.{Sectors, Writes}
use Rattle.pt_sector.specs.Device.{Told}
use Rattle.pt_cases.specs.Kept.{IsPlanBy}
use Rattle.pt_cases.specs.declared.primary.Primary.{Primary as Choice}
use Rattle.pt_planner.specs.PlanReads.{MakeReadsBy}
use Rattle.pt_plan.specs.Batches.{IsPlanned, IsReady, IsRefusal, IsMendPlan, IsReadyToMend, IsMendRefusal, EditReads, CommitReads}
use Rattle.pt_plan.specs.Batches.{LayoutReads, MendReads, RepairReads, Commits, Repairs}
use Rattle.pt_plan.specs.Layouts.{IsReadyFor, IsRefusalOf, CommitsLayout}
use Rattle.pt_plan.specs.Repairs.{repair_told}
use Rattle.pt_plan.specs.declared.error.CommitError.{CommitError}
use Rattle.pt_plan.specs.declared.repair_error.RepairError.{RepairError}
use Rattle.pt_plan.specs.declared.wanted.Wanted.{Wanted}
use Rattle.pt_plan.specs.declared.wanted.Wanted.TheVariants.{Edited, Own}
use Rattle.pt_plan.specs.declared.wanted.Wanted.TheVariants as wanted

-- ## By what is wanted of a disk of n sectors, and by what becomes of its primary copy.

-- a plan for it
abbrev pub IsPlanOf : Choice → ℕ → ℕ → Wanted → Sectors → List Writes → Type 0
IsPlanOf primary b n (Edited edits guids) d phases = IsPlanned primary b n (record { edits = edits.now; guids = guids.now }) d phases
IsPlanOf primary b n (wanted.Layout layout) d phases = IsPlanBy primary b d layout.now phases
IsPlanOf primary b n Own d phases = IsMendPlan primary b d phases

-- a checked plan for it
abbrev pub IsReadyOf : Choice → ℕ → ℕ → Wanted → Sectors → List Writes → Type 0
IsReadyOf primary b n (Edited edits guids) d phases = IsReady primary b n (record { edits = edits.now; guids = guids.now }) d phases
IsReadyOf primary b n (wanted.Layout layout) d phases = IsReadyFor primary b n layout.now d phases
IsReadyOf primary b n Own d phases = IsReadyToMend primary b d phases

-- why there is none
abbrev pub IsRefusedBy : Choice → ℕ → ℕ → Wanted → Sectors → CommitError → Type 0
IsRefusedBy primary b n (Edited edits guids) d e = IsRefusal primary b n (record { edits = edits.now; guids = guids.now }) d e
IsRefusedBy primary b n (wanted.Layout layout) d e = IsRefusalOf primary b n layout.now d e
IsRefusedBy primary b n Own d e = IsMendRefusal b d (repair_told e)

-- the sectors that a plan for it reads
abbrev pub PlanOfReads : Choice → ℕ → ℕ → Wanted → Sectors → ℕ → Type 0
PlanOfReads primary b n (Edited edits guids) d s = EditReads primary b n (record { edits = edits.now; guids = guids.now }) d s
PlanOfReads primary b n (wanted.Layout layout) d s = MakeReadsBy primary b d layout.now s
PlanOfReads primary b n Own d s = MendReads primary b n d s

-- and with a check of that plan
abbrev pub WriteOfReads : Choice → ℕ → ℕ → Wanted → Sectors → ℕ → Type 0
WriteOfReads primary b n (Edited edits guids) d s = CommitReads primary b n (record { edits = edits.now; guids = guids.now }) d s
WriteOfReads primary b n (wanted.Layout layout) d s = LayoutReads primary b layout.now d s
WriteOfReads primary b n Own d s = RepairReads primary b n d s

-- what a repair answers where the steps answer so
abbrev pub as_repair : Result Unit CommitError → Result Unit RepairError
as_repair (Ok x) = Ok x
as_repair (Err e) = Err (repair_told e)

-- a commit of it that answered so
abbrev pub CommitsWanted : Choice → ℕ → ℕ → Wanted → Result Unit CommitError → Told → Told → Type 0
CommitsWanted primary b n (Edited edits guids) result = Commits primary b n (record { edits = edits.now; guids = guids.now }) result
CommitsWanted primary b n (wanted.Layout layout) result = CommitsLayout primary b n layout.now result
CommitsWanted primary b n Own result = Repairs primary b n (as_repair result)
