-- Which sectors the planner reads.
use Rattle.std.specs.Prelude.{◌≡◌, ◌⊎◌, ◌-◌, ℕ, List, length, Option}
use Rattle.pt_sector.specs.Device.{IsReadIn}
use Rattle.pt_sector.specs.Sectors.{Sectors}
use Rattle.pt_mbr.specs.Chain.{StandsAt}
use Rattle.pt_mbr.specs.declared.ebr.Ebr.{Ebr}
use Rattle.pt_mbr.specs.declared.record.Record.{Record}
use Rattle.pt_members.specs.Members.{places_of, IsPlace}
use Rattle.pt_members.specs.declared.layout.Body.TheVariants.{Mbr, Gpt}
use Rattle.pt_members.specs.declared.layout.Layout.{Layout}
use Rattle.pt_layout.specs.Healthy.{VerdictReads}
use Rattle.pt_cases.specs.Writes.{IsOfCopy}
use Rattle.pt_cases.specs.declared.primary.Primary.{Primary as Choice}
use Rattle.pt_cases.specs.declared.primary.Primary.TheVariants as choice
use Rattle.pt_cases.specs.declared.targets.error.PlanError.{PlanError}
use Rattle.pt_cases.specs.declared.targets.error.PlanError.TheVariants.{Device}
use Rattle.pt_gpt.specs.declared.table.Table.{Table}

-- the fault is a read's, and its sector one of these
abbrev pub FailedInPlan : (ℕ → Type 0) → PlanError → Type 0
FailedInPlan S (Device fault) = IsReadIn S fault
FailedInPlan S _ = Unit {0}

-- what a plan for a layout may read on a disk of n sectors, once it is known what the disk denotes: sector 0, the label places of the
-- layout, and the places of its extended boot records
pub data PlanReads (b n : ℕ) (wanted : Layout) (s : ℕ) : Type 0 where
  head : s ≡ 0 → PlanReads b n wanted s
  label : IsPlace (places_of b n wanted.body) s → PlanReads b n wanted s
  ebr : (records : List (Option Record)) (chain : List Ebr) → wanted.body ≡ Mbr records chain → StandsAt s chain → PlanReads b n wanted s

-- for a layout that is a GPT, the sectors of its two copies
abbrev pub IsOfItsCopies : ℕ → ℕ → Layout → ℕ → Type 0
IsOfItsCopies b n wanted s = (t : Table) × (wanted.body ≡ Gpt t) × IsOfCopy b n s

-- for a layout that is an MBR, the sectors in which the headers of a GPT may have been
abbrev pub IsOfOldHeaders : ℕ → Layout → ℕ → Type 0
IsOfOldHeaders n wanted s =
    (records : List (Option Record)) × (chain : List Ebr) × (wanted.body ≡ Mbr records chain) × ((s ≡ 1) ⊎ (s ≡ n - 1))

-- a plan that keeps the primary copy: these, too
abbrev pub PlanReadsBy : Choice → ℕ → ℕ → Layout → ℕ → Type 0
PlanReadsBy choice.Zeroed b n wanted s = PlanReads b n wanted s
PlanReadsBy choice.Kept b n wanted s = PlanReads b n wanted s ⊎ (IsOfItsCopies b n wanted s ⊎ IsOfOldHeaders n wanted s)

-- and where what the disk denotes isn't known: those that decide a verdict of it, too
abbrev pub MakeReadsBy : Choice → ℕ → Sectors → Layout → ℕ → Type 0
MakeReadsBy primary b d wanted s = VerdictReads b d s ⊎ PlanReadsBy primary b (length d) wanted s

abbrev pub MakeReads : ℕ → Sectors → Layout → ℕ → Type 0
MakeReads b d wanted s = MakeReadsBy choice.Zeroed b d wanted s
