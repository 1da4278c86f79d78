-- A disk that takes the table of a draft.
use Rattle.std.specs.Prelude.{◌≡◌, ◌⊎◌, ℕ, List, Option, None, Result, Ok, Err}
use Rattle.pt_guid.specs.declared.guid.Guid.{Guid}
use Rattle.pt_sector.specs.Sectors.{Sectors, Writes}
use Rattle.pt_sector.specs.Device.{Told}
use Rattle.pt_sector.specs.declared.disk.Fault.{Fault}
use Rattle.pt_sector.specs.declared.disk.Fault.TheVariants.{Read}
use Rattle.pt_members.specs.declared.layout.Layout.{Layout}
use Rattle.pt_recover.specs.Denotes.{Denotes}
use Rattle.pt_cases.specs.Kept.{IsPlanBy}
use Rattle.pt_cases.specs.declared.primary.Primary.{Primary as Choice}
use Rattle.pt_plan.specs.Commits.{commit_fault_in, HidesNoFailure}
use Rattle.pt_plan.specs.Layouts.{CommitsLayout, IsRefusalOf}
use Rattle.pt_plan.specs.declared.error.CommitError.{CommitError}
use Rattle.pt_plan.specs.declared.error.CommitError.TheVariants as commit
use Rattle.pt_drafts.specs.declared.draft.Draft.{Draft}
use Rattle.pt_drafts.specs.declared.fault.DraftError.{DraftError}
use Rattle.pt_drafts.specs.declared.fault.DraftError.TheVariants as draft_error
use Rattle.pt_drafts.specs.declared.fault.TextFault.{TextFault}
use Rattle.pt_drafts.specs.Keys.{fault_sentence}
use Rattle.pt_plan.specs.Sentences.{commit_error_sentence}
use Rattle.pt_set.specs.declared.error.SetError.{SetError}
use Rattle.pt_set.specs.declared.error.SetError.TheVariants.{Fault as Faulty, Disk}
use Rattle.pt_set.specs.Layouts.{IsTableOf}

abbrev pub draft_failure : DraftError → SetError
draft_failure (draft_error.Fault fault) = Faulty fault
draft_failure draft_error.Memory = Disk commit.Memory

-- what it prints
abbrev pub set_error_sentence : SetError → List ℕ
set_error_sentence (Faulty fault) = fault_sentence fault
set_error_sentence (Disk error) = commit_error_sentence error

-- the fault of the disk that an error carries
abbrev pub set_fault_in : SetError → Option Fault
set_fault_in (Faulty fault) = None
set_fault_in (Disk error) = commit_fault_in error

abbrev pub SetHidesNoFailure : SetError → Type 0
SetHidesNoFailure (Faulty fault) = Unit {0}
SetHidesNoFailure (Disk error) = HidesNoFailure error

-- a read failed, or there was no memory
abbrev pub IsUnread : CommitError → Type 0
IsUnread (commit.Device (Read at)) = Unit {0}
IsUnread commit.Memory = Unit {0}
IsUnread _ = ⊥

-- the layout that the draft makes of what a disk with these sectors denotes, or its first fault
abbrev pub IsMadeFrom : ℕ → ℕ → Sectors → List Guid → Draft → Result Layout TextFault → Type 0
IsMadeFrom b n d fresh draft r = (old : Option Layout) × Denotes b d old × IsTableOf b n old fresh draft r

abbrev pub IsWanted : ℕ → ℕ → Sectors → List Guid → Draft → Layout → Type 0
IsWanted b n d fresh draft wanted = IsMadeFrom b n d fresh draft (Ok wanted)

-- a plan for it
abbrev pub IsPlanFor : Choice → ℕ → ℕ → Sectors → List Guid → Draft → List Writes → Type 0
IsPlanFor primary b n d fresh draft phases = (wanted : Layout) × IsWanted b n d fresh draft wanted × IsPlanBy primary b d wanted phases

-- why there is none
abbrev pub NotPlanned : Choice → ℕ → ℕ → Sectors → List Guid → Draft → SetError → Type 0
NotPlanned primary b n d fresh draft (Faulty fault) = IsMadeFrom b n d fresh draft (Err fault)
NotPlanned primary b n d fresh draft (Disk error) =
    IsUnread error ⊎ ((wanted : Layout) × IsWanted b n d fresh draft wanted × IsRefusalOf primary b n wanted d error)

-- the disk takes it, as it takes a layout; or it is as it was, or what a refusal or a failure of that left
abbrev pub Becomes : Choice → ℕ → ℕ → List Guid → Draft → Result Unit SetError → Told → Told → Type 0
Becomes primary b n fresh draft (Ok x) old new =
    (wanted : Layout) × IsWanted b n old.seen fresh draft wanted × CommitsLayout primary b n wanted (Ok x) old new
Becomes primary b n fresh draft (Err (Faulty fault)) old new = IsMadeFrom b n old.seen fresh draft (Err fault) × (new ≡ old)
Becomes primary b n fresh draft (Err (Disk error)) old new = (IsUnread error × (new ≡ old))
    ⊎ ((wanted : Layout) × IsWanted b n old.seen fresh draft wanted × CommitsLayout primary b n wanted (Err error) old new)
