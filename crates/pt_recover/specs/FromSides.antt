-- What one side's copy of a GPT gives alone, whatever sector 0 and the other copy say.
use Rattle.std.specs.Prelude.{◌≡◌, ℕ, length, List, codes, Option, Some, None}
use Rattle.pt_sector.specs.Sectors.{Sectors}
use Rattle.pt_sector.specs.Sentences.{no_memory, unread}
use Rattle.pt_sector.specs.declared.disk.Fault.{Fault}
use Rattle.pt_sector.specs.declared.disk.Fault.TheVariants.{Read}
use Rattle.pt_sector.specs.declared.reading.Failure.{Failure}
use Rattle.pt_sector.specs.declared.reading.Failure.TheVariants as failure
use Rattle.pt_gpt.specs.Copies.{Copy as CopyOf, SideReads, HasRoom, IsCopyFault}
use Rattle.pt_gpt.specs.Sentences.{copy_error_sentence}
use Rattle.pt_gpt.specs.declared.error.CopyError.{CopyError}
use Rattle.pt_gpt.specs.declared.error.CopyError.TheVariants as copy
use Rattle.pt_gpt.specs.declared.table.Side.{Side}
use Rattle.pt_gpt.specs.declared.table.Table.{Table}
use Rattle.pt_members.specs.Members.{places_of, IsPlace}
use Rattle.pt_members.specs.declared.layout.Body.TheVariants.{Gpt}
use Rattle.pt_members.specs.declared.layout.Layout.{Layout}
use Rattle.pt_recover.specs.Denotes.{LabelsAre}
use Rattle.pt_recover.specs.declared.side.SideError.{SideError}
use Rattle.pt_recover.specs.declared.side.SideError.TheVariants.{TooSmall, Copy, Device, Memory}

-- the layout of the side's table, with the labels in its slices
pub record SideGives (b : ℕ) (d : Sectors) (side : Side) (o : Layout) : Type 0 where
  pub count : o.sectors ≡ length d
  pub table : Table
  pub body : o.body ≡ Gpt table
  pub copy : CopyOf b d side table
  pub labels : LabelsAre d (places_of b (length d) o.body) o.labels

-- why the side gives none: too few sectors, or the first rule that its copy breaks; or the device or memory failed
abbrev pub SideGivesNone : ℕ → Sectors → Side → SideError → Type 0
SideGivesNone b d side TooSmall = ¬ HasRoom b (length d)
SideGivesNone b d side (Copy e) = HasRoom b (length d) × IsCopyFault b d side e
SideGivesNone b d side (Device at) = Unit {0}
SideGivesNone b d side Memory = Unit {0}

-- the sectors that decide it: those that decide the copy, and the label places of its slices
pub data FromSideReads (b : ℕ) (d : Sectors) (side : Side) (s : ℕ) : Type 0 where
  of_copy : HasRoom b (length d) → SideReads b d side s → FromSideReads b d side s
  of_label : (t : Table) → CopyOf b d side t → IsPlace (places_of b (length d) (Gpt t)) s → FromSideReads b d side s

-- the sector whose read failed is one of these
abbrev pub FailedInSide : (ℕ → Type 0) → SideError → Type 0
FailedInSide S (Device at) = S at.0
FailedInSide S _ = Unit {0}

-- the fault that an error carries
abbrev pub side_fault_in : SideError → Option Fault
side_fault_in (Device at) = Some (Read at)
side_fault_in _ = None

-- what is told of a copy's error, and of a failure
abbrev pub told_copy : CopyError → SideError
told_copy (copy.Device at) = Device at
told_copy copy.Memory = Memory
told_copy e = Copy e

abbrev pub told_side_failure : Failure → SideError
told_side_failure (failure.Device at) = Device at
told_side_failure failure.Memory = Memory

-- what is printed of it
abbrev pub side_error_sentence : SideError → List ℕ
side_error_sentence TooSmall = codes "fewer sectors than a GPT takes"
side_error_sentence (Copy e) = copy_error_sentence e
side_error_sentence (Device at) = unread at
side_error_sentence Memory = no_memory
