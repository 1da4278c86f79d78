-- A disk that becomes like another one, with data carried before its table changes.
use Rattle.std.specs.Prelude.{◌≡◌, ◌⊎◌, ℕ, List, Option, Some, None, Result, Ok, Err}
use Rattle.pt_sector.specs.Sectors.{Sectors}
use Rattle.pt_sector.specs.Device.{Told, LeavesOnly}
use Rattle.pt_sector.specs.declared.address.Extent.{Extent}
use Rattle.pt_sector.specs.declared.disk.Fault.{Fault}
use Rattle.pt_sector.specs.declared.disk.Fault.TheVariants.{Read}
use Rattle.pt_apply.specs.Plans.{Settled, Keeps}
use Rattle.pt_members.specs.Tables.{OwnedOf, TableOf}
use Rattle.pt_recover.specs.Denotes.{Denotes, SameMeaning}
use Rattle.pt_layout.specs.Healthy.{Healthy}
use Rattle.pt_members.specs.declared.layout.Layout.{Layout}
use Rattle.pt_cases.specs.declared.primary.Primary.{Primary as Choice}
use Rattle.pt_plan.specs.Layouts.{BecomesLike, LikeHidesNoFailure, NotLike as IsNotLike}
use Rattle.pt_plan.specs.Layouts.{fault_in_disk as like_fault, fault_in_other as like_other}
use Rattle.pt_plan.specs.declared.like_error.LikeError.{LikeError}
use Rattle.pt_carry.specs.Data.{IsIn, HasPart, HasData, IsCarried, MayCarry, FirstUnfit}
use Rattle.pt_carry.specs.declared.error.CarryError.{CarryError}
use Rattle.pt_carry.specs.declared.error.CarryError.TheVariants.{NotLike, Refused, Unread, Device, Differs, Table}

-- ## Errors: their numbers, and the failures of the device that go with them.

abbrev pub carry_error_number : CarryError → ℕ
carry_error_number (NotLike error) = 1
carry_error_number (Refused at why) = 2
carry_error_number (Unread at) = 3
carry_error_number (Device fault) = 4
carry_error_number (Differs at) = 5
carry_error_number (Table error) = 6

-- the fault of the disk, and of the other one, that an error carries
abbrev pub fault_in_disk : CarryError → Option Fault
fault_in_disk (NotLike error) = like_fault error
fault_in_disk (Device fault) = Some fault
fault_in_disk (Table error) = like_fault error
fault_in_disk _ = None

abbrev pub fault_in_other : CarryError → Option Fault
fault_in_other (NotLike error) = like_other error
fault_in_other (Unread at) = Some (Read at)
fault_in_other (Table error) = like_other error
fault_in_other _ = None

-- neither a fault of the disk nor lack of memory is reported within another error
abbrev pub CarryHidesNoFailure : CarryError → Type 0
CarryHidesNoFailure (NotLike error) = LikeHidesNoFailure error
CarryHidesNoFailure (Table error) = LikeHidesNoFailure error
CarryHidesNoFailure _ = Unit {0}

-- ## What a call does to the disk. The runs are taken from e.

-- some of the data may have been written, and nothing else: since old a stop leaves what it could leave then, or old's disk with part
-- of the data
pub record CarriedPart (b : ℕ) (runs : List Extent) (e : Sectors) (old new : Told) : Type 0 where
  pub may : MayCarry b runs e old.seen
  pub seen : HasPart runs e old.seen new.seen
  pub stops : LeavesOnly old new (HasPart runs e old.seen)

-- all of the data was written, it is durable, and the disk means what it did
pub record CarriedAll (b : ℕ) (runs : List Extent) (e : Sectors) (old new : Told) : Type 0 where
  pub may : MayCarry b runs e old.seen
  pub seen : IsCarried runs e old.seen new.seen
  pub settled : Settled new new.seen
  pub same : SameMeaning b new.seen old.seen
  pub stops : LeavesOnly old new (HasPart runs e old.seen)

-- at a moment between all of the data was carried, and from there on it is a commit by which the disk becomes like the other one
pub record BecomesAfter (primary : Choice) (b : ℕ) (runs : List Extent) (e : Sectors) (result : Result Unit LikeError) (old new : Told)
    : Type 0 where
  pub between : Told
  pub carried : CarriedAll b runs e old between
  pub becomes : BecomesLike primary b e result between new

-- done, by such a moment; or nothing was written, flushed or changed, and why; or a call failed while data was carried; or the commit
-- after it told so. A disk that keeps the model of a device never reads otherwise than it was written
abbrev pub Carries : Choice → ℕ → List Extent → Sectors → Result Unit CarryError → Told → Told → Type 0
Carries primary b runs e (Ok x) old new = BecomesAfter primary b runs e (Ok x) old new
Carries primary b runs e (Err (NotLike error)) old new = IsNotLike primary b e old.seen error × (new ≡ old)
Carries primary b runs e (Err (Refused at why)) old new = FirstUnfit b runs e old.seen at.0 why × (new ≡ old)
Carries primary b runs e (Err (Unread at)) old new = IsIn runs at.0 × CarriedPart b runs e old new
Carries primary b runs e (Err (Device fault)) old new = CarriedPart b runs e old new
Carries primary b runs e (Err (Differs at)) old new = ⊥
Carries primary b runs e (Err (Table error)) old new = BecomesAfter primary b runs e (Err error) old new

-- ## Each disk that a stop within a call may leave of d.

-- d with part of the data: it means what d does
pub record IsBefore (b : ℕ) (runs : List Extent) (e d c : Sectors) : Type 0 where
  pub may : MayCarry b runs e d
  pub part : HasPart runs e d c
  pub same : SameMeaning b c d

-- with all of the data, and with the old layout or the new one: of d with the data it has what a change between the two must leave
pub record IsAfter (b : ℕ) (runs : List Extent) (e d c : Sectors) : Type 0 where
  pub may : MayCarry b runs e d
  pub has : HasData runs e c
  pub means : Denotes b c may.old ⊎ Denotes b c (Some may.new)
  pub between : Sectors
  pub carried : IsCarried runs e d between
  pub keeps : Keeps (Denotes b) (Healthy b) (TableOf b) (OwnedOf b) may.old (Some may.new) between c

abbrev pub IsEither : ℕ → List Extent → Sectors → Sectors → Sectors → Type 0
IsEither b runs e d c = IsBefore b runs e d c ⊎ IsAfter b runs e d c

-- the disk is healthy, with the other one's layout and with the data, durable
pub record IsDone (b : ℕ) (runs : List Extent) (e : Sectors) (now : Told) : Type 0 where
  pub settled : Settled now now.seen
  pub layout : Layout
  pub of_other : Denotes b e (Some layout)
  pub denotes : Denotes b now.seen (Some layout)
  pub healthy : Healthy b now.seen
  pub has : HasData runs e now.seen
