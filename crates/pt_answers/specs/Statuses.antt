-- Exit statuses, and what is printed.
use Rattle.pt_disks.specs.declared.device.NoDevice.{NoDevice}
use Rattle.pt_disks.specs.declared.device.NoDevice.TheVariants as opening
use Rattle.pt_recover.specs.declared.error.NoTable.{NoTable as Reason}
use Rattle.pt_recover.specs.declared.error.NoTable.TheVariants as reason
use Rattle.pt_recover.specs.declared.side.SideError.{SideError}
use Rattle.pt_recover.specs.declared.side.SideError.TheVariants as of_side
use Rattle.pt_answers.specs.declared.failure.Failure.{Failure}
use Rattle.pt_answers.specs.declared.failure.Failure.TheVariants as failure
use Rattle.pt_answers.specs.declared.failure.NoText.{NoText as Unreadable}
use Rattle.pt_answers.specs.declared.failure.NoText.TheVariants as no_text
use Rattle.pt_report.specs.declared.status.Status.{Status}
use Rattle.pt_report.specs.declared.status.Status.TheVariants.{Usage, Refused, NoTable, Device, Memory}
use Rattle.pt_answers.specs.declared.failure.Failure.TheVariants.{ClosedPipe}

-- ## The exit statuses.

-- of a disk that denotes nothing
abbrev pub reason_status : Reason → Status
reason_status (reason.Device at) = Device
reason_status reason.Memory = Memory
reason_status _ = NoTable

-- of a copy that gives no table
abbrev pub side_status : SideError → Status
side_status (of_side.Device at) = Device
side_status of_side.Memory = Memory
side_status _ = NoTable

-- of an image that isn't opened
abbrev pub opening_status : NoDevice → Status
opening_status opening.Unopened = Device
opening_status opening.NotBlock = Device
opening_status (opening.SectorSize bytes) = Usage
opening_status opening.Locked = Refused
opening_status (opening.InUse by) = Refused
opening_status opening.Memory = Memory

-- of a table's text that isn't read, or that of runs
abbrev pub text_status : Unreadable → Status
text_status no_text.Unreadable = Device
text_status no_text.TooLong = Usage
text_status no_text.NotUtf8 = Usage

abbrev pub failure_status : Failure → Status
failure_status failure.NotText = Usage
failure_status (failure.Usage error) = Usage
failure_status failure.InUseAlone = Usage
failure_status failure.TwoForms = Usage
failure_status failure.PlanWithData = Usage
failure_status (failure.BadWord word) = Usage
failure_status failure.BadFresh = Usage
failure_status (failure.BadData number) = Usage
failure_status failure.BadPath = Usage
failure_status failure.BadNumber = Usage
failure_status failure.BadCopy = Usage
failure_status (failure.Edit refusal) = Refused
failure_status (failure.Plan error) = Refused
failure_status (failure.Check why) = Refused
failure_status (failure.Repair error) = Refused
failure_status (failure.PlanText number) = Refused
failure_status (failure.Table fault) = Refused
failure_status (failure.NoText of why) = text_status why
failure_status (failure.Unfit at why) = Refused
failure_status failure.OtherSize = Refused
failure_status (failure.OtherOpening why) = opening_status why
failure_status (failure.Other why) = reason_status why
failure_status (failure.NoTable why) = reason_status why
failure_status (failure.NoSide side why) = side_status why
failure_status (failure.Opening why) = opening_status why
failure_status (failure.Fault fault) = Device
failure_status (failure.Differs at) = Device
failure_status failure.Device = Device
failure_status failure.ClosedPipe = Device
failure_status failure.Memory = Memory

-- ## What an output stream that failed comes to.

abbrev pub IsOfOutput : Failure → Type 0
IsOfOutput ClosedPipe = Unit {0}
IsOfOutput failure.Device = Unit {0}
IsOfOutput _ = ⊥
