-- Why there is no answer, as it is printed, and what the errors of the library come to.
use Rattle.std.specs.Prelude.{◌≡◌, ◌⊎◌, ℕ, List, [], ◌∷◌, ◌++◌, codes, decimal, string_bytes, IfSome, Option, Some, None}
use Rattle.std.specs.Io.KnownBytes.{Appends}
use Rattle.std.specs.declared.io.ErrorKind.{ErrorKind}
use Rattle.std.specs.declared.io.ErrorKind.TheVariants as kind
use Rattle.pt_disks.specs.declared.device.NoDevice.{NoDevice}
use Rattle.pt_disks.specs.declared.device.NoDevice.TheVariants as opening
use Rattle.pt_disks.specs.declared.open.OpenError.{OpenError}
use Rattle.pt_disks.specs.declared.open.OpenError.TheVariants as of_file
use Rattle.pt_carry.specs.declared.error.CarryError.{CarryError}
use Rattle.pt_carry.specs.declared.error.CarryError.TheVariants as carry
use Rattle.pt_carry.specs.declared.error.Unfit.{Unfit as Reason}
use Rattle.pt_carry.specs.declared.error.Unfit.TheVariants as reason
use Rattle.pt_carry.specs.declared.run_text.RunsError.{RunsError}
use Rattle.pt_carry.specs.declared.run_text.RunsError.TheVariants as of_runs
use Rattle.pt_recover.specs.declared.error.NoTable.TheVariants as no_table
use Rattle.pt_line.specs.declared.line.LineError.{LineError}
use Rattle.pt_line.specs.declared.line.LineError.TheVariants as of_line
use Rattle.pt_sector.specs.declared.reading.Failure.{Failure as Unread}
use Rattle.pt_sector.specs.declared.reading.Failure.TheVariants as unread
use Rattle.pt_sector.specs.declared.disk.Fault.TheVariants as fault
use Rattle.pt_words.specs.Words.{refusal_number}
use Rattle.pt_cases.specs.Unplanned.{plan_error_number}
use Rattle.pt_check.specs.Answers.{why_number}
use Rattle.pt_check.specs.declared.error.CheckError.{CheckError}
use Rattle.pt_check.specs.declared.error.CheckError.TheVariants as check
use Rattle.pt_plan.specs.Repairs.{repair_error_number}
use Rattle.pt_plan.specs.declared.error.CommitError.{CommitError}
use Rattle.pt_plan.specs.declared.error.CommitError.TheVariants as commit
use Rattle.pt_plan.specs.declared.like_error.LikeError.{LikeError}
use Rattle.pt_plan.specs.declared.like_error.LikeError.TheVariants as like
use Rattle.pt_plan.specs.declared.repair_error.RepairError.{RepairError}
use Rattle.pt_plan.specs.declared.repair_error.RepairError.TheVariants as repair
use Rattle.pt_drafts.specs.Keys.{key_text}
use Rattle.pt_drafts.specs.declared.fault.DraftError.{DraftError}
use Rattle.pt_drafts.specs.declared.fault.DraftError.TheVariants as draft
use Rattle.pt_drafts.specs.declared.fault.TextFault.{TextFault}
use Rattle.pt_set.specs.declared.error.SetError.{SetError}
use Rattle.pt_set.specs.declared.error.SetError.TheVariants as set
use Rattle.pt_report.specs.Shown.{line}
use Rattle.pt_report.specs.Replies.{device_line, memory_line, no_side_text, no_table_text}
use Rattle.pt_answers.specs.declared.failure.Failure.{Failure}
use Rattle.pt_answers.specs.declared.failure.Failure.TheVariants.{NotText, Usage, InUseAlone, TwoForms, PlanWithData, BadWord, BadFresh}
use Rattle.pt_answers.specs.declared.failure.Failure.TheVariants.{BadData}
use Rattle.pt_answers.specs.declared.failure.Failure.TheVariants.{BadPath, BadNumber}
use Rattle.pt_answers.specs.declared.failure.Failure.TheVariants.{BadCopy, Edit, Plan, Check, Repair, PlanText, OtherSize, OtherOpening}
use Rattle.pt_answers.specs.declared.failure.NoText.{NoText as Unreadable}
use Rattle.pt_answers.specs.declared.failure.NoText.TheVariants as no_text
use Rattle.pt_answers.specs.declared.failure.Failure.TheVariants.{Table, NoText, Other, NoTable, NoSide, Opening, Fault}
use Rattle.pt_answers.specs.declared.failure.Failure.TheVariants.{Device, ClosedPipe}
use Rattle.pt_answers.specs.declared.failure.Failure.TheVariants.{Memory, Unfit, Differs}
use Rattle.pt_answers.specs.declared.failure.TextOf.{TextOf}
use Rattle.pt_answers.specs.declared.failure.TextOf.TheVariants as text_of
use Rattle.pt_report.specs.declared.status.Status.{Status}
use Rattle.pt_report.specs.declared.status.Status.TheVariants as status
use Rattle.pt_answers.specs.Statuses.{failure_status}

-- where an argument isn't UTF-8, in the form of `clap`'s texts
abbrev pub not_text : List ℕ
not_text = codes "error: an argument isn't UTF-8\n\nFor more information, try '--help'.\n"

-- the same where `--in-use` is given without `--device`
abbrev pub in_use_alone : List ℕ
in_use_alone = codes "error: the argument '--in-use' needs '--device'\n\nFor more information, try '--help'.\n"

-- what refused it, and the number by which it says why
abbrev pub refusal_line : List ℕ → ℕ → List ℕ
refusal_line by number = line (codes "refused:" ∷ by ∷ decimal number ∷ [])

-- the first fault of a table's text: its name there, and which object of `partitions` has it
abbrev pub fault_line_of : List ℕ → Option ℕ → List ℕ
fault_line_of key None = line (codes "refused: table" ∷ key ∷ [])
fault_line_of key (Some part) = line (codes "refused: table" ∷ key ∷ decimal part ∷ [])

abbrev pub fault_line : TextFault → List ℕ
fault_line fault = fault_line_of (key_text fault.key) fault.part

-- a text that isn't read, a table's or that of runs
abbrev pub no_text_line : TextOf → Unreadable → List ℕ
no_text_line text_of.Table no_text.Unreadable = line (codes "table: device" ∷ [])
no_text_line text_of.Table no_text.TooLong = line (codes "table: too long" ∷ [])
no_text_line text_of.Table no_text.NotUtf8 = line (codes "table: not text" ∷ [])
no_text_line text_of.Data no_text.Unreadable = line (codes "data: device" ∷ [])
no_text_line text_of.Data no_text.TooLong = line (codes "data: too long" ∷ [])
no_text_line text_of.Data no_text.NotUtf8 = line (codes "data: not text" ∷ [])

-- why a sector isn't carried, in a word
abbrev pub reason_word : Reason → List ℕ
reason_word reason.Outside = codes "outside"
reason_word reason.Owned = codes "owned"
reason_word reason.Table = codes "table"
reason_word reason.NewTable = codes "new-table"
reason_word reason.Read = codes "read"

abbrev pub unfit_line : ℕ → Reason → List ℕ
unfit_line at why = line (codes "refused: data" ∷ reason_word why ∷ decimal at ∷ [])

-- of an image that isn't opened
abbrev pub opening_text : NoDevice → List ℕ
opening_text opening.Unopened = device_line
opening_text opening.NotBlock = line (codes "device: not a block device" ∷ [])
opening_text (opening.SectorSize bytes) = line (codes "bad sector size: the device has" ∷ decimal bytes ∷ [])
opening_text opening.Locked = line (codes "refused: locked" ∷ [])
opening_text (opening.InUse by) = line (codes "refused: in use:" ∷ string_bytes by ∷ [])
opening_text opening.Memory = memory_line

-- the same where `--json` and `--human` are given
abbrev pub two_forms : List ℕ
two_forms = codes "error: the argument '--json' cannot be used with '--human'\n\nFor more information, try '--help'.\n"

-- the same where `--plan` and `--data` are given
abbrev pub plan_with_data : List ℕ
plan_with_data = codes "error: the argument '--data' cannot be used with '--plan'\n\nFor more information, try '--help'.\n"

-- the text, but of `clap`'s error, whose crate doesn't say it
abbrev pub failure_text : Failure → Option (List ℕ)
failure_text NotText = Some not_text
failure_text (Usage error) = None
failure_text InUseAlone = Some in_use_alone
failure_text TwoForms = Some two_forms
failure_text PlanWithData = Some plan_with_data
failure_text (BadWord word) = Some (line (codes "bad word" ∷ string_bytes word ∷ []))
failure_text BadFresh = Some (line (codes "bad fresh" ∷ []))
failure_text (BadData number) = Some (line (codes "bad data" ∷ decimal number ∷ []))
failure_text BadPath = Some (line (codes "bad path" ∷ []))
failure_text BadNumber = Some (line (codes "bad number" ∷ []))
failure_text BadCopy = Some (line (codes "bad copy" ∷ []))
failure_text (Edit refusal) = Some (refusal_line (codes "edit") (refusal_number refusal))
failure_text (Plan error) = Some (refusal_line (codes "plan") (plan_error_number error))
failure_text (Check why) = Some (refusal_line (codes "check") (why_number why))
failure_text (Repair error) = Some (refusal_line (codes "repair") (repair_error_number error))
failure_text (PlanText number) = Some (refusal_line (codes "plan text") number)
failure_text (Table fault) = Some (fault_line fault)
failure_text (NoText of why) = Some (no_text_line of why)
failure_text (Unfit at why) = Some (unfit_line at.0 why)
failure_text OtherSize = Some (line (codes "refused: other size" ∷ []))
failure_text (OtherOpening why) = Some (codes "other: " ++ opening_text why)
failure_text (Other why) = Some (codes "other: " ++ no_table_text why)
failure_text (NoTable why) = Some (no_table_text why)
failure_text (NoSide side why) = Some (no_side_text side why)
failure_text (Opening why) = Some (opening_text why)
failure_text (Fault fault) = Some device_line
failure_text (Differs at) = Some device_line
failure_text Device = Some device_line
failure_text ClosedPipe = Some []
failure_text Memory = Some memory_line

-- the status, and the text was appended; or the text couldn't be printed, which is a device's fault
abbrev pub IsTold : Failure → Option (List ℕ) → Option (List ℕ) → Status → Type 0
IsTold failure old new ended =
    ((ended ≡ failure_status failure) × IfSome (failure_text failure) (Appends old new)) ⊎ (ended ≡ status.Device)

-- of a command line that is no job
abbrev pub line_failure : LineError → Failure
line_failure of_line.NotText = NotText
line_failure (of_line.Usage error) = Usage error
line_failure of_line.InUseAlone = InUseAlone
line_failure of_line.TwoForms = TwoForms
line_failure of_line.PlanWithData = PlanWithData
line_failure of_line.Memory = Memory

-- of a plain file that isn't opened, as of a device
abbrev pub as_device : OpenError → NoDevice
as_device of_file.NoFile = opening.Unopened
as_device of_file.Locked = opening.Locked

-- an output stream that failed: where nobody reads it any more, that is nobody's fault
abbrev pub output_failure : ErrorKind → Failure
output_failure kind.BrokenPipe = ClosedPipe
output_failure _ = Device

-- of a disk that couldn't be read
abbrev pub unread_failure : Unread → Failure
unread_failure (unread.Device at) = Fault (fault.Read at)
unread_failure unread.Memory = Memory

-- of a checker that couldn't answer
abbrev pub unchecked_failure : CheckError → Failure
unchecked_failure (check.Device fault) = Fault fault
unchecked_failure check.Memory = Memory

-- of a commit
abbrev pub commit_failure : CommitError → Failure
commit_failure (commit.NoTable why) = NoTable why
commit_failure (commit.Edit refusal) = Edit refusal
commit_failure (commit.Plan error) = Plan error
commit_failure (commit.Check why) = Check why
commit_failure (commit.Device fault) = Fault fault
commit_failure commit.Memory = Memory

-- of a commit of another disk's layout
abbrev pub like_failure : LikeError → Failure
like_failure like.OtherSize = OtherSize
like_failure (like.Other why) = Other why
like_failure (like.Disk error) = commit_failure error

-- of the text of runs
abbrev pub runs_failure : RunsError → Failure
runs_failure (of_runs.BadLine number) = BadData number
runs_failure of_runs.Memory = Memory

-- of a commit of another disk's layout with data
abbrev pub carry_failure : CarryError → Failure
carry_failure (carry.NotLike error) = like_failure error
carry_failure (carry.Refused at why) = Unfit at why
carry_failure (carry.Unread at) = Other (no_table.Device at)
carry_failure (carry.Device fault) = Fault fault
carry_failure (carry.Differs at) = Differs at
carry_failure (carry.Table error) = like_failure error

-- of a table's text
abbrev pub draft_failure : DraftError → Failure
draft_failure (draft.Fault fault) = Table fault
draft_failure draft.Memory = Memory

-- of a commit of what it says
abbrev pub set_failure : SetError → Failure
set_failure (set.Fault fault) = Table fault
set_failure (set.Disk error) = commit_failure error

-- of a repair
abbrev pub repair_failure : RepairError → Failure
repair_failure (repair.NoTable why) = NoTable why
repair_failure (repair.Device fault) = Fault fault
repair_failure repair.Memory = Memory
repair_failure (repair.Unsound finding) = Repair (repair.Unsound finding)
repair_failure (repair.Plan error) = Repair (repair.Plan error)
repair_failure (repair.Check why) = Repair (repair.Check why)
