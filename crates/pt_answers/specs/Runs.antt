-- What a run of the command does for each line: the calls by which its images are opened, the subcommand that is done on them, and what
-- is printed.
use Rattle.std.specs.Prelude.{◌≡◌, ◌==◌, if◌then◌else◌, ℕ, List, ◌∷◌, Option, Some, None, Result, Ok, Err, IfErr, IfOk, OnOk, map}
use Rattle.std.specs.Prelude.{String, option_map, string_bytes}
use Rattle.std.specs.declared.alloc.Global.{Global}
use Rattle.std.specs.Io.KnownBytes.{Appends, Keeps}
use Rattle.pt_sector.specs.declared.disk.Disk.{Ghosts}
use Rattle.pt_drafts.specs.declared.draft.Draft.{Draft}
use Rattle.pt_gpt.specs.declared.table.Side.{Side}
use Rattle.pt_guid.specs.declared.guid.Guid.{Guid}
use Rattle.pt_path.specs.declared.path.Path.{Path}
use Rattle.pt_apply.specs.Plans.{phases_of}
use Rattle.pt_disks.specs.declared.device.NoDevice.{NoDevice}
use Rattle.pt_disks.specs.declared.device.NoDevice.TheVariants as opening
use Rattle.pt_disks.specs.declared.open.Access.{Access}
use Rattle.pt_disks.specs.declared.open.Access.TheVariants.{Read, Write, WriteUnlocked}
use Rattle.pt_line.specs.Lines.{Means}
use Rattle.pt_cases.specs.declared.primary.Primary.{Primary as Choice}
use Rattle.pt_cases.specs.declared.primary.Primary.TheVariants as choice
use Rattle.pt_line.specs.declared.line.PrimaryCopy.{PrimaryCopy}
use Rattle.pt_line.specs.declared.line.PrimaryCopy.TheVariants.{ByTable, Kept}
use Rattle.pt_line.specs.declared.line.Adoption.{Adoption}
use Rattle.pt_line.specs.declared.line.Adoption.TheVariants.{Planned, Written}
use Rattle.pt_line.specs.declared.line.Form.{Form}
use Rattle.pt_line.specs.declared.line.InUse.TheVariants.{Refused}
use Rattle.pt_line.specs.declared.line.Job.{Job}
use Rattle.pt_line.specs.declared.line.Job.TheVariants as job
use Rattle.pt_line.specs.declared.line.Line.{Line}
use Rattle.pt_line.specs.declared.line.LineError.{LineError}
use Rattle.pt_line.specs.declared.line.LockedBy.{LockedBy}
use Rattle.pt_line.specs.declared.line.LockedBy.TheVariants.{Ptab, Caller}
use Rattle.pt_line.specs.declared.line.Medium.{Medium}
use Rattle.pt_line.specs.declared.line.Medium.TheVariants.{File, Device}
use Rattle.pt_line.specs.declared.line.SectorSize.{SectorSize}
use Rattle.pt_line.specs.declared.line.SectorSize.TheVariants.{Bytes512, Bytes4096}
use Rattle.pt_report.specs.Replies.{reply_text}
use Rattle.pt_report.specs.declared.reply.Reply.{Reply}
use Rattle.pt_report.specs.declared.reply.Reply.TheVariants as reply
use Rattle.pt_answers.specs.Answers.{NamesCopy, NamesPlace}
use Rattle.pt_answers.specs.Data.{CarriesFrom, WithRuns}
use Rattle.pt_answers.specs.Failures.{line_failure}
use Rattle.pt_answers.specs.Forms.{InForm, IsTypes}
use Rattle.pt_answers.specs.Images.{Call, Doing, OnImage, OnImages, Sized, Then, WithPlan}
use Rattle.pt_answers.specs.OnDisks.{AdoptsFrom, AppliesTo, ChecksOn, EditsDisk, FreesOn, LocatesOn, PlansAdopting, PlansOn, RepairsDisk}
use Rattle.pt_answers.specs.OnDisks.{ShowsAfter, ShowsCopy, ShowsDisk}
use Rattle.pt_answers.specs.OnDisks.{VerifiesDisk}
use Rattle.pt_answers.specs.Sets.{PlansSetting, SetsDisk, WithDraft, WithFresh}
use Rattle.pt_answers.specs.Statuses.{IsOfOutput}
use Rattle.pt_answers.specs.Wanted.{IsWanted, words_of}
use Rattle.pt_answers.specs.declared.failure.Failure.{Failure}
use Rattle.pt_answers.specs.declared.failure.Failure.TheVariants as failure
use Rattle.pt_answers.specs.declared.images.Opening.{Opening}
use Rattle.pt_answers.specs.declared.words.Wanted.{Wanted}

-- ## A job.

-- for writing, under the command's own lock or the caller's
abbrev pub writing : LockedBy → Access
writing Ptab = Write
writing Caller = WriteUnlocked

-- what becomes of the primary copy
abbrev pub choice_of : PrimaryCopy → Choice
choice_of ByTable = choice.Zeroed
choice_of Kept = choice.Kept

-- the path and the number of `locate` are read before its image is opened
abbrev pub WithPlace : {C : Type 0} → List ℕ → List ℕ → (Path → ℕ → Doing C) → Doing C
WithPlace path number Next old new answer = (named : Result (Path × ℕ) Failure) × NamesPlace path number named
    × Then (λ place. Next place.0 place.1) named old new answer

-- the copy that `show` is asked for is read before its image is opened
abbrev pub WithCopy : {C : Type 0} → List ℕ → Option (String Global) → (Side → Doing C) → Doing C
WithCopy name after Next old new answer =
    (named : Result Side Failure) × NamesCopy name after named × Then Next named old new answer

-- the words of an edit are read before its image is opened
abbrev pub WithWords : {C : Type 0} → Option (List ℕ) → List (List ℕ) → (Wanted → Doing C) → Doing C
WithWords fresh words Next old new answer =
    (wanted : Result Wanted Failure) × IsWanted fresh words wanted × Then Next wanted old new answer

-- the image whose table is adopted; it is only read, so it may be in use
abbrev pub other_as : Medium → Opening
other_as medium = record { medium = medium; in_use = Refused }

-- the table of another image is adopted, or planned to be
abbrev pub RunsAdoption : {D : _} {T : Type 0} {B : _} → Ghosts D B → List ℕ → Opening → List ℕ → Medium → Adoption → PrimaryCopy
    → LockedBy → Doing (Call D T)
RunsAdoption g image opening other medium Written primary locked_by old new answer =
    OnImages image opening (writing locked_by) other (other_as medium) Read (AdoptsFrom (choice_of primary) g g) old new answer
RunsAdoption g image opening other medium Planned primary locked_by old new answer =
    OnImages image opening Read other (other_as medium) Read (PlansAdopting (choice_of primary) g g) old new answer

-- the same with the data whose runs a file has, which is read before the images are opened; a plan with data is refused
abbrev pub AdoptsAs : {D : _} {T : Type 0} {B : _} → Ghosts D B → (T → Option (List ℕ)) → List ℕ → Opening → List ℕ → Medium
    → Option (List ℕ) → Adoption → PrimaryCopy → LockedBy → Doing (Call D T)
AdoptsAs g remaining image opening other medium None adoption primary locked_by old new answer =
    RunsAdoption g image opening other medium adoption primary locked_by old new answer
AdoptsAs g remaining image opening other medium (Some file) Written primary locked_by old new answer = WithRuns remaining file
    (λ runs. OnImages image opening (writing locked_by) other (other_as medium) Read (CarriesFrom (choice_of primary) g g runs))
    old new answer
AdoptsAs g remaining image opening other medium (Some file) Planned primary locked_by old new answer =
    (new ≡ old) × (answer ≡ Err failure.PlanWithData)

-- the table of an image is shown, or the one that the plan in a file would leave, or that of one copy of a GPT
abbrev pub RunsShow : {D : _} {T : Type 0} {B : _} → Ghosts D B → (T → Option (List ℕ)) → Opening → List ℕ → Option (String Global)
    → Option (String Global) → Doing (Call D T)
RunsShow g remaining opening image after (Some name) old new answer =
    WithCopy (string_bytes name) after (λ side. OnImage image opening Read (ShowsCopy g side)) old new answer
RunsShow g remaining opening image None None old new answer = OnImage image opening Read (ShowsDisk g) old new answer
RunsShow {D} {T} {B} g remaining opening image (Some file) None old new answer =
    WithPlan B remaining (string_bytes file) (λ plan. OnImage image opening Read (ShowsAfter g (phases_of plan))) old new answer

-- and what is found is answered in a form
abbrev pub ShowsAs : {D : _} {T : Type 0} {B : _} → Ghosts D B → (T → Option (List ℕ)) → Opening → List ℕ → Option (String Global)
    → Option (String Global) → Form → Doing (Call D T)
ShowsAs {D} {T} {B} g remaining opening image after copy form old new answer =
    (found : Result Reply Failure) × RunsShow g remaining opening image after copy old new found × InForm B image form found answer

-- the free blocks of an image, in a form
abbrev pub FreesAs : {D : _} {T : Type 0} {B : _} → Ghosts D B → List ℕ → Opening → Form → Doing (Call D T)
FreesAs {D} {T} {B} g image opening form old new answer =
    (found : Result Reply Failure) × OnImage image opening Read (FreesOn g) old new found × InForm B image form found answer

-- the table of a draft is written, or planned to be
abbrev pub RunsSet : {D : _} {T : Type 0} {B : _} → Ghosts D B → List ℕ → Opening → Adoption → PrimaryCopy → LockedBy → Draft → List Guid
    → Doing (Call D T)
RunsSet g image opening Written primary locked_by draft fresh old new answer =
    OnImage image opening (writing locked_by) (SetsDisk (choice_of primary) g draft fresh) old new answer
RunsSet g image opening Planned primary locked_by draft fresh old new answer =
    OnImage image opening Read (PlansSetting (choice_of primary) g draft fresh) old new answer

-- the fresh GUIDs and the text are read before the image is opened
abbrev pub SetsTable : {D : _} {T : Type 0} {B : _} → Ghosts D B → (T → Option (List ℕ)) → Opening → List ℕ → List ℕ → Option (List ℕ)
    → Adoption → PrimaryCopy → LockedBy → Doing (Call D T)
SetsTable g remaining opening image table fresh adoption primary locked_by old new answer = WithFresh fresh
    (λ guids. WithDraft remaining table (λ draft. RunsSet g image opening adoption primary locked_by draft guids)) old new answer

-- what is done for a job: `g` are the ghosts of the disks, and `remaining` the bytes of the file of a plan or a text
abbrev pub RunsJob : {D : _} {T : Type 0} {B : _} → Ghosts D B → (T → Option (List ℕ)) → Opening → Job → Doing (Call D T)
RunsJob g remaining opening (job.Help text) old new answer = (new ≡ old) × (answer ≡ Ok (reply.Text text))
RunsJob g remaining opening (job.Show image after copy form) old new answer =
    ShowsAs g remaining opening (string_bytes image) after copy form old new answer
RunsJob g remaining opening (job.Verify image) old new answer =
    OnImage (string_bytes image) opening Read (VerifiesDisk g) old new answer
RunsJob g remaining opening (job.Locate image path place) old new answer = WithPlace (string_bytes path) (string_bytes place)
    (λ p k. OnImage (string_bytes image) opening Read (LocatesOn g p k)) old new answer
RunsJob g remaining opening (job.Free image form) old new answer = FreesAs g (string_bytes image) opening form old new answer
RunsJob g remaining opening job.Types old new answer = (new ≡ old) × IsTypes answer
RunsJob g remaining opening (job.Edit image fresh words primary locked_by) old new answer =
    WithWords (option_map string_bytes fresh) words
    (λ wanted. OnImage (string_bytes image) opening (writing locked_by) (EditsDisk (choice_of primary) g (words_of wanted))) old new answer
RunsJob g remaining opening (job.Plan image fresh words primary) old new answer =
    WithWords (option_map string_bytes fresh) words
    (λ wanted. OnImage (string_bytes image) opening Read (PlansOn (choice_of primary) g (words_of wanted))) old new answer
RunsJob {D} {T} {B} g remaining opening (job.Check image file) old new answer =
    WithPlan B remaining (string_bytes file) (λ plan. OnImage (string_bytes image) opening Read (ChecksOn g (phases_of plan))) old new
    answer
RunsJob {D} {T} {B} g remaining opening (job.Apply image file locked_by) old new answer = WithPlan B remaining (string_bytes file)
    (λ plan. OnImage (string_bytes image) opening (writing locked_by) (AppliesTo g (phases_of plan))) old new answer
RunsJob g remaining opening (job.Repair image primary locked_by) old new answer =
    OnImage (string_bytes image) opening (writing locked_by) (RepairsDisk (choice_of primary) g) old new answer
RunsJob g remaining opening (job.Adopt image other medium file adoption primary locked_by) old new answer =
    AdoptsAs g remaining (string_bytes image) opening (string_bytes other) medium (option_map string_bytes file) adoption primary locked_by
    old new answer
RunsJob g remaining opening (job.Set image table fresh adoption primary locked_by) old new answer =
    SetsTable g remaining opening (string_bytes image) (string_bytes table) (option_map string_bytes fresh) adoption primary locked_by
    old new answer

-- ## The size of a sector.

abbrev pub image_of : Job → Option (List ℕ)
image_of (job.Help text) = None
image_of (job.Show image after copy form) = Some (string_bytes image)
image_of (job.Verify image) = Some (string_bytes image)
image_of (job.Locate image path place) = Some (string_bytes image)
image_of (job.Free image form) = Some (string_bytes image)
image_of job.Types = None
image_of (job.Edit image fresh words primary locked_by) = Some (string_bytes image)
image_of (job.Plan image fresh words primary) = Some (string_bytes image)
image_of (job.Check image file) = Some (string_bytes image)
image_of (job.Apply image file locked_by) = Some (string_bytes image)
image_of (job.Repair image primary locked_by) = Some (string_bytes image)
image_of (job.Adopt image other medium file adoption primary locked_by) = Some (string_bytes image)
image_of (job.Set image table fresh adoption primary locked_by) = Some (string_bytes image)

-- that of a device which has sectors of so many bytes: another one than 512 and 4096 is refused where the device is opened, as is one
-- that isn't known
abbrev pub size_of_device : Result ℕ NoDevice → Result SectorSize Failure
size_of_device (Ok bytes) = Ok (if bytes == 4096 then Bytes4096 else Bytes512)
size_of_device (Err opening.Memory) = Err failure.Memory
size_of_device (Err why) = Ok Bytes512

-- the size that the line says; else 512, and of a device's image its own
abbrev pub Sizes : {D T : Type 0} → Option SectorSize → Medium → Option (List ℕ) → List (Call D T) → List (Call D T)
    → Result SectorSize Failure → Type 0
Sizes (Some size) medium image old new answer = (new ≡ old) × (answer ≡ Ok size)
Sizes None File image old new answer = (new ≡ old) × (answer ≡ Ok Bytes512)
Sizes None Device None old new answer = (new ≡ old) × (answer ≡ Ok Bytes512)
Sizes None Device (Some path) old new answer =
    (found : Result ℕ NoDevice) × (new ≡ Sized path found ∷ old) × (answer ≡ size_of_device found)

-- ## A line.

-- an answer is printed, and given, unless the output fails; of a failure nothing is printed
abbrev pub Prints : ℕ → Result Reply Failure → Option (List ℕ) → Option (List ℕ) → Result Reply Failure → Type 0
Prints b (Ok reply) old new result = OnOk result (Appends old new (reply_text b reply))
    × IfOk result (λ given. given ≡ reply) × IfErr result IsOfOutput
Prints b (Err why) old new result = Keeps old new × (result ≡ Err why)

abbrev pub opening_of : Line → Opening
opening_of line = record { medium = line.medium; in_use = line.in_use }

-- what is done for a line on disks with sectors of `B` bytes, and printed
abbrev pub RunsLine : {D : _} {T : Type 0} {B : _} → Ghosts D B → (T → Option (List ℕ)) → Line → List (Call D T) → List (Call D T)
    → Option (List ℕ) → Option (List ℕ) → Result Reply Failure → Type 0
RunsLine {D} {T} {B} g remaining line old new printed_old printed_new result = (answer : Result Reply Failure)
    × RunsJob g remaining (opening_of line) line.job old new answer × Prints B answer printed_old printed_new result

-- the line on images with sectors of this size, where that was found: `small` opens those of 512 bytes, and `large` those of 4,096
abbrev pub RunsSized : {D E T : Type 0} → Ghosts D 512 → Ghosts E 4096 → (T → Option (List ℕ)) → Line → Result SectorSize Failure
    → List (Call D T) → List (Call D T) → List (Call E T) → List (Call E T)
    → Option (List ℕ) → Option (List ℕ) → Result Reply Failure → Type 0
RunsSized g h remaining line (Err why) small_old small_new large_old large_new old new result =
    (small_new ≡ small_old) × (large_new ≡ large_old) × Keeps old new × (result ≡ Err why)
RunsSized g h remaining line (Ok Bytes512) small_old small_new large_old large_new old new result =
    (large_new ≡ large_old) × RunsLine g remaining line small_old small_new old new result
RunsSized g h remaining line (Ok Bytes4096) small_old small_new large_old large_new old new result =
    (small_new ≡ small_old) × RunsLine h remaining line large_old large_new old new result

-- what a line comes to: nothing is opened where the words are none; else the size of a sector is found first
abbrev pub RunsRead : {D E T : Type 0} → Ghosts D 512 → Ghosts E 4096 → (T → Option (List ℕ)) → Result Line LineError
    → List (Call D T) → List (Call D T) → List (Call E T) → List (Call E T)
    → Option (List ℕ) → Option (List ℕ) → Result Reply Failure → Type 0
RunsRead g h remaining (Err error) small_old small_new large_old large_new old new result =
    (small_new ≡ small_old) × (large_new ≡ large_old) × Keeps old new × (result ≡ Err (line_failure error))
RunsRead {D} {E} {T} g h remaining (Ok line) small_old small_new large_old large_new old new result =
    (between : List (Call D T)) × (size : Result SectorSize Failure)
    × Sizes line.size line.medium (image_of line.job) small_old between size
    × RunsSized g h remaining line size between small_new large_old large_new old new result

-- a run of the command: its words, the calls that it made, what its output holds, and the answer or why it ended without one
abbrev pub RunsWords : {D E T : Type 0} → Ghosts D 512 → Ghosts E 4096 → (T → Option (List ℕ)) → List (List ℕ)
    → List (Call D T) → List (Call D T) → List (Call E T) → List (Call E T)
    → Option (List ℕ) → Option (List ℕ) → Result Reply Failure → Type 0
RunsWords g h remaining words small_old small_new large_old large_new old new result = (line : Result Line LineError) × Means words line
    × RunsRead g h remaining line small_old small_new large_old large_new old new result
