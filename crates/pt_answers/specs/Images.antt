-- What opens the images and the plans that a line names, by its calls, the newest first, and what is done on what it opened.
use Rattle.std.specs.Prelude.{◌≡◌, ◌≤◌, ◌<◌, ◌⊎◌, ◌==◌, ℕ, List, ◌∷◌, Option, Result, Ok, Err, IfSome, count_by}
use Rattle.std.specs.Prelude.{length, IsUtf8}
use Rattle.pt_apply.specs.Plans.{phases_of}
use Rattle.pt_apply.specs.PlanTexts.{IsBadLine, LacksFlush, PlanText}
use Rattle.pt_apply.specs.declared.plan.Plan.{Plan}
use Rattle.pt_disks.specs.declared.device.NoDevice.{NoDevice}
use Rattle.pt_disks.specs.declared.open.Access.{Access}
use Rattle.pt_disks.specs.declared.open.OpenError.{OpenError}
use Rattle.pt_report.specs.declared.reply.Reply.{Reply}
use Rattle.pt_answers.specs.declared.failure.Failure.{Failure}
use Rattle.pt_answers.specs.declared.failure.Failure.TheVariants as failure
use Rattle.pt_answers.specs.declared.images.Opening.{Opening}
use Rattle.pt_answers.specs.Failures.{as_device}

-- ## The calls.

pub data Call (D T : Type 0) : Type 0 where
  -- how many bytes the sectors of the device at a path have, or why that isn't known
  Sized : List ℕ → Result ℕ NoDevice → Call D T
  -- an image was opened, or why not
  Opened : List ℕ → Opening → Access → Result D NoDevice → Call D T
  -- a disk was closed, as it is here
  Closed : D → Call D T
  -- the file of a plan was opened, or why not
  PlanOpened : List ℕ → Result T OpenError → Call D T
  -- the file of a table's text, or of that of runs, was opened, or why not
  TableOpened : List ℕ → Result T OpenError → Call D T

-- what comes of something, from these calls to those
abbrev pub Doing : Type 0 → Type 1
Doing C = List C → List C → Result Reply Failure → Type 0

-- where there is a value, this comes next; a failure is the answer, and there is no further call
abbrev pub Then : {A C : Type 0} → (A → Doing C) → Result A Failure → Doing C
Then Next (Ok a) old new answer = Next a old new answer
Then Next (Err why) old new answer = (new ≡ old) × (answer ≡ Err why)

-- ## An image.

abbrev pub opened_as : {D : Type 0} → (NoDevice → Failure) → Result D NoDevice → Result D Failure
opened_as told (Ok disk) = Ok disk
opened_as told (Err why) = Err (told why)

-- this is done on a disk, which then is closed
abbrev pub OnDisk : {D T : Type 0} → (D → D → Result Reply Failure → Type 0) → D → Doing (Call D T)
OnDisk {D} Does disk old new answer = (left : D) × (new ≡ Closed left ∷ old) × Does disk left answer

-- an image is opened, this is done on it, and it is closed
abbrev pub OnImage : {D T : Type 0} → List ℕ → Opening → Access → (D → D → Result Reply Failure → Type 0) → Doing (Call D T)
OnImage {D} path opening access Does old new answer = (opened : Result D NoDevice)
    × Then (OnDisk Does) (opened_as failure.Opening opened) (Opened path opening access opened ∷ old) new answer

-- this is done on a disk beside another one, and both are closed
abbrev pub OnBoth : {D T : Type 0} → (D → D → D → D → Result Reply Failure → Type 0) → D → D → Doing (Call D T)
OnBoth {D} Does other disk old new answer =
    (left : D) × (other_left : D) × (new ≡ Closed other_left ∷ Closed left ∷ old) × Does disk left other other_left answer

-- this is done on an image beside another disk; where the image isn't opened, the other disk is closed as it was
abbrev pub OnBeside : {D T : Type 0} → (D → D → D → D → Result Reply Failure → Type 0) → D → Result D NoDevice → Doing (Call D T)
OnBeside Does other (Ok disk) old new answer = OnBoth Does other disk old new answer
OnBeside Does other (Err why) old new answer = (new ≡ Closed other ∷ old) × (answer ≡ Err (failure.Opening why))

-- the other image is opened first, for reading, then the image, and this is done on both. What was opened is closed, and nothing else
abbrev pub OnImages : {D T : Type 0} → List ℕ → Opening → Access → List ℕ → Opening → Access
    → (D → D → D → D → Result Reply Failure → Type 0) → Doing (Call D T)
OnImages {D} path opening access other_path other_opening other_access Does old new answer = (opened : Result D NoDevice)
    × Then (λ other between last told. (beside : Result D NoDevice)
    × OnBeside Does other beside (Opened path opening access beside ∷ between) last told)
    (opened_as failure.OtherOpening opened) (Opened other_path other_opening other_access opened ∷ old) new answer

-- ## The file of a plan.

-- the most bytes that the text of a plan may have, 8 MiB
abbrev pub most_text : ℕ
most_text = 8388608

abbrev pub line_feeds : List ℕ → ℕ
line_feeds text = count_by (λ byte. byte == 10) text

-- the lines of a text are read: it isn't too long, and it is UTF-8
abbrev pub HasLines : List ℕ → Type 0
HasLines text = (length text ≤ most_text) × IsUtf8 text

-- the first line of a text that is no plan's; 0 where it is too long or isn't UTF-8, and then none of its lines is named
abbrev pub IsPlanFault : ℕ → List ℕ → ℕ → Type 0
IsPlanFault b text n = ((n ≡ 0) × ((most_text < length text) ⊎ ¬ IsUtf8 text))
    ⊎ (HasLines text × (IsBadLine b text n ⊎ (LacksFlush b text × (n ≡ line_feeds text))))

-- what a file whose bytes are known, if they are, is read as: a plan, that it can't be read, or its first bad line
abbrev pub ReadsPlan : (b : ℕ) → Option (List ℕ) → Result (Plan b) Failure → Type 0
ReadsPlan b known (Ok plan) = IfSome known (λ text. (length text ≤ most_text) × PlanText b (phases_of plan) text)
ReadsPlan b known (Err why) = (why ≡ failure.Device) ⊎ ((why ≡ failure.Memory)
    ⊎ ((n : ℕ) × (why ≡ failure.PlanText n) × IfSome known (λ text. IsPlanFault b text n)))

-- what comes of the file of a plan that was opened, or wasn't
abbrev pub OfFile : {T : Type 0} (b : ℕ) → (T → Option (List ℕ)) → Result T OpenError → Result (Plan b) Failure → Type 0
OfFile b remaining (Ok file) plan = ReadsPlan b (remaining file) plan
OfFile b remaining (Err error) plan = plan ≡ Err (failure.Opening (as_device error))

-- the file of a plan is opened and read
abbrev pub IsPlanAt : {D T : Type 0} (b : ℕ) → (T → Option (List ℕ)) → List ℕ → List (Call D T) → List (Call D T) → Result (Plan b) Failure
    → Type 0
IsPlanAt {D} {T} b remaining path old new plan =
    (opened : Result T OpenError) × (new ≡ PlanOpened path opened ∷ old) × OfFile b remaining opened plan

-- the file of a plan is opened and read, and with the plan this comes next
abbrev pub WithPlan : {D T : Type 0} (b : ℕ) → (T → Option (List ℕ)) → List ℕ → (Plan b → Doing (Call D T)) → Doing (Call D T)
WithPlan {D} {T} b remaining path Next old new answer = (between : List (Call D T)) × (plan : Result (Plan b) Failure)
    × IsPlanAt b remaining path old between plan × Then Next plan between new answer
