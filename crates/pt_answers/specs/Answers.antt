-- What each subcommand answers, by what the library's call gave.
use Rattle.std.specs.Prelude.{◌≡◌, ◌≢◌, ◌⊎◌, ℕ, List, Option, Some, None, Result, Ok, Err, Vec, String, codes, IsSome, string_bytes}
use Rattle.std.specs.declared.alloc.Global.{Global}
use Rattle.pt_sector.specs.Sectors.{Sectors, Writes}
use Rattle.pt_sector.specs.Device.{Told}
use Rattle.pt_sector.specs.declared.address.Lba.{Lba}
use Rattle.pt_sector.specs.declared.reading.Failure.{Failure as Unread}
use Rattle.pt_path.specs.declared.path.Path.{Path}
use Rattle.pt_path.specs.Paths.{IsNumber, IsPath}
use Rattle.pt_members.specs.declared.layout.Layout.{Layout}
use Rattle.pt_members.specs.Tables.{IsPlaceOf}
use Rattle.pt_recover.specs.Denotes.{TellsNothing, Denotes}
use Rattle.pt_recover.specs.declared.error.NoTable.{NoTable}
use Rattle.pt_gpt.specs.declared.table.Side.{Side}
use Rattle.pt_gpt.specs.declared.table.Side.TheVariants.{Primary, Backup}
use Rattle.pt_recover.specs.FromSides.{SideGives, SideGivesNone}
use Rattle.pt_recover.specs.declared.side.SideError.{SideError}
use Rattle.pt_layout.specs.Healthy.{VerdictIs}
use Rattle.pt_layout.specs.declared.sound.finding.Verdict.{Verdict}
use Rattle.pt_edit.specs.Free.{AreFree, free_places}
use Rattle.pt_edit.specs.declared.free.FreeBlock.{FreeBlock}
use Rattle.pt_check.specs.Answers.{Answers as AnswersPlan, Promises}
use Rattle.pt_check.specs.declared.answer.Answer.{Answer}
use Rattle.pt_check.specs.declared.answer.Answer.TheVariants.{No, Yes}
use Rattle.pt_check.specs.declared.error.CheckError.{CheckError}
use Rattle.pt_apply.specs.PlanTexts.{text_of, PlanText}
use Rattle.pt_plan.specs.Commits.{Applied, ApplyFailed}
use Rattle.pt_plan.specs.declared.error.CommitError.{CommitError}
use Rattle.pt_plan.specs.declared.checked.After.{After}
use Rattle.pt_plan.specs.declared.checked.After.TheVariants as after
use Rattle.pt_plan.specs.declared.like_error.LikeError.{LikeError}
use Rattle.pt_plan.specs.declared.repair_error.RepairError.{RepairError}
use Rattle.pt_report.specs.declared.reply.Reply.{Reply}
use Rattle.pt_report.specs.declared.reply.Reply.TheVariants as reply
use Rattle.pt_answers.specs.declared.failure.Failure.{Failure}
use Rattle.pt_answers.specs.declared.failure.Failure.TheVariants as failure
use Rattle.pt_answers.specs.Failures.{commit_failure, like_failure, repair_failure, unchecked_failure, unread_failure}

-- the answer to a result of which this holds
abbrev pub Answers : {R : Type 0} → (R → Result Reply Failure) → (R → Type 0) → Result Reply Failure → Type 0
Answers {R} reply_to Holds answer = (result : R) × Holds result × (answer ≡ reply_to result)

-- `show`
abbrev pub show_reply : Result Layout NoTable → Result Reply Failure
show_reply (Ok layout) = Ok (reply.Layout layout)
show_reply (Err why) = Err (failure.NoTable why)

-- what a disk with these sectors denotes, or why nothing
abbrev pub Recovers : ℕ → Sectors → Result Layout NoTable → Type 0
Recovers b d (Ok layout) = Denotes b d (Some layout)
Recovers b d (Err why) = TellsNothing b d why

-- `show --after`: the layout, or the checker's no
abbrev pub after_reply : Result After CheckError → Result Reply Failure
after_reply (Ok (after.Layout layout)) = Ok (reply.Layout layout)
after_reply (Ok (after.No why)) = Ok (reply.Checked (No why))
after_reply (Err error) = Err (unchecked_failure error)

-- `show --copy`: the layout that the copy gives, or why it gives none
abbrev pub copy_reply : Side → Result Layout SideError → Result Reply Failure
copy_reply side (Ok layout) = Ok (reply.Layout layout)
copy_reply side (Err why) = Err (failure.NoSide side why)

abbrev pub GivesAlone : ℕ → Sectors → Side → Result Layout SideError → Type 0
GivesAlone b d side (Ok layout) = SideGives b d side layout
GivesAlone b d side (Err why) = SideGivesNone b d side why

-- the copy that a text names; none beside a plan's file
abbrev pub NamesCopy : List ℕ → Option (String Global) → Result Side Failure → Type 0
NamesCopy name after (Ok Primary) = (after ≡ None) × (name ≡ codes "primary")
NamesCopy name after (Ok Backup) = (after ≡ None) × (name ≡ codes "backup")
NamesCopy name after (Err failure.BadCopy) = IsSome after ⊎ ((name ≢ codes "primary") × (name ≢ codes "backup"))
NamesCopy name after (Err _) = ⊥

-- `verify`
abbrev pub verify_reply : Result Verdict Unread → Result Reply Failure
verify_reply (Ok verdict) = Ok (reply.Verdict verdict)
verify_reply (Err why) = Err (unread_failure why)

-- what is first wrong with it, or nothing
abbrev pub Verifies : ℕ → Sectors → Result Verdict Unread → Type 0
Verifies b d (Ok verdict) = VerdictIs b d verdict
Verifies b d (Err why) = Unit {0}

-- `locate`
abbrev pub locate_reply : Result (Option Lba) NoTable → Result Reply Failure
locate_reply (Ok place) = Ok (reply.Place place)
locate_reply (Err why) = Err (failure.NoTable why)

-- the sector of the disk that is sector k of a partition, or none where there is none
abbrev pub PlaceIs : ℕ → Layout → Path → ℕ → Option Lba → Type 0
PlaceIs b o p k None = (s : ℕ) → ¬ IsPlaceOf b o p k s
PlaceIs b o p k (Some at) = IsPlaceOf b o p k at.0

abbrev pub Locates : ℕ → Sectors → Path → ℕ → Result (Option Lba) NoTable → Type 0
Locates b d p k (Ok place) = (o : Layout) × Denotes b d (Some o) × PlaceIs b o p k place
Locates b d p k (Err why) = TellsNothing b d why

-- `free`
abbrev pub free_reply : Result (Vec FreeBlock Global) NoTable → Result Reply Failure
free_reply (Ok blocks) = Ok (reply.Free blocks)
free_reply (Err why) = Err (failure.NoTable why)

-- all blocks where a new partition of the layout may lie
abbrev pub Frees : ℕ → Sectors → Result (Vec FreeBlock Global) NoTable → Type 0
Frees b d (Ok blocks) = (o : Layout) × Denotes b d (Some o) × AreFree (free_places b o) blocks.items
Frees b d (Err why) = TellsNothing b d why

-- the path and the number that two texts are; the path's fault is reported first
abbrev pub NamesPlace : List ℕ → List ℕ → Result (Path × ℕ) Failure → Type 0
NamesPlace path number (Ok named) = IsPath path named.0 × IsNumber number named.1
NamesPlace path number (Err failure.BadPath) = (p : Path) → ¬ IsPath path p
NamesPlace path number (Err failure.BadNumber) = ((p : Path) × IsPath path p) × ((n : ℕ) → ¬ IsNumber number n)
NamesPlace path number (Err _) = ⊥

-- `edit`
abbrev pub edit_reply : Result Unit CommitError → Result Reply Failure
edit_reply (Ok x) = Ok reply.Done
edit_reply (Err error) = Err (commit_failure error)

-- `repair`
abbrev pub repair_reply : Result Unit RepairError → Result Reply Failure
repair_reply (Ok x) = Ok reply.Done
repair_reply (Err error) = Err (repair_failure error)

-- `adopt`
abbrev pub adopt_reply : Result Unit LikeError → Result Reply Failure
adopt_reply (Ok x) = Ok reply.Done
adopt_reply (Err error) = Err (like_failure error)

-- `check`
abbrev pub check_reply : Result Answer CheckError → Result Reply Failure
check_reply (Ok answer) = Ok (reply.Checked answer)
check_reply (Err error) = Err (unchecked_failure error)

-- the checker's answer to a plan, and what it promises
abbrev pub Checks : ℕ → Sectors → List Writes → Answer → Type 0
Checks b d phases answer = AnswersPlan b d phases answer × Promises b d phases answer

-- `apply`: after a yes the plan is applied, and else the checker's no is printed
abbrev pub apply_reply : Result Answer CommitError → Result Reply Failure
apply_reply (Ok (Yes switch)) = Ok reply.Done
apply_reply (Ok (No why)) = Ok (reply.Checked (No why))
apply_reply (Err error) = Err (commit_failure error)

-- the plan was applied after a yes, or was not; or what a failure left
abbrev pub Applies : ℕ → List Writes → Told → Told → Result Answer CommitError → Type 0
Applies b phases old new (Ok answer) = Applied b phases old new answer
Applies b phases old new (Err error) = ApplyFailed b phases old new error

-- the answer is the text of a plan with these phases, in lower case
abbrev pub IsTextOf : ℕ → List Writes → Reply → Type 0
IsTextOf b phases (reply.Text text) = PlanText b phases (string_bytes text) × (string_bytes text ≡ text_of phases)
IsTextOf b phases _ = ⊥

-- `plan`, and `adopt --plan`: the text of a plan of which this holds, or a refusal, which this explains
abbrev pub Plans : {E : Type 0} → ℕ → (List Writes → Type 0) → (E → Type 0) → (E → Failure) → Result Reply Failure → Type 0
Plans b Holds Explains told (Ok reply) = (phases : List Writes) × Holds phases × IsTextOf b phases reply
Plans {E} b Holds Explains told (Err failure) = (error : E) × Explains error × (failure ≡ told error)
