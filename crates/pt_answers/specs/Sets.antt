-- `set`: a table's text as it is read, and what is done with it.
use Rattle.std.specs.Prelude.{◌≡◌, ◌⊎◌, ℕ, List, Option, Result, Ok, Err, IfErr}
use Rattle.pt_sector.specs.Device.{Blames, with_fault}
use Rattle.pt_sector.specs.Overlays.{OnlyReads}
use Rattle.pt_sector.specs.declared.disk.Disk.{Ghosts}
use Rattle.pt_guid.specs.declared.guid.Guid.{Guid}
use Rattle.pt_cases.specs.declared.primary.Primary.{Primary as Choice}
use Rattle.pt_drafts.specs.Tables.{draft_of}
use Rattle.pt_drafts.specs.declared.draft.Draft.{Draft}
use Rattle.pt_set.specs.Sets.{Becomes, IsPlanFor, NotPlanned, SetHidesNoFailure, set_fault_in}
use Rattle.pt_set.specs.declared.error.SetError.{SetError}
use Rattle.pt_report.specs.declared.reply.Reply.{Reply}
use Rattle.pt_report.specs.declared.reply.Reply.TheVariants as reply
use Rattle.pt_answers.specs.Answers.{Answers, Plans}
use Rattle.pt_answers.specs.Failures.{set_failure}
use Rattle.pt_answers.specs.Images.{Call, Doing, Then}
use Rattle.pt_answers.specs.OnDisks.{IsSameDisk}
use Rattle.pt_answers.specs.Wanted.{AreGiven, AreNotGiven}
use Rattle.pt_answers.specs.declared.failure.Failure.{Failure}
use Rattle.pt_answers.specs.declared.failure.Failure.TheVariants as failure
use Rattle.pt_answers.specs.Texts.{IsTextIn, IsUnread, WithText}
use Rattle.pt_answers.specs.declared.failure.TextOf.TheVariants.{Table}

-- ## The disk.

abbrev pub set_reply : Result Unit SetError → Result Reply Failure
set_reply (Ok x) = Ok reply.Done
set_reply (Err error) = Err (set_failure error)

-- `set`, by what becomes of the primary copy: the disk denotes what the draft makes of what it denoted; or what a refusal or a failure left
abbrev pub SetsDisk : {D B : _} → Choice → Ghosts D B → Draft → List Guid → D → D → Result Reply Failure → Type 0
SetsDisk {D} {B} primary g draft fresh old new answer = IsSameDisk g old new
    × Answers set_reply (λ r. Blames set_fault_in r (g.faults old) (g.faults new) × IfErr r SetHidesNoFailure
    × (g.tells → Becomes primary B (g.count old) fresh draft r (g.told old) (g.told new))) answer

-- `set --plan`: the text of the plan for that, or why there is none
abbrev pub PlansSetting : {D B : _} → Choice → Ghosts D B → Draft → List Guid → D → D → Result Reply Failure → Type 0
PlansSetting {D} {B} primary g draft fresh old new answer = OnlyReads g old new × Plans B
    (λ phases. (g.faults new ≡ g.faults old) × (g.tells → IsPlanFor primary B (g.count old) (g.told old).seen fresh draft phases))
    (λ error. (g.faults new ≡ with_fault (g.faults old) (set_fault_in error))
    × (g.tells → NotPlanned primary B (g.count old) (g.told old).seen fresh draft error))
    set_failure answer

-- ## The text.

-- what a file is read as: a draft, or why it gives none
abbrev pub ReadsDraft : Option (List ℕ) → Result Draft Failure → Type 0
ReadsDraft known (Ok draft) = IsTextIn known (λ text. draft_of text ≡ Ok draft)
ReadsDraft known (Err (failure.Table fault)) = IsTextIn known (λ text. draft_of text ≡ Err fault)
ReadsDraft known (Err (failure.NoText Table why)) = IsUnread known why
ReadsDraft known (Err failure.Memory) = Unit {0}
ReadsDraft known (Err _) = ⊥

-- the file of a table's text is opened and read, and with the draft this comes next
abbrev pub WithDraft : {D T : Type 0} → (T → Option (List ℕ)) → List ℕ → (Draft → Doing (Call D T)) → Doing (Call D T)
WithDraft = WithText ReadsDraft Table

-- the fresh GUIDs are read before any file
abbrev pub AreRead : Option (List ℕ) → Result (List Guid) Failure → Type 0
AreRead text (Ok guids) = AreGiven text guids
AreRead text (Err why) = (why ≡ failure.Memory) ⊎ ((why ≡ failure.BadFresh) × AreNotGiven text)

abbrev pub WithFresh : {C : Type 0} → Option (List ℕ) → (List Guid → Doing C) → Doing C
WithFresh text Next old new answer = (guids : Result (List Guid) Failure) × AreRead text guids × Then Next guids old new answer
