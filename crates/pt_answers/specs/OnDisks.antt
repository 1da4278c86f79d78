-- What each subcommand does to a disk, by the disk's ghosts, and what it answers.
use Rattle.std.specs.Prelude.{◌≡◌, ℕ, List, IfErr, IfOk, Result}
use Rattle.pt_sector.specs.Device.{Blames, LeavesOnly, with_fault}
use Rattle.pt_sector.specs.Overlays.{OnlyReads, fault_of}
use Rattle.pt_sector.specs.Sectors.{Writes}
use Rattle.pt_sector.specs.declared.disk.Disk.{Ghosts}
use Rattle.pt_path.specs.declared.path.Path.{Path}
use Rattle.pt_gpt.specs.declared.table.Side.{Side}
use Rattle.pt_recover.specs.Denotes.{fault_in}
use Rattle.pt_recover.specs.FromSides.{side_fault_in}
use Rattle.pt_check.specs.Answers.{fault_in as check_fault_in}
use Rattle.pt_cases.specs.declared.primary.Primary.{Primary as Choice}
use Rattle.pt_plan.specs.Batches.{Commits, IsPlanned, IsRefusal, Repairs, Words}
use Rattle.pt_plan.specs.Commits.{commit_fault_in, HidesNoFailure, SafelyStopped}
use Rattle.pt_plan.specs.Layouts.{AfterIs, fault_in_disk, fault_in_other, BecomesLike, IsLikePlan, LikeHidesNoFailure, NotLike}
use Rattle.pt_plan.specs.Repairs.{repair_fault_in, MendHidesNoFailure}
use Rattle.pt_report.specs.declared.reply.Reply.{Reply}
use Rattle.pt_answers.specs.declared.failure.Failure.{Failure}
use Rattle.pt_answers.specs.Failures.{commit_failure, like_failure}
use Rattle.pt_answers.specs.Answers.{Answers, Applies, Checks, Frees, GivesAlone, Locates, Plans, Recovers, Verifies}
use Rattle.pt_answers.specs.Answers.{adopt_reply, after_reply, apply_reply, check_reply, copy_reply, edit_reply, free_reply, locate_reply}
use Rattle.pt_answers.specs.Answers.{repair_reply, show_reply, verify_reply}

-- `show`: what the disk denotes, or why nothing
abbrev pub ShowsDisk : {D B : _} → Ghosts D B → D → D → Result Reply Failure → Type 0
ShowsDisk {D} {B} g old new answer = OnlyReads g old new × Answers show_reply (λ r. Blames fault_in r (g.faults old) (g.faults new)
    × (g.tells → Recovers B (g.told old).seen r)) answer

-- `show --after`: what it would denote after the plan with these phases, or the checker's no
abbrev pub ShowsAfter : {D B : _} → Ghosts D B → List Writes → D → D → Result Reply Failure → Type 0
ShowsAfter {D} {B} g phases old new answer = OnlyReads g old new
    × Answers after_reply (λ r. Blames check_fault_in r (g.faults old) (g.faults new)
    × (g.tells → IfOk r (AfterIs B (g.told old).seen phases))) answer

-- `show --copy`: what one copy of a GPT gives alone, or why nothing
abbrev pub ShowsCopy : {D B : _} → Ghosts D B → Side → D → D → Result Reply Failure → Type 0
ShowsCopy {D} {B} g side old new answer = OnlyReads g old new
    × Answers (copy_reply side) (λ r. Blames side_fault_in r (g.faults old) (g.faults new)
    × (g.tells → GivesAlone B (g.told old).seen side r)) answer

-- `verify`: whether it is healthy, or what is first wrong with it
abbrev pub VerifiesDisk : {D B : _} → Ghosts D B → D → D → Result Reply Failure → Type 0
VerifiesDisk {D} {B} g old new answer = OnlyReads g old new
    × Answers verify_reply (λ r. Blames fault_of r (g.faults old) (g.faults new)
    × (g.tells → Verifies B (g.told old).seen r)) answer

-- `locate`: where sector k of a partition is
abbrev pub LocatesOn : {D B : _} → Ghosts D B → Path → ℕ → D → D → Result Reply Failure → Type 0
LocatesOn {D} {B} g path k old new answer = OnlyReads g old new
    × Answers locate_reply (λ r. Blames fault_in r (g.faults old) (g.faults new)
    × (g.tells → Locates B (g.told old).seen path k r)) answer

-- `free`: the blocks where a new partition may lie
abbrev pub FreesOn : {D B : _} → Ghosts D B → D → D → Result Reply Failure → Type 0
FreesOn {D} {B} g old new answer = OnlyReads g old new × Answers free_reply (λ r. Blames fault_in r (g.faults old) (g.faults new)
    × (g.tells → Frees B (g.told old).seen r)) answer

-- the disk is the same one, with as many sectors
abbrev pub IsSameDisk : {D B : _} → Ghosts D B → D → D → Type 0
IsSameDisk g old new = (g.count new ≡ g.count old) × (g.name new ≡ g.name old)

-- `edit`, by what becomes of the primary copy: the words are committed, or what a refusal or a failure left
abbrev pub EditsDisk : {D B : _} → Choice → Ghosts D B → Words → D → D → Result Reply Failure → Type 0
EditsDisk {D} {B} primary g words old new answer = IsSameDisk g old new
    × Answers edit_reply (λ r. Blames commit_fault_in r (g.faults old) (g.faults new) × IfErr r HidesNoFailure
    × (g.tells → Commits primary B (g.count old) words r (g.told old) (g.told new))) answer

-- `plan`: the text of the plan of these words, or why there is none
abbrev pub PlansOn : {D B : _} → Choice → Ghosts D B → Words → D → D → Result Reply Failure → Type 0
PlansOn {D} {B} primary g words old new answer = OnlyReads g old new × Plans B
    (λ phases. (g.faults new ≡ g.faults old) × (g.tells → IsPlanned primary B (g.count old) words (g.told old).seen phases))
    (λ error. (g.faults new ≡ with_fault (g.faults old) (commit_fault_in error))
    × (g.tells → IsRefusal primary B (g.count old) words (g.told old).seen error))
    commit_failure answer

-- `check`: the checker's answer to the plan with these phases
abbrev pub ChecksOn : {D B : _} → Ghosts D B → List Writes → D → D → Result Reply Failure → Type 0
ChecksOn {D} {B} g phases old new answer = OnlyReads g old new
    × Answers check_reply (λ r. Blames check_fault_in r (g.faults old) (g.faults new)
    × (g.tells → IfOk r (Checks B (g.told old).seen phases))) answer

-- `apply`: the plan is applied after the checker's yes, or what its no or a failure left; a stop meanwhile left the disk safe
abbrev pub AppliesTo : {D B : _} → Ghosts D B → List Writes → D → D → Result Reply Failure → Type 0
AppliesTo {D} {B} g phases old new answer = IsSameDisk g old new
    × Answers apply_reply (λ r. Blames commit_fault_in r (g.faults old) (g.faults new)
    × (g.tells → Applies B phases (g.told old) (g.told new) r)) answer
    × (g.tells → LeavesOnly (g.told old) (g.told new) (SafelyStopped B phases (g.told old).seen))

-- `repair`: the disk is healthy and denotes what it did, or what a refusal or a failure left
abbrev pub RepairsDisk : {D B : _} → Choice → Ghosts D B → D → D → Result Reply Failure → Type 0
RepairsDisk {D} {B} primary g old new answer = IsSameDisk g old new
    × Answers repair_reply (λ r. Blames repair_fault_in r (g.faults old) (g.faults new) × IfErr r MendHidesNoFailure
    × (g.tells → Repairs primary B (g.count old) r (g.told old) (g.told new))) answer

-- `adopt`: the disk denotes what the other one does, which is only read; or what a refusal or a failure left
abbrev pub AdoptsFrom : {D E B : _} → Choice → Ghosts D B → Ghosts E B → D → D → E → E → Result Reply Failure → Type 0
AdoptsFrom {D} {E} {B} primary g h old new other_old other_new answer = IsSameDisk g old new × OnlyReads h other_old other_new
    × Answers adopt_reply (λ r. Blames fault_in_disk r (g.faults old) (g.faults new)
    × Blames fault_in_other r (h.faults other_old) (h.faults other_new) × IfErr r LikeHidesNoFailure
    × (g.tells → h.tells → BecomesLike primary B (h.told other_old).seen r (g.told old) (g.told new))) answer

-- `adopt --plan`: the text of the plan for that, or why there is none
abbrev pub PlansAdopting : {D E B : _} → Choice → Ghosts D B → Ghosts E B → D → D → E → E → Result Reply Failure → Type 0
PlansAdopting {D} {E} {B} primary g h old new other_old other_new answer = OnlyReads g old new × OnlyReads h other_old other_new × Plans B
    (λ phases. (g.faults new ≡ g.faults old) × (h.faults other_new ≡ h.faults other_old)
    × (g.tells → h.tells → IsLikePlan primary B (h.told other_old).seen (g.told old).seen phases))
    (λ error. (g.faults new ≡ with_fault (g.faults old) (fault_in_disk error))
    × (h.faults other_new ≡ with_fault (h.faults other_old) (fault_in_other error))
    × (g.tells → h.tells → NotLike primary B (h.told other_old).seen (g.told old).seen error))
    like_failure answer
