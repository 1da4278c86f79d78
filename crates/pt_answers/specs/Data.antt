-- `adopt --data`: the runs of sectors as they are read, and what is done with them.
use Rattle.std.specs.Prelude.{◌≡◌, ℕ, List, Option, Result, Ok, Err, IfErr, Vec, map}
use Rattle.std.specs.declared.alloc.Global.{Global}
use Rattle.pt_sector.specs.Device.{Blames, LeavesOnly}
use Rattle.pt_sector.specs.Overlays.{OnlyReads}
use Rattle.pt_sector.specs.declared.address.Extent.{Extent}
use Rattle.pt_sector.specs.declared.disk.Disk.{Ghosts}
use Rattle.pt_cases.specs.declared.primary.Primary.{Primary as Choice}
use Rattle.pt_carry.specs.Carries.{Carries, CarryHidesNoFailure, IsEither, fault_in_disk, fault_in_other}
use Rattle.pt_carry.specs.Runs.{ends_of, runs_of}
use Rattle.pt_carry.specs.declared.error.CarryError.{CarryError}
use Rattle.pt_report.specs.declared.reply.Reply.{Reply}
use Rattle.pt_report.specs.declared.reply.Reply.TheVariants as reply
use Rattle.pt_answers.specs.Answers.{Answers}
use Rattle.pt_answers.specs.Failures.{carry_failure}
use Rattle.pt_answers.specs.Images.{Call, Doing}
use Rattle.pt_answers.specs.OnDisks.{IsSameDisk}
use Rattle.pt_answers.specs.Texts.{IsTextIn, IsUnread, WithText}
use Rattle.pt_answers.specs.declared.failure.Failure.{Failure}
use Rattle.pt_answers.specs.declared.failure.Failure.TheVariants as failure
use Rattle.pt_answers.specs.declared.failure.TextOf.TheVariants.{Data}

-- ## The disks.

abbrev pub carry_reply : Result Unit CarryError → Result Reply Failure
carry_reply (Ok x) = Ok reply.Done
carry_reply (Err error) = Err (carry_failure error)

-- the disk denotes what the other one does, which is only read, and has the sectors of the runs as that has them; or what a refusal or a
-- failure left. A stop meanwhile left the old layout with part of the data, or the old layout or the new one with all of it
abbrev pub CarriesFrom : {D E B : _} → Choice → Ghosts D B → Ghosts E B → List Extent → D → D → E → E → Result Reply Failure → Type 0
CarriesFrom {D} {E} {B} primary g h runs old new other_old other_new answer = IsSameDisk g old new × OnlyReads h other_old other_new
    × Answers carry_reply (λ r. Blames fault_in_disk r (g.faults old) (g.faults new)
    × Blames fault_in_other r (h.faults other_old) (h.faults other_new) × IfErr r CarryHidesNoFailure
    × (g.tells → h.tells → Carries primary B runs (h.told other_old).seen r (g.told old) (g.told new))) answer
    × (g.tells → h.tells
    → LeavesOnly (g.told old) (g.told new) (IsEither B runs (h.told other_old).seen (g.told old).seen))

-- ## The text.

-- what a file is read as: runs of sectors, or why it gives none
abbrev pub ReadsRuns : Option (List ℕ) → Result (Vec Extent Global) Failure → Type 0
ReadsRuns known (Ok runs) = IsTextIn known (λ text. runs_of text ≡ Ok (map ends_of runs.items))
ReadsRuns known (Err (failure.BadData n)) = IsTextIn known (λ text. runs_of text ≡ Err n)
ReadsRuns known (Err (failure.NoText Data why)) = IsUnread known why
ReadsRuns known (Err failure.Memory) = Unit {0}
ReadsRuns known (Err _) = ⊥

-- the file of runs is opened and read, and with the runs this comes next
abbrev pub WithRuns : {D T : Type 0} → (T → Option (List ℕ)) → List ℕ → (List Extent → Doing (Call D T)) → Doing (Call D T)
WithRuns remaining path Next = WithText ReadsRuns Data remaining path (λ (runs : Vec Extent Global). Next runs.items)
