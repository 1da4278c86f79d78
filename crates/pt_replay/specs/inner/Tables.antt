-- The table of a text on a disk, step by step: what private contracts cite.
use Rattle.std.specs.Prelude.{◌≡◌, ℕ, List, Ok, Err}
use Rattle.pt_guid.specs.declared.guid.Guid.{Guid}
use Rattle.pt_sector.specs.Sectors.{Sectors}
use Rattle.pt_recover.specs.Denotes.{Reads}
use Rattle.pt_drafts.specs.Tables.{draft_of}
use Rattle.pt_drafts.specs.declared.draft.Draft.{Draft}
use Rattle.pt_plan.specs.Batches.{FailedInCommit}
use Rattle.pt_set.specs.Sets.{IsMadeFrom, IsUnread}
use Rattle.pt_set.specs.declared.error.SetError.{SetError}
use Rattle.pt_set.specs.declared.error.SetError.TheVariants.{Fault as Faulty, Disk}
use Rattle.pt_replay.specs.Tables.{Fills, IsTooLong, TextMakes}
use Rattle.pt_replay.specs.declared.answers.Reply.{Reply}
use Rattle.pt_replay.specs.declared.answers.Status.{Status}
use Rattle.pt_replay.specs.declared.answers.Status.TheVariants.{Done, No, Usage, Refused, NoTable, Device, Memory, Want, Room, WantOther}

-- a list is given, or there is no room for it
abbrev pub GivesAll : {A : Type 0} → List A → List A → List A → Status → Reply → Type 0
GivesAll list old new Done r = Fills list old new r
GivesAll list old new No r = ⊥
GivesAll list old new Usage r = ⊥
GivesAll list old new Refused r = ⊥
GivesAll list old new NoTable r = ⊥
GivesAll list old new Device r = ⊥
GivesAll list old new Memory r = ⊥
GivesAll list old new Want r = ⊥
GivesAll list old new Room r = IsTooLong list old new r
GivesAll list old new WantOther r = ⊥

-- a read failed that an error tells: its sector is one of these
abbrev pub FailedInSet : (ℕ → Type 0) → SetError → Type 0
FailedInSet S (Faulty fault) = Unit {0}
FailedInSet S (Disk error) = FailedInCommit S error

-- a sector that recovery reads, once the text was read
pub record ReadsOld (b : ℕ) (d : Sectors) (text : List ℕ) (s : ℕ) : Type 0 where
  pub draft : Draft
  pub drafted : draft_of text ≡ Ok draft
  pub reads : Reads b d s

-- why a draft makes no layout: its first fault, or the disk couldn't be read
abbrev pub NotMadeOf : ℕ → ℕ → Sectors → List Guid → Draft → SetError → Type 0
NotMadeOf b n d fresh draft (Faulty fault) = IsMadeFrom b n d fresh draft (Err fault)
NotMadeOf b n d fresh draft (Disk error) = IsUnread error

-- the same of a text
abbrev pub NotMade : ℕ → ℕ → Sectors → List Guid → List ℕ → SetError → Type 0
NotMade b n d fresh text (Faulty fault) = TextMakes b n d fresh text (Err fault)
NotMade b n d fresh text (Disk error) = IsUnread error
