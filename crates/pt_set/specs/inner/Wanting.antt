-- Why a disk has no layout by a draft.
use Rattle.std.specs.Prelude.{ℕ, List, Err}
use Rattle.pt_guid.specs.declared.guid.Guid.{Guid}
use Rattle.pt_sector.specs.Sectors.{Sectors}
use Rattle.pt_drafts.specs.declared.draft.Draft.{Draft}
use Rattle.pt_set.specs.declared.error.SetError.{SetError}
use Rattle.pt_set.specs.declared.error.SetError.TheVariants.{Fault as Faulty, Disk}
use Rattle.pt_set.specs.Sets.{IsMadeFrom, IsUnread}

-- the draft's first fault, or the disk couldn't be read
abbrev pub NotWanted : ℕ → ℕ → Sectors → List Guid → Draft → SetError → Type 0
NotWanted b n d fresh draft (Faulty fault) = IsMadeFrom b n d fresh draft (Err fault)
NotWanted b n d fresh draft (Disk error) = IsUnread error
