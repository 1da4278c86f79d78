-- Plans and commits of a layout, or of another disk's layout: what private contracts cite.
use Rattle.std.specs.Prelude.{ℕ}
use Rattle.pt_sector.specs.Device.{Told}
use Rattle.pt_recover.specs.Denotes.{TellsNothing}
use Rattle.pt_plan.specs.declared.like_error.LikeError.{LikeError}
use Rattle.pt_plan.specs.declared.like_error.LikeError.TheVariants.{OtherSize, Other, Disk}

-- ## What a call tells that makes a disk like another one. Of the sectors, d are the disk's and e the other one's.

-- an error of the other disk, whose content this is, if it tells
abbrev pub IsOfOther : ℕ → Type 0 → Told → LikeError → Type 0
IsOfOther b tells now OtherSize = Unit {0}
IsOfOther b tells now (Other why) = tells → TellsNothing b now.seen why
IsOfOther b tells now (Disk error) = ⊥
