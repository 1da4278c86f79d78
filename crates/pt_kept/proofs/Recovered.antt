-- Edits of what a disk denotes.
use Rattle.std.specs.Prelude.{◌*◌, ◌≤◌, ◌^◌, ℕ, List, Option, Some, None, Ok, IfSome, length}
use Rattle.pt_sector.specs.Sectors.{Sectors, IsSectorSize}
use Rattle.pt_sector.proofs.Bound.{few_sectors}
use Rattle.pt_guid.specs.declared.guid.Guid.{Guid}
use Rattle.pt_recover.specs.Denotes.{Denotes, Numbers}
use Rattle.pt_members.specs.declared.layout.Layout.{Layout}
use Rattle.pt_words.specs.declared.word.Edit.{Edit}
use Rattle.pt_edit.specs.Edited.{Edited}
use Rattle.pt_cases.specs.Keeps.{Keeps}
use Rattle.pt_cases.proofs.Denoted.{denoted_is_shaped_lem}
use Rattle.pt_kept.specs.Old.{MayBe}
use Rattle.pt_kept.proofs.Fold.{edit_keeps_lem}

-- what a disk denotes is a layout that it may denote
denoted_may_be : (b : ℕ) (d : Sectors) (old : Option Layout) → Denotes b d old → IfSome old Numbers → MayBe b (length d) old
denoted_may_be b d None denotes numbers = tt
denoted_may_be b d (Some o) denotes numbers = (denotes.0, denoted_is_shaped_lem b d o numbers denotes)

pub edit_of_disk_keeps_lem : (b : ℕ) (d : Sectors) (old : Option Layout) (words : List Edit) (guids : List Guid) (p : Layout)
    → IsSectorSize b → length d * b ≤ 2 ^ 64
    → Denotes b d old → IfSome old Numbers → Edited b (length d) old words guids (Ok p) → Keeps b (length d) old p
edit_of_disk_keeps_lem b d old words guids p size bytes denotes numbers edited =
    edit_keeps_lem b (length d) old words guids p (few_sectors (length d) b size bytes) (denoted_may_be b d old denotes numbers) edited
