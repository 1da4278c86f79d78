-- What label places and a chain must hold.
use Rattle.std.specs.Prelude.{◌≡◌, ◌⊎◌, ℕ, List, Option, ◌<◌, Contains}
use Rattle.pt_mbr.specs.Chain.{StandsAt}
use Rattle.pt_mbr.specs.declared.ebr.Ebr.{Ebr}
use Rattle.pt_sector.specs.Sectors.{Sectors}
use Rattle.pt_members.specs.declared.layout.Layout.{Layout}
use Rattle.pt_cases.specs.Unplanned.{LabelsFit, IsFirstLeft, HasUnreadable, NoneLeft}
use Rattle.pt_cases.specs.Targets.{AreLabelTargets}
use Rattle.pt_planner.specs.declared.places.LabelTargets.{LabelTargets}
use Rattle.pt_planner.specs.declared.places.LabelTargets.TheVariants.{Misplaced, Foreign, Unreadable, Targets}
use Rattle.pt_cases.specs.declared.targets.target.Target.{Target}

-- ## What the parts of a wanted MBR layout's targets are.

-- sector 0, or the sector of one of these extended boot records
abbrev pub IsHeadOrEbr : List Ebr → ℕ → Type 0
IsHeadOrEbr chain s = (s ≡ 0) ⊎ StandsAt s chain

-- ## What the label places of a wanted layout p come to, on a disk d that denotes o.

abbrev pub PlacesAnswer : {b : _} → Sectors → Option Layout → Layout → LabelTargets b → Type 0
PlacesAnswer {b = b} d o p Misplaced = ¬ LabelsFit b p
PlacesAnswer {b = b} d o p (Foreign n) = LabelsFit b p × IsFirstLeft b d p n
PlacesAnswer {b = b} d o p Unreadable = LabelsFit b p × NoneLeft b d p × HasUnreadable b d o p
PlacesAnswer {b = b} d o p (Targets ts) = LabelsFit b p × NoneLeft b d p × AreLabelTargets d o p ts.items

-- ## Label places that were read, and what each must hold, told by bytes alone.

-- each target is of one of so many sectors
abbrev pub AreWithin : {b : _} → ℕ → LabelTargets b → Type 0
AreWithin n (Targets ts) = (t : Target _) → Contains ts.items t → t.at.0 < n
AreWithin n _ = Unit {0}
