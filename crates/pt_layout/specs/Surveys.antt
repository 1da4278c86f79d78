-- What a survey of a disk says.
use Rattle.std.specs.Prelude.{◌≡◌, ◌<◌, ◌↔◌, ℕ, length, Option, Some, None, IsTrue, IfSome}
use Rattle.pt_sector.specs.Sectors.{Sectors, sector}
use Rattle.pt_mbr.specs.Records.{IsProtective}
use Rattle.pt_gpt.specs.Copies.{HasCopy, HasRoom}
use Rattle.pt_gpt.specs.declared.table.Side.TheVariants.{Primary}
use Rattle.pt_recover.specs.Denotes.{IsTraceOf, Denotes, IsMbrDisk, Numbers, told_reason}
use Rattle.pt_recover.specs.Spans.{IsIn}
use Rattle.pt_recover.specs.declared.error.Reason.{Reason}
use Rattle.pt_members.specs.declared.layout.Layout.{Layout}
use Rattle.pt_layout.specs.Healthy.{IsFinding, IsGuarded, IsHealthy}
use Rattle.pt_layout.specs.declared.sound.finding.Finding.{Finding}
use Rattle.pt_layout.specs.declared.sound.finding.Finding.TheVariants as finding
use Rattle.pt_layout.specs.declared.health.Head.{Head}
use Rattle.pt_layout.specs.declared.health.Head.TheVariants as head
use Rattle.pt_layout.specs.declared.survey.Survey.{Survey}

-- what sector 0 says of the disk
abbrev pub HeadOf : Sectors → Head → Type 0
HeadOf d head.Mbr = IsMbrDisk d
HeadOf d head.Protected = (¬ IsMbrDisk d) × IsProtective (length d) (sector d 0)
HeadOf d head.Unprotected = (¬ IsMbrDisk d) × (0 < length d → ¬ IsProtective (length d) (sector d 0))

-- the first thing that is wrong with a disk that denotes this, or none where it is healthy
abbrev pub FindingIs : ℕ → Sectors → Option Layout → Option Finding → Type 0
FindingIs b d o (Some f) = IsFinding b d f
FindingIs b d (Some o) None = IsHealthy b d o
FindingIs b d None None = ⊥

pub record IsSurvey (b : ℕ) (d : Sectors) (x : Survey) : Type 0 where
  pub head : HeadOf d x.head
  pub layout : Denotes b d x.layout
  pub numbers : IfSome x.layout Numbers
  pub finding : FindingIs b d x.layout x.finding
  pub primary : ¬ IsMbrDisk d → HasRoom b (length d) → IsTrue x.primary ↔ HasCopy b d Primary
  pub guarded : (s : ℕ) → IsIn x.guarded s ↔ IsGuarded b d s
  pub trace : IsTraceOf b d x.trace

-- whatever the device tells: where the survey has no layout, its finding is the reason why there is none
abbrev pub Tells : Survey → Type 0
Tells x = x.layout ≡ None → (r : Reason) × (x.finding ≡ Some (finding.NoTable (told_reason r)))
