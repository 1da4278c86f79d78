-- What stands once a layout was found to be sound, and not there yet.
use Rattle.std.proofs.Common.{◌≡◌, ◌⊎◌, ℕ, length, Some}
use Rattle.pt_sector.specs.Sectors.{Sectors}
use Rattle.pt_members.specs.declared.layout.Layout.{Layout}
use Rattle.pt_layout.specs.Healthy.{IsHealthy}
use Rattle.pt_layout.specs.Sound.{Sound}
use Rattle.pt_layout.specs.Surveys.{IsSurvey}
use Rattle.pt_layout.specs.declared.survey.Survey.{Survey}
use Rattle.pt_cases.specs.Unplanned.{Start}

pub starts : (b : ℕ) (d : Sectors) (x : Survey) (p : Layout) → IsSurvey b d x → Sound b p → p.sectors ≡ length d
    → (x.layout ≡ Some p) ⊎ ¬ (x.layout ≡ Some p) → ¬ IsHealthy b d p → Start b d x.layout p
starts b d x p survey sound sectors stays not_done =
    record { from = survey.layout; sound = sound; sectors = sectors; stays = stays; not_done = not_done }
