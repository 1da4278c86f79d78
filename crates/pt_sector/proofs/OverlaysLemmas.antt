-- Lemmas on what an overlay tells.
use Rattle.std.specs.Prelude.{◌≡◌, ◌-◌, List, [], ◌∷◌, ◌++◌}
use Rattle.std.proofs.Common.{ap, ◌∙◌}
use Rattle.std.proofs.lemmas.List.{map-append}
use Rattle.pt_sector.specs.Sectors.{Sectors}
use Rattle.pt_sector.specs.Device.{Elapses}
use Rattle.pt_sector.specs.declared.own.Own.{Own}
use Rattle.pt_sector.specs.Overlays.{shown, moments, overlay_told}

pub elapses_overlay : {b : _} (seen : Sectors) (old new : Own b) (past later : List (Own b)) → later ≡ past ++ old ∷ []
    → Elapses (overlay_told seen old past) (overlay_told seen new later)
elapses_overlay seen old new past later is = ap (moments seen) is ∙ map-append (λ (own : Own _). (shown seen own, [])) past (old ∷ [])
