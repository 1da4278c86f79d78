-- Lemmas on what bytes in memory tell.
use Rattle.std.specs.Prelude.{◌≡◌, ℕ, List, [], ◌∷◌, ◌++◌, Vec}
use Rattle.std.proofs.Common.{ap, ◌∙◌}
use Rattle.std.proofs.lemmas.List.{map-append}
use Rattle.std.specs.declared.alloc.Global.{Global}
use Rattle.pt_disks.specs.Stores.{byte_moments}

pub moment_passes : (old : Vec ℕ Global) (past later : List (Vec ℕ Global)) → later ≡ past ++ old ∷ []
    → byte_moments later ≡ byte_moments past ++ (old.items, []) ∷ []
moment_passes old past later is = ap byte_moments is ∙ map-append (λ (v : Vec ℕ Global). (v.items, [])) past (old ∷ [])
