-- Lemmas on what a disk that stops and fails tells.
use Rattle.std.specs.Prelude.{◌≡◌, List, [], ◌∷◌, ◌++◌}
use Rattle.std.proofs.Common.{ap, ◌∙◌}
use Rattle.std.proofs.lemmas.List.{map-append}
use Rattle.pt_disks.specs.declared.in_memory.cache.WriteCache.{WriteCache}
use Rattle.pt_disks.specs.Stops.{moment_of, moments}

pub moments_on : {b : _} (old : WriteCache b) (past later : List (WriteCache b)) → later ≡ past ++ old ∷ []
    → moments later ≡ moments past ++ moment_of old ∷ []
moments_on old past later is = ap moments is ∙ map-append (λ (s : WriteCache _). moment_of s) past (old ∷ [])
