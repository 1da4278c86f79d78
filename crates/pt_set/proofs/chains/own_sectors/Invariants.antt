use Rattle.std.proofs.Common.{◌≡◌, ℕ, take, [], ◌∷◌}
use Rattle.std.specs.Prelude.{flat_map}
use Rattle.pt_set.specs.Chains.{own_sector}
use Rattle.pt_set.proofs.chains.own_sectors.Given as goal

abbrev pub invariant-loop-link : goal.invariant-loop-link
invariant-loop-link l = l.runs.items ≡ flat_map (λ (s : ℕ). own_sector s ∷ []) (take l.link-index l.links)
