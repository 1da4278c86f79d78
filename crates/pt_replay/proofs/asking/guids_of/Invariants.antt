use Rattle.std.proofs.Common.{◌≡◌, ℕ, List, map, take}
use Rattle.pt_guid.specs.Guids.{fresh_of}
use Rattle.pt_guid.specs.declared.guid.Guid.{Guid}
use Rattle.pt_replay.proofs.asking.guids_of.Given as goal

abbrev pub invariant-loop-k : goal.invariant-loop-k
invariant-loop-k l = l.guids.items ≡ map {B = Guid} (λ (group : List ℕ). record { 0 = fresh_of group }) (take l.k l.groups)
