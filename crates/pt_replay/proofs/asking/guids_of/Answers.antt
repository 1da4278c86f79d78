use Rattle.std.proofs.Common.{ℕ, List, [], ◌∷◌, ◌++◌, map, take, ap, sym, ◌∙◌}
use Rattle.pt_guid.specs.Guids.{fresh_of}
use Rattle.pt_guid.specs.declared.guid.Guid.{Guid}
use Rattle.pt_replay.proofs.Asked.{map_at}
use Rattle.pt_replay.proofs.asking.guids_of.Goals as goal

pub loop-k-preserved : goal.loop-k-preserved
loop-k-preserved c =
    c.in-Ok.ensures.items ∙ (ap (λ (t : List Guid). t ++ c.fresh.result ∷ []) c.loop-k.invariant
    ∙ (ap (λ (x : List ℕ). map {B = Guid} (λ (group : List ℕ). record { 0 = fresh_of group }) (take c.loop-k.k c.as_chunks.result.0.now)
    ++ record { 0 = x } ∷ []) c.fresh.ensures
    ∙ sym (map_at {Y = Guid} (λ (group : List ℕ). record { 0 = fresh_of group }) c.as_chunks.result.0.now c.loop-k.k _ c.loop-k-test.true)))
