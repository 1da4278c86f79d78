use Rattle.std.proofs.Common.{◌≡◌, List, ℕ, map, drop, Bor}
use Rattle.pt_drafts.specs.Members.{is_name}
use Rattle.pt_drafts.proofs.members.is_name.Given as goal

abbrev pub invariant-loop-known : goal.invariant-loop-known
invariant-loop-known l =
    is_name (map (λ (n : Bor (List ℕ)). n.now) l.names) l.name
    ≡ is_name (map (λ (n : Bor (List ℕ)). n.now) (drop l.known-index l.names)) l.name
