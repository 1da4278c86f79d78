use Rattle.std.proofs.Common.{◌≡◌, List, ℕ, map, Bor}
use Rattle.serde_json.specs.View.{members_view}
use Rattle.pt_drafts.specs.Members.{all_named}
use Rattle.pt_drafts.proofs.members.all_named.Given as goal

abbrev pub invariant-loop-name : goal.invariant-loop-name
invariant-loop-name l =
    all_named (map (λ (n : Bor (List ℕ)). n.now) l.names) (members_view l.initial.name-iterator)
    ≡ all_named (map (λ (n : Bor (List ℕ)). n.now) l.names) (members_view l.name-iterator)
