use Rattle.std.proofs.Common.{◌≡◌, ℕ, List, length, Bor}
use Rattle.std.specs.Option.{option_map}
use Rattle.pt_drafts.specs.Attributes.{with_bits, own_bit, own_bits}
use Rattle.pt_drafts.specs.inner.Steps.{pieces_of}
use Rattle.pt_drafts.proofs.attributes.own_bits.Given as goal

abbrev pub invariant-loop-rest : goal.invariant-loop-rest
invariant-loop-rest l =
    own_bits l.fn.text ≡ with_bits own_bit l.bits (pieces_of 44 (option_map (λ (t : Bor (List ℕ)). t.now) l.rest))

abbrev pub decreases-loop-rest : goal.decreases-loop-rest
decreases-loop-rest l = length (pieces_of 44 (option_map (λ (t : Bor (List ℕ)). t.now) l.rest))
