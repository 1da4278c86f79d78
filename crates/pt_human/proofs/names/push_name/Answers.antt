use Rattle.std.proofs.Common.{◌∙◌, ◌++◌, ℕ, List, ap, sym, append-nil, string_bytes}
use Rattle.pt_human.proofs.Units.{nothing_left}
use Rattle.pt_human.proofs.names.push_name.Goals as goal

pub returns : goal.returns
returns c =
    sym (append-nil (string_bytes c.loop-left.text))
    ∙ ap (λ (t : List ℕ). string_bytes c.loop-left.text ++ t) (sym (nothing_left c.loop-left.left.now c.loop-left-test.ensures))
    ∙ c.loop-left.invariant
