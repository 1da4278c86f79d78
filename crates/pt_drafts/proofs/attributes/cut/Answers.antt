use Rattle.std.proofs.Common.{◌≡◌, ◌∙◌, ◌-◌, ◌+◌, ◌∷◌, List, ℕ, ap, sym, arith, drop, take, length, length-drop}
use Rattle.std.proofs.lemmas.List.{take_all}
use Rattle.pt_drafts.specs.Pieces.{pieces}
use Rattle.pt_drafts.proofs.Cuts.{cut_at, uncut}
use Rattle.pt_drafts.proofs.attributes.cut.Goals as goal

pub returns-then-text-k : goal.returns-then-text-k
returns-then-text-k c =
    let text = c.args.text.now in
    let k = c.loop-k.k in
    let all : drop (k + 1) text ≡ take (length text - (k + 1)) (drop (k + 1) text) =
    sym (take_all (length text - (k + 1)) (drop (k + 1) text) (simp length-drop (omega arith))) in
    cut_at c.args.mark text k (k + 1) (omega arith) c.loop-k-test.true c.loop-k.invariant c.if-text-k.true
    ∙ ap (λ (t : List ℕ). take k text ∷ pieces c.args.mark t) all

pub returns : goal.returns
returns c = uncut c.args.mark c.args.text.now (λ i below. c.loop-k.invariant i (omega arith))
