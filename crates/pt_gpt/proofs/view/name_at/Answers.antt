use Rattle.std.proofs.Common.{◌≡◌, ℕ, ◌+◌, ◌*◌, ◌-◌, ◌<◌, List, get_or, take, drop, sym, ap, ◌∙◌, arith}
use Rattle.std.proofs.lemmas.List.{get_or-drop, get_or-take}
use Rattle.pt_gpt.proofs.view.name_at.Goals as goal

same_byte : (b : List ℕ) (i j : ℕ) → i + j < 72 → j < 2
    → get_or (drop i (take 72 (drop 56 b))) j 0 ≡ get_or (take (56 + i + 2 - (56 + i)) (drop (56 + i) b)) j 0
same_byte b i j within small =
    get_or-drop i (take 72 (drop 56 b)) j 0
    ∙ get_or-take 72 (drop 56 b) (i + j) 0 within
    ∙ get_or-drop 56 b (i + j) 0
    ∙ ap (λ (k : ℕ). get_or b k 0) (omega arith)
    ∙ sym (get_or-drop (56 + i) b j 0)
    ∙ sym (get_or-take (56 + i + 2 - (56 + i)) (drop (56 + i) b) j 0 (omega arith))

pub returns : goal.returns
returns c = (
  omega arith,
  λ k lt.
      let e = c.read_u16_into.ensures k (omega arith) in
      let b = c.args.bytes.now in
      let b0 = same_byte b (2 * k) 0 (omega arith) (omega arith) in
      let b1 = same_byte b (2 * k) 1 (omega arith) (omega arith) in
      omega (arith, e, b0, b1),
)
