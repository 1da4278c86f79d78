-- What is added piece by piece is added as a whole.
use Rattle.std.proofs.Common.{◌≡◌, ◌∙◌, ℕ, suc, ◌+◌, ◌-◌, List, ◌++◌, ap, sym, append_assoc, append-nil}
use Rattle.std.specs.Prelude.{flat_map}
use Rattle.std.proofs.lemmas.List.Concat.{flat_map-cons}
use Rattle.pt_human.specs.Bar.{from_on}

module _ (f : ℕ → List ℕ) (all text : List ℕ) (k left : ℕ) (so : all ≡ text ++ flat_map f (from_on k left)) where
  -- the piece for the next of the numbers that are left
  pub next_piece : (new : List ℕ) → left ≡ suc (left - 1) → new ≡ text ++ f k → all ≡ new ++ flat_map f (from_on (k + 1) (left - 1))
  unfolding from_on
  next_piece new some pushed =
      let rest = from_on (k + 1) (left - 1) in
      so ∙ ap (λ (l : ℕ). text ++ flat_map f (from_on k l)) some
      ∙ ap (λ (t : List ℕ). text ++ t) (flat_map-cons f k rest)
      ∙ sym (append_assoc text (f k) (flat_map f rest))
      ∙ ap (λ (t : List ℕ). t ++ flat_map f rest) (sym pushed)

  -- there is none
  pub no_piece : left ≡ 0 → text ≡ all
  unfolding from_on
  no_piece none = sym (so ∙ ap (λ (l : ℕ). text ++ flat_map f (from_on k l)) none ∙ append-nil text)
