-- Pieces of a text, from where it is cut.
use Rattle.std.proofs.Common.{◌≡◌, ◌≢◌, ◌<◌, ℕ, zero, suc, List, [], ◌∷◌, length, take, drop, refl, arith}
use Rattle.std.specs.Prelude.{slice_index}
use Rattle.std.proofs.lemmas.Bool.{ne_eqb, eq-eqb}
use Rattle.pt_drafts.specs.Pieces.{pieces}

module _ (mark : ℕ) where
  cut_there : (text : List ℕ) (k : ℕ) → k < length text → ((i : ℕ) → i < k → slice_index text i ≢ mark) → slice_index text k ≡ mark
      → pieces mark text ≡ take k text ∷ pieces mark (drop (suc k) text)
  cut_there [] k within none is = absurd (omega arith)
  cut_there (c ∷ cs) zero within none is = rw (eq-eqb c mark is) refl
  cut_there (c ∷ cs) (suc k) within none is =
      let rest = cut_there cs k (omega arith) (λ i below. none (suc i) (omega arith)) is in
      rw (ne_eqb c mark (none 0 (omega arith)), rest) refl

  pub cut_at : (text : List ℕ) (k n : ℕ) → n ≡ suc k → k < length text → ((i : ℕ) → i < k → slice_index text i ≢ mark)
      → slice_index text k ≡ mark → pieces mark text ≡ take k text ∷ pieces mark (drop n text)
  cut_at text k n same within none is = rw same (cut_there text k within none is)

  pub uncut : (text : List ℕ) → ((i : ℕ) → i < length text → slice_index text i ≢ mark) → pieces mark text ≡ text ∷ []
  uncut [] none = refl
  uncut (c ∷ cs) none =
      let rest = uncut cs (λ i below. none (suc i) (omega arith)) in
      rw (ne_eqb c mark (none 0 (omega arith)), rest) refl
