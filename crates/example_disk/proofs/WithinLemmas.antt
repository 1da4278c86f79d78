-- Lemmas on consecutive sectors of a disk: what they are, and what may stand in them.
use Rattle.std.specs.Prelude.{◌≡◌, ◌⊎◌, ℕ, ◌+◌, ◌-◌, ◌<◌, List, [], ◌∷◌, take, drop, slice_set, Option, Some}
use Rattle.std.proofs.Common.{refl, ap, ◌∙◌, subst, arith, inl, inr, ⊎_elim}
use Rattle.std.specs.List.{cons_option}
use Rattle.std.proofs.Math.Seq.{take-set-lt}
use Rattle.std.proofs.lemmas.List.{drop-set-add}
use Rattle.jawefon.specs.Sectors.{Sectors, Writes, Puts, MayHold}
use Rattle.example_disk.specs.Window.{window, moved, writes_in}
use Rattle.example_disk.specs.inner.ForFields.{falls, sector-window}

module _ (first n : ℕ) where
  pub moved-in : (k : ℕ) (v : List ℕ) → k < n → moved first n (first + k, v) ≡ Some (k, v)
  moved-in k v lt = ⊎_elim
      (λ at. let same : at.0 ≡ k = omega (arith, at.2) in at.3 ∙ ap (λ (j : ℕ). Some (j, v)) same)
      (λ out. absurd (out.1 k lt refl))
      ((falls first n) (first + k, v))

  puts_out : (ws : Writes) (k : ℕ) (v : List ℕ) → k < n → Puts (writes_in first n ws) k v → Puts ws (first + k) v
  puts_out [] k v lt puts = puts
  puts_out (w ∷ ws) k v lt puts = ⊎_elim
      (λ at. ⊎_elim (λ here. inl (omega (arith, at.2, here.0), here.1)) (λ later. inr (puts_out ws k v lt later))
      (subst (λ (o : Option (ℕ × List ℕ)). Puts (cons_option o (writes_in first n ws)) k v) at.3 puts))
      (λ out. inr (puts_out ws k v lt
      (subst (λ (o : Option (ℕ × List ℕ)). Puts (cons_option o (writes_in first n ws)) k v) out.0 puts)))
      ((falls first n) w)

  pub window-set : (d : Sectors) (k : ℕ) (v : List ℕ) → k < n
      → window first n (slice_set d (first + k) v) ≡ slice_set (window first n d) k v
  window-set d k v lt = ap (take n) (drop-set-add first d k v) ∙ take-set-lt n (drop first d) k v lt

  pub hold_out : (d : Sectors) (ws : Writes) (k : ℕ) (v : List ℕ) → k < n → MayHold (window first n d) (writes_in first n ws) k v
      → MayHold d ws (first + k) v
  hold_out d ws k v lt = ⊎_elim (λ is. inl (is ∙ (sector-window first n) d k lt)) (λ puts. inr (puts_out ws k v lt puts))
