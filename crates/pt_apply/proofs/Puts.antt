-- Writes, and others after them.
use Rattle.std.specs.Prelude.{◌⊎◌, ℕ, List, [], ◌∷◌, ◌++◌}
use Rattle.std.proofs.Common.{inl, inr, ⊎_elim}
use Rattle.pt_sector.specs.Sectors.{Writes, Puts}

pub puts_split : (a c : Writes) (s : ℕ) (v : List ℕ) → Puts (a ++ c) s v → Puts a s v ⊎ Puts c s v
puts_split [] c s v puts = inr puts
puts_split (w ∷ a) c s v (inl here) = inl (inl here)
puts_split (w ∷ a) c s v (inr there) = ⊎_elim (λ left. inl (inr left)) (λ right. inr right) (puts_split a c s v there)

pub puts_left : (a c : Writes) (s : ℕ) (v : List ℕ) → Puts a s v → Puts (a ++ c) s v
puts_left [] c s v puts = absurd puts
puts_left (w ∷ a) c s v (inl here) = inl here
puts_left (w ∷ a) c s v (inr there) = inr (puts_left a c s v there)

pub puts_right : (a c : Writes) (s : ℕ) (v : List ℕ) → Puts c s v → Puts (a ++ c) s v
puts_right [] c s v puts = puts
puts_right (w ∷ a) c s v puts = inr (puts_right a c s v puts)
