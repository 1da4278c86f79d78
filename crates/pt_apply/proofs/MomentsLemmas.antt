-- Lemmas on one phase that is being written.
use Rattle.std.specs.Prelude.{◌⊎◌, ◌+◌, List, [], ◌∷◌, ◌++◌}
use Rattle.std.proofs.Common.{inl, inr, ⊎_elim}
use Rattle.pt_sector.specs.Sectors.{Sectors}
use Rattle.pt_sector.specs.Device.{Moment, LeftBy}

pub left_split : (a b : List Moment) (c : Sectors) → LeftBy (a ++ b) c → LeftBy a c ⊎ LeftBy b c
left_split [] b c left = inr left
left_split (m ∷ a) b c (inl here) = inl (inl here)
left_split (m ∷ a) b c (inr there) = ⊎_elim (λ x. inl (inr x)) (λ y. inr y) (left_split a b c there)
