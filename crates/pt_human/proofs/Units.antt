-- Names, character by character.
use Rattle.std.proofs.Common.{◌≡◌, ℕ, suc, List, [], ◌∷◌, length, arith, refl}
use Rattle.std.specs.Prelude.{true, ◌==◌}
use Rattle.std.specs.Char.Utf16.{utf16_chars}
use Rattle.pt_human.specs.Names.{name_text}

some_is_not_none : (n : ℕ) → true ≡ (suc n == 0) → ⊥
some_is_not_none n none = grind arith

-- where no units are left nothing more is shown
pub nothing_left : (us : List ℕ) → true ≡ (length us == 0) → name_text us ≡ []
unfolding utf16_chars
nothing_left [] none = refl
nothing_left (u ∷ us) none = absurd (some_is_not_none (length us) none)
