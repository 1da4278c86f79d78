-- Texts that stand one behind the other.
use Rattle.std.specs.Prelude.{◌≡◌, ◌≤◌, ℕ, List, [], ◌∷◌, IsUtf8, length}
use Rattle.std.specs.List.{slice_range}

-- the pieces of bytes that end at these places, where the first begins at this one
abbrev pub pieces : ℕ → List ℕ → List ℕ → List (List ℕ)
pieces start [] bytes = []
pieces start (end ∷ ends) bytes = slice_range bytes start end ∷ pieces end ends bytes

-- each of them is a text, and the last ends where the bytes do
abbrev pub HasTexts : ℕ → List ℕ → List ℕ → Type 0
HasTexts start [] bytes = start ≡ length bytes
HasTexts start (end ∷ ends) bytes = (start ≤ end) × IsUtf8 (slice_range bytes start end) × HasTexts end ends bytes
