-- Paths of partitions, decimal numbers, and their texts: what private contracts cite.
use Rattle.std.specs.Prelude.{◌≡◌, ◌≢◌, length, slice_index, ◌<◌, ◌≤◌, ◌+◌, ℕ, List, [], ◌∷◌, Option, Some, None}
use Rattle.pt_path.specs.declared.path.Path.{Path}
use Rattle.pt_path.specs.Paths.{IsNumber}

-- neither a plus nor, before more, a zero stands in front
abbrev pub IsPlainText : List ℕ → Type 0
IsPlainText text = (slice_index text 0 ≢ 43) × (slice_index text 0 ≡ 48 → length text ≡ 1)

-- a text without a dot is this path
pub record IsUndotted (digits : List ℕ) (p : Path) : Type 0 where
  pub first : 1 ≤ p.number
  pub number : IsNumber digits p.number
  pub letter : p.letter ≡ None

-- one letter, from a to h
abbrev pub IsLettered : List ℕ → Option ℕ → Type 0
IsLettered text None = ⊥
IsLettered text (Some letter) = (letter < 8) × (text ≡ (97 + letter) ∷ [])

-- the texts before a dot and behind it are this path's
pub record IsDotted (digits text : List ℕ) (p : Path) : Type 0 where
  pub first : 1 ≤ p.number
  pub number : IsNumber digits p.number
  pub letter : IsLettered text p.letter
