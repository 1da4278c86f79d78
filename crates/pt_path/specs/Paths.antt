-- Paths of partitions, decimal numbers, and their texts.
use Rattle.std.specs.Prelude.{ℕ, ◌+◌, ◌*◌, Option, Some, None, ◌≡◌, ◌<◌, ◌≤◌, ◌^◌, List, [], ◌∷◌, ◌++◌, codes, encode_utf8, min}
use Rattle.pt_path.specs.declared.path.Path.{Path}
use Rattle.std.specs.Fmt.{decimal}

-- ## The order of paths.

-- a container's own letter is before a, b and so on
abbrev pub letter_rank : Option ℕ → ℕ
letter_rank None = 0
letter_rank (Some x) = x + 1

-- the place of a path in path order: by number, and for one number by letter
abbrev pub rank : Path → ℕ
rank p = 257 * p.number + letter_rank p.letter

-- ## Numbers and paths as texts.

-- the text is this number of at most 64 bits, in decimal digits without a zero in front
pub record IsNumber (text : List ℕ) (n : ℕ) : Type 0 where
  pub fits : n < 2 ^ 64
  pub digits : text ≡ decimal n

-- what stands behind the number of a path: nothing, or a dot and a letter from a on
abbrev pub letter_text : Option ℕ → List ℕ
letter_text None = []
letter_text (Some letter) = 46 ∷ (97 + letter) ∷ []

-- a letter from a to h
abbrev pub IsLetter : Option ℕ → Type 0
IsLetter None = Unit {0}
IsLetter (Some letter) = letter < 8

-- the text is this path
pub record IsPath (text : List ℕ) (p : Path) : Type 0 where
  pub first : 1 ≤ p.number
  pub fits : p.number < 2 ^ 64
  pub letter : IsLetter p.letter
  pub written : text ≡ decimal p.number ++ letter_text p.letter

-- what is shown behind the number of a path whose letter may be any number: nothing, or a dot and a character from a on
abbrev pub shown_letter : Option ℕ → List ℕ
shown_letter None = []
shown_letter (Some letter) = codes "." ++ encode_utf8 (min (97 + letter) 255)

-- a path as it is shown, also one that no text is
abbrev pub shown_path : Path → List ℕ
shown_path p = decimal p.number ++ shown_letter p.letter
