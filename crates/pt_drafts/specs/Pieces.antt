-- Pieces of texts.
use Rattle.std.specs.Prelude.{ℕ, List, ◌-◌, ◌==◌, Option, Some, None, if◌then◌else◌, length, take, drop, bytes_eq}
use Rattle.std.specs.List.{slice_split}

-- what stands behind a beginning, where the text has it
abbrev pub behind : List ℕ → List ℕ → Option (List ℕ)
behind start text = if bytes_eq (take (length start) text) start then Some (drop (length start) text) else None

-- what stands in front of an end, where the text has it
abbrev pub in_front_of : List ℕ → List ℕ → Option (List ℕ)
in_front_of end text =
    if bytes_eq (drop (length text - length end) text) end then Some (take (length text - length end) text) else None

-- the parts of a text between the marks in it
abbrev pub pieces : ℕ → List ℕ → List (List ℕ)
pieces mark text = slice_split (λ c. c == mark) text
