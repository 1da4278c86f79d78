-- Steps of the code.
use Rattle.std.specs.Prelude.{ℕ, List, [], ◌+◌, ◌-◌, ◌*◌, ◌^◌, ◌&&◌, Option, Some, None, if◌then◌else◌, nat_lt}
use Rattle.std.specs.Char.{is_ascii_digit}
use Rattle.pt_drafts.specs.Pieces.{pieces}

-- a number with one digit more, where that fits
abbrev pub next_number : ℕ → ℕ → Option ℕ
next_number n c = if is_ascii_digit c && nat_lt (n * 10 + (c - 48)) (2 ^ 64) then Some (n * 10 + (c - 48)) else None

-- the pieces of what is left of a text, where something is left
abbrev pub pieces_of : ℕ → Option (List ℕ) → List (List ℕ)
pieces_of mark None = []
pieces_of mark (Some text) = pieces mark text
