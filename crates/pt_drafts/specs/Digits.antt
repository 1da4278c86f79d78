-- Numbers as digits.
use Rattle.std.specs.Prelude.{ℕ, List, [], ◌∷◌, ◌+◌, ◌-◌, ◌*◌, ◌^◌, ◌&&◌, Option, Some, None, if◌then◌else◌, nat_lt}
use Rattle.std.specs.Prelude.{Bool, false}
use Rattle.std.specs.Char.{is_ascii_digit}
use Rattle.std.specs.List.{list_all}

-- the number that decimal digits write behind those of n
unfoldable pub number_after : ℕ → List ℕ → ℕ
number_after n [] = n
number_after n (c ∷ cs) = number_after (n * 10 + (c - 48)) cs

-- one digit at least, and nothing but digits
abbrev pub are_digits : List ℕ → Bool
are_digits [] = false
are_digits (c ∷ cs) = list_all is_ascii_digit (c ∷ cs)

-- the number that a text of decimal digits writes, where it fits 64 bits
abbrev pub decimal_of : List ℕ → Option ℕ
decimal_of text = if are_digits text && nat_lt (number_after 0 text) (2 ^ 64) then Some (number_after 0 text) else None

-- the digits that a text ends with
unfoldable pub digits_at_end : List ℕ → List ℕ
digits_at_end [] = []
digits_at_end (c ∷ cs) = if list_all is_ascii_digit (c ∷ cs) then c ∷ cs else digits_at_end cs
