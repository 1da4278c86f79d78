-- Names of entries.
use Rattle.std.specs.Prelude.{ℕ, List, ◌++◌, ◌-◌, ◌==◌, ◌&&◌, not, Option, Some, None, if◌then◌else◌, nat_le, length, replicate, flat_map}
use Rattle.std.specs.Prelude.{option_map}
use Rattle.std.specs.Prelude.{Bool, ◌^◌}
use Rattle.std.specs.Char.Escape.{encode_utf16}
use Rattle.std.specs.List.{list_any}
use Rattle.std.specs.Str.{chars}
use Rattle.serde_json.specs.Data.{Data}
use Rattle.pt_drafts.specs.Values.{at_most, whole_below}

-- the UTF-16 units of a text
abbrev pub units_of : List ℕ → List ℕ
units_of text = flat_map encode_utf16 (chars text)

-- the 36 units of an entry's name: these, with zeros behind them
abbrev pub padded : List ℕ → List ℕ
padded units = units ++ replicate (36 - length units) 0

-- U+0000 is in it
abbrev pub has_zero : List ℕ → Bool
has_zero text = list_any (λ c. c == 0) text

-- the name that a text gives, where it has room
unfoldable pub name_of : List ℕ → Option (List ℕ)
name_of text = if not (has_zero text) && nat_le (length (units_of text)) 36 then Some (padded (units_of text)) else None

-- the name that an array of units gives
abbrev pub units_in : Data → Option (List ℕ)
units_in d = option_map padded (at_most 36 (whole_below (2 ^ 16)) d)
