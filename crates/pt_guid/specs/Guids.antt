-- GUIDs: their bytes on the disk, and those that are made from fresh bytes.
use Rattle.std.specs.Prelude.{ℕ, List, [], ◌∷◌, slice_index, Option, slice_set, bit_and, bit_or}
use Rattle.std.specs.Option.{option_map}
use Rattle.uuid.specs.Text.{parsed_hyphenated, hyphenated_text, lower}

-- ## A GUID is stored with the bytes of its first three fields turned round: the text
-- aabbccdd-eeff-gghh-iijj-kkllmmnnoopp is stored as dd cc bb aa ff ee hh gg ii jj kk ll mm nn oo pp.

-- the stored bytes of the bytes of a text, and the other way round
abbrev pub mixed : List ℕ → List ℕ
mixed b =
    slice_index b 3 ∷ slice_index b 2 ∷ slice_index b 1 ∷ slice_index b 0 ∷ slice_index b 5 ∷ slice_index b 4
    ∷ slice_index b 7 ∷ slice_index b 6 ∷ slice_index b 8 ∷ slice_index b 9 ∷ slice_index b 10 ∷ slice_index b 11
    ∷ slice_index b 12 ∷ slice_index b 13 ∷ slice_index b 14 ∷ slice_index b 15 ∷ []

-- the stored bytes that a text stands for: 36 characters, the hyphens in their places and hexadecimal digits of either case in all others
abbrev pub stored_of : List ℕ → Option (List ℕ)
stored_of text = option_map mixed (parsed_hyphenated text)

-- the text of stored bytes, in lower case
abbrev pub text_of : List ℕ → List ℕ
text_of stored = hyphenated_text lower (mixed stored)

-- ## Fresh GUIDs.

-- sixteen drawn bytes in the order of the text, as a version 4 GUID is stored
abbrev pub fresh_of : List ℕ → List ℕ
fresh_of b =
    mixed (slice_set (slice_set b 6 (bit_or (bit_and (slice_index b 6) 0x0F) 0x40)) 8 (bit_or (bit_and (slice_index b 8) 0x3F) 0x80))
