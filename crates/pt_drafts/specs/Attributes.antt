-- Attributes in sfdisk's words.
use Rattle.std.specs.Prelude.{ℕ, List, [], ◌∷◌, ◌^◌, ◌&&◌, Option, Some, None, if◌then◌else◌, nat_le, nat_lt, nat_eq, codes, bytes_eq}
use Rattle.std.specs.Prelude.{Bool, option_and_then, bit_or, bit_and}
use Rattle.pt_drafts.specs.Digits.{decimal_of}
use Rattle.pt_drafts.specs.Pieces.{behind, pieces}

-- the bits of n and those of all words, where each word has some
abbrev pub with_bits : (List ℕ → Option ℕ) → ℕ → List (List ℕ) → Option ℕ
with_bits f n [] = Some n
with_bits f n (w ∷ ws) = option_and_then (λ bits. with_bits f (bit_or n bits) ws) (f w)

abbrev pub if_own : ℕ → Option ℕ
if_own k = if nat_le 48 k && nat_lt k 64 then Some (2 ^ k) else None

-- bits 48 to 63 are the type's own, and go by their numbers
abbrev pub own_bit : List ℕ → Option ℕ
own_bit word = option_and_then if_own (decimal_of word)

-- numbers with commas between them
unfoldable pub own_bits : List ℕ → Option ℕ
own_bits text = with_bits own_bit 0 (pieces 44 text)

-- a word: the name of bit 0, 1 or 2, or numbers behind `GUID:`. Between two spaces stands none.
abbrev pub word_bits : List ℕ → Option ℕ
word_bits [] = Some 0
word_bits (c ∷ cs) =
    if bytes_eq (c ∷ cs) (codes "RequiredPartition") then Some 1
    else if bytes_eq (c ∷ cs) (codes "NoBlockIOProtocol") then Some 2
    else if bytes_eq (c ∷ cs) (codes "LegacyBIOSBootable") then Some 4
    else option_and_then own_bits (behind (codes "GUID:") (c ∷ cs))

-- the bits that words name, which stand between spaces
unfoldable pub bits_of : List ℕ → Option ℕ
bits_of text = with_bits word_bits 0 (pieces 32 text)

-- the bits that have words
abbrev pub worded : ℕ
worded = 0xFFFF000000000007

-- the words name all bits that have words
abbrev pub are_worded : ℕ → ℕ → Bool
are_worded attributes bits = nat_eq (bit_and attributes worded) bits
