-- CRC-32, and the exclusive or of 16-bit words.
use Rattle.std.specs.Prelude.{ℕ, zero, suc, ◌/◌, ◌%◌, ◌==◌, List, [], ◌∷◌, fold, bit_xor, if◌then◌else◌, ◌+◌, ◌*◌}
use Rattle.std.specs.List.{flat_map}

-- ## CRC-32: a register of 32 bits that the bits of a list of bytes are folded into.

-- the n low bits of a number, the lowest first
unfoldable pub bits : ℕ → ℕ → List ℕ
bits zero x = []
bits (suc n) x = x % 2 ∷ bits n (x / 2)

-- a register moves down by one place; where a 1 falls out, the polynomial is added
unfoldable pub shifted : ℕ → ℕ
shifted register = if register % 2 == 1 then bit_xor (register / 2) 0xEDB88320 else register / 2

-- a bit is added in the lowest place, and the register moves down
unfoldable pub after_bit : ℕ → ℕ → ℕ
after_bit register b = shifted (bit_xor register b)

-- the register after the bits of these bytes
abbrev pub after_bytes : ℕ → List ℕ → ℕ
after_bytes register bytes = fold after_bit register (flat_map (bits 8) bytes)

-- the CRC of the bytes: from all ones, and complemented at the end
abbrev pub crc_of : List ℕ → ℕ
crc_of bytes = bit_xor (after_bytes 0xFFFFFFFF bytes) 0xFFFFFFFF

-- ## Sums without carry of 16-bit words.

-- the 16-bit words of bytes, the low byte first
unfoldable pub words : List ℕ → List ℕ
words [] = []
words (a ∷ []) = []
words (a ∷ b ∷ bytes) = (a + 256 * b) ∷ words bytes

-- the exclusive or of the words
abbrev pub xor_of : List ℕ → ℕ
xor_of bytes = fold bit_xor 0 (words bytes)
