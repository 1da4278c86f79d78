-- CRC-32, and the exclusive or of 16-bit words: what private contracts cite.
use Rattle.std.specs.Prelude.{ℕ, zero, suc}
use Rattle.pt_sum.specs.Sums.{shifted}

-- the register after n moves
unfoldable pub moved : ℕ → ℕ → ℕ
moved zero register = register
moved (suc n) register = moved n (shifted register)
