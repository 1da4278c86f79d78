-- The lines of a layout: what private contracts cite.
use Rattle.std.specs.Prelude.{◌<◌, ◌≤◌, ℕ}

-- the two units are the halves of one character
pub record IsPair (u v : ℕ) : Type 0 where
  pub high : 0xD800 ≤ u
  pub below : u < 0xDC00
  pub low : 0xDC00 ≤ v
  pub last : v < 0xE000
