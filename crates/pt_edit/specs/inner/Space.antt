-- Free sectors, and where a new partition is placed: what private contracts cite.
use Rattle.std.specs.Prelude.{◌≡◌, ◌≤◌, ◌+◌, ◌-◌, ◌^◌, ◌++◌, ◌∷◌, [], ℕ, List, Option, Some, None, if◌then◌else◌, nat_lt, min}
use Rattle.pt_edit.specs.declared.space.Run.{Run}
use Rattle.pt_edit.specs.Space.{Area, IsFree, part_of, longer_of}

-- ## What a sweep over the taken runs keeps.

-- a number, or none where it has more than 128 bits
abbrev pub Fits128 : ℕ → Option ℕ → Type 0
Fits128 n None = 2 ^ 128 ≤ n
Fits128 n (Some m) = m ≡ n

-- what is free before a taken run, from a first sector on
abbrev pub gap_of : Area → ℕ → Run → Run
gap_of a first run = record { first = first; last = min (run.first - 1) a.high }

-- the longer of a part and that of the gap before a taken run
abbrev pub best_past : Area → ℕ → Option Run → ℕ → Run → Option Run
best_past a alignment best first run =
    if nat_lt first run.first then longer_of best (part_of a alignment (gap_of a first run)) else best

-- a list with that gap behind it, where there is one
abbrev pub with_gap : Area → List Run → ℕ → Run → List Run
with_gap a blocks first run = if nat_lt first run.first then blocks ++ gap_of a first run ∷ [] else blocks

-- the last sector of the block that has a free one
pub record EndsBlock (a : Area) (first last : ℕ) : Type 0 where
  pub from : first ≤ last
  pub free : (k : ℕ) → first ≤ k → k ≤ last → IsFree a k
  pub after : ¬ IsFree a (last + 1)
