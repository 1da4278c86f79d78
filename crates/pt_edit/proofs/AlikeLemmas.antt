-- Lemmas on specs/Space.antt: lists of runs with the same sectors place alike.
use Rattle.std.proofs.Common.{◌≡◌, ◌∙◌, ◌+◌, ◌-◌, ℕ, List, Option, Some, None, refl}
use Rattle.std.proofs.lemmas.Bool.Decides.{same_from_decides}
use Rattle.pt_words.specs.declared.word.End.{End}
use Rattle.pt_words.specs.declared.error.Refusal.{Refusal}
use Rattle.pt_edit.specs.declared.space.Run.{Run}
use Rattle.pt_edit.specs.Space.{Area, IsFree, IsBlock, AreBlocks, SameSectors, with_taken, is_in, blocks_of, led, started_at, started}
use Rattle.pt_edit.specs.Space.{placed, Placed}
use Rattle.pt_edit.specs.Space.{NotPlaced}
use Rattle.pt_edit.proofs.Grouping.{blocks_are, blocks_same, in_runs, runs_in}

pub turned : (xs ys : List Run) → SameSectors xs ys → SameSectors ys xs
turned xs ys same = record { there = same.back; back = same.there }

pub free_alike : (a : Area) (ys : List Run) → SameSectors a.taken ys → (k : ℕ) → IsFree a k → IsFree (with_taken a ys) k
free_alike a ys same k free = (free.0, λ taken. free.1 (same.back k taken))

pub block_alike : (a : Area) (ys : List Run) → SameSectors a.taken ys → (b : Run) → IsBlock a b → IsBlock (with_taken a ys) b
block_alike a ys same b x = record {
  some = x.some;
  free = λ k held. free_alike a ys same k (x.free k held);
  before = λ k at free. x.before k at (free_alike (with_taken a ys) a.taken (turned a.taken ys same) k free);
  after = λ free. x.after (free_alike (with_taken a ys) a.taken (turned a.taken ys same) (b.last + 1) free);
}

pub are_alike : (a : Area) (ys blocks : List Run) → SameSectors a.taken ys → AreBlocks (with_taken a ys) blocks → AreBlocks a blocks
are_alike a ys blocks same are = record {
  each = λ b there. block_alike (with_taken a ys) a.taken (turned a.taken ys same) b (are.each b there);
  all = λ b is. are.all b (block_alike a ys same b is);
  ascending = are.ascending;
}

pub blocks_alike : (a : Area) (ys : List Run) → SameSectors a.taken ys → blocks_of (with_taken a ys) ≡ blocks_of a
blocks_alike a ys same = blocks_same a (blocks_of (with_taken a ys)) (are_alike a ys _ same (blocks_are (with_taken a ys)))

in_alike : (xs ys : List Run) (k : ℕ) → SameSectors xs ys → is_in ys k ≡ is_in xs k
in_alike xs ys k same = same_from_decides (is_in ys k) (is_in xs k) (in_runs ys k, runs_in ys k)
    (λ is. same.there k (in_runs xs k is), λ taken. runs_in xs k (same.back k taken))

led_alike : (a : Area) (ys : List Run) → SameSectors a.taken ys → (empties : Option (List ℕ)) (part : Run)
    → led (with_taken a ys) empties part ≡ led a empties part
led_alike a ys same None part = refl
led_alike a ys same (Some empties) part = rw (in_alike a.taken ys (part.first - 1) same)

started_alike : (a : Area) (ys : List Run) → SameSectors a.taken ys → (first : ℕ) → started_at (with_taken a ys) first ≡ started_at a first
unfolding started_at
started_alike a ys same first = simp (blocks_alike a ys same, led_alike a ys same)

pub placed_alike : (a : Area) (alignment start : ℕ) (end : End) (ys : List Run) → SameSectors a.taken ys
    → placed (with_taken a ys) alignment start end ≡ placed a alignment start end
unfolding placed started
placed_alike a alignment start end ys same = simp (blocks_alike a ys same, started_alike a ys same)

-- what is placed is placed, whichever runs have the taken sectors
pub placed_by_sectors_lem : (a : Area) (alignment start : ℕ) (end : End) (ys : List Run) (r : Run) → SameSectors a.taken ys
    → Placed a alignment start end r → Placed (with_taken a ys) alignment start end r
placed_by_sectors_lem a alignment start end ys r same is = placed_alike a alignment start end ys same ∙ is

-- and what is refused is refused
pub refused_by_sectors_lem : (a : Area) (alignment start : ℕ) (end : End) (ys : List Run) (r : Refusal) → SameSectors a.taken ys
    → NotPlaced a alignment start end r → NotPlaced (with_taken a ys) alignment start end r
refused_by_sectors_lem a alignment start end ys r same is = placed_alike a alignment start end ys same ∙ is
