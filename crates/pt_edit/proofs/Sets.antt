-- Sets of sectors, by the list of what is taken.
use Rattle.std.proofs.Common.{ℕ, List}
use Rattle.std.specs.List.Sorted.{IsPermutation}
use Rattle.std.proofs.lemmas.List.Sorted.{Contains-permutation, IsPermutation-sym}
use Rattle.pt_edit.specs.declared.space.Run.{Run}
use Rattle.pt_edit.specs.Space.{IsInRuns, SameSectors}

-- a list in another order has the same sectors
in_permutation : (xs ys : List Run) (k : ℕ) → IsPermutation xs ys → IsInRuns xs k → IsInRuns ys k
in_permutation xs ys k moved is = (is.0, Contains-permutation xs ys is.0 moved is.1, is.2)

pub same_sectors : (xs ys : List Run) → IsPermutation xs ys → SameSectors xs ys
same_sectors xs ys moved = record {
  there = λ k is. in_permutation xs ys k moved is;
  back = λ k is. in_permutation ys xs k (IsPermutation-sym xs ys moved) is;
}
