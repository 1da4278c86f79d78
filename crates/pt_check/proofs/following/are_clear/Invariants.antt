use Rattle.std.proofs.Common.{ℕ, take}
use Rattle.pt_members.specs.Members.{IsPlace}
use Rattle.pt_members.specs.Tables.{IsGptTable}
use Rattle.pt_check.proofs.following.are_clear.Given as goal

abbrev pub invariant-loop-k : goal.invariant-loop-k
invariant-loop-k g l = (s : ℕ) → IsGptTable g.row.B l.sectors s → ¬ IsPlace (take l.k l.slices) s
