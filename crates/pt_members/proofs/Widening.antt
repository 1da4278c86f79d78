-- Sectors in a row that come to hold all that partitions own.
use Rattle.std.proofs.Common.{◌++◌, ◌∷◌, [], ℕ, List, ⊎_elim, arith}
use Rattle.pt_members.specs.declared.member.Member.{Member}
use Rattle.pt_members.specs.declared.owned.Reach.{Reach}
use Rattle.pt_members.specs.Tables.{IsWithin}
use Rattle.pt_members.specs.inner.Members.{IsLeafWith, Widens}
use Rattle.pt_members.proofs.ByRows.{HasLeafAmong, among_cases, among_none}

pub within_none : (r : Reach) (s : ℕ) → HasLeafAmong [] s → IsWithin r s
within_none r s is = absurd (among_none s is)

-- with the leaf that comes next
pub within_more : (ms : List Member) (m : Member) (old new : Reach) → ((s : ℕ) → HasLeafAmong ms s → IsWithin old s)
    → Widens (IsLeafWith m) old new → (s : ℕ) → HasLeafAmong (ms ++ m ∷ []) s → IsWithin new s
within_more ms m old new so_far wide s is = ⊎_elim
    (λ before. (omega (arith, (so_far s before).0, wide.0), omega (arith, (so_far s before).1, wide.1)))
    (λ here. wide.2 s here) (among_cases ms m s is)
