use Rattle.std.proofs.Common.{◌≡◌, length}
use Rattle.pt_sum.specs.Sums.{crc_of}
use Rattle.pt_sector.specs.Sectors.{Sectors}
use Rattle.pt_gpt.specs.Copies.{array_place, bytes_from}
use Rattle.pt_gpt.specs.declared.table.Side.{Side}
use Rattle.pt_gpt.specs.declared.table.Table.{Table}
use Rattle.pt_follow.specs.Follow.{Follows}
use Rattle.pt_follow.proofs.copy.FollowedCopy.sum_of_sectors.Given as goal

abbrev pub invariant-loop-k : goal.invariant-loop-k
invariant-loop-k g l = (d : Sectors) (side : Side) (t : Table) → Follows g.row.B d side t l.self
    → l.sum ≡ crc_of (bytes_from d (array_place g.row.B side (length d)) l.k)
