use Rattle.std.proofs.Common.{◌≡◌, ◌≤◌, ◌/◌, ◌*◌, ℕ, inl, inr, arith}
use Rattle.pt_sector.specs.Sectors.{IsSectorSize}
use Rattle.pt_gpt.specs.Copies.{counted}
use Rattle.pt_follow.proofs.begin.known_with.Goals as goal

-- all entries in so many sectors take these
all_in : (b count : ℕ) → IsSectorSize b → counted b (counted b count * (b / 128)) ≡ counted b count
all_in b count (inl e) = rw e (omega arith)
all_in b count (inr e) = rw e (omega arith)

all_few : (b count : ℕ) → IsSectorSize b → count ≤ 128 → counted b count * (b / 128) ≤ 128
all_few b count (inl e) most = rw e (omega arith)
all_few b count (inr e) most = rw e (omega arith)

pub returns-clause-sectors : goal.returns-clause-sectors
returns-clause-sectors g c =
    let value = c.counted_sectors.ensures.value in rw value (all_in g.row.B c.args.count c.requires.size)

pub returns-clause-most : goal.returns-clause-most
returns-clause-most g c =
    let value = c.counted_sectors.ensures.value in rw value (all_few g.row.B c.args.count c.requires.size c.requires.most)
