-- How many sectors a disk has at most.
use Rattle.std.specs.Prelude.{ℕ, ◌*◌, ◌^◌, ◌<◌, ◌≤◌}
use Rattle.std.proofs.Common.{arith, inl, inr}
use Rattle.pt_sector.specs.Sectors.{IsSectorSize}

pub few_sectors : (n b : ℕ) → IsSectorSize b → n * b ≤ 2 ^ 64 → n < 2 ^ 63
few_sectors n b (inl small) bytes = let most : n * 512 ≤ 2 ^ 64 = rw small at bytes in omega (arith, most)
few_sectors n b (inr large) bytes = let most : n * 4096 ≤ 2 ^ 64 = rw large at bytes in omega (arith, most)
