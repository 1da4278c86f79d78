use Rattle.pt_sector.specs.Sectors.{number_at}
use Rattle.byteorder.specs.Endian.{little_number}
use Rattle.std.proofs.lemmas.Grind.{common_steps}
use Rattle.std.specs.Prelude.{slice_range}
use Rattle.std.proofs.Common.{◌≡◌, ◌<◌, ◌+◌, ℕ, List, length, get_or, refl, sym, subst, arith}
use Rattle.pt_bsd.proofs.decode.entry_at.Goals as goal

from_slice : (bytes : List ℕ) (i j n x : ℕ) → i + n ≡ j → x ≡ little_number n (slice_range bytes i j) → number_at i n bytes ≡ x
from_slice bytes i j n x ends is = subst (λ (k : ℕ). little_number n (slice_range bytes i k) ≡ x) (sym ends) (sym is)

one_byte : (bytes : List ℕ) (i : ℕ) → i < length bytes → number_at i 1 bytes ≡ get_or bytes i 0
one_byte bytes i lt = grind (arith, common_steps)

pub returns : goal.returns
returns c =
    let n : ℕ = c.args.at in
    let bytes : List ℕ = c.args.bytes.now in
    record {
      size = from_slice bytes n (n + 4) 4 _ refl c.read_u32.ensures;
      offset = from_slice bytes (n + 4) (n + 8) 4 _ (omega arith) c.read_u32-2.ensures;
      fragment = from_slice bytes (n + 8) (n + 12) 4 _ (omega arith) c.read_u32-3.ensures;
      fstype = one_byte bytes (n + 12) (omega (arith, c.requires));
      frag = one_byte bytes (n + 13) (omega (arith, c.requires));
      cpg = from_slice bytes (n + 14) (n + 16) 2 _ (omega arith) c.read_u16.ensures;
    }
