-- What is written is a header.
use Rattle.std.proofs.Common.{◌≡◌, ℕ, ◌^◌, ◌<◌, ◌≤◌, List, [], ◌∷◌, ◌++◌, length, drop, replicate, refl, arith, lit≤}
use Rattle.std.specs.Prelude.{slice_range}
use Rattle.pt_sum.specs.Sums.{crc_of}
use Rattle.pt_gpt.specs.inner.Entries.{put_at}
use Rattle.pt_gpt.specs.Copies.{HeaderBytes, header_size}
use Rattle.pt_gpt.specs.inner.Copies.{unsummed_from, summed_from, HeaderFits}
use Rattle.pt_gpt.proofs.Written.{number_back}
use Rattle.pt_gpt.specs.declared.header.Header.{Header}

-- a header with a rest behind it
pub is_header : (b : ℕ) (h : Header) (d rest : List ℕ) → 92 ≤ b → length d ≡ 16 → d ≡ h.disk.0 → HeaderFits h
    → crc_of (unsummed_from h d) < 2 ^ 32
    → HeaderBytes b h (summed_from h d ++ rest)
unfolding summed_from unsummed_from put_at
is_header b h (x0 ∷ x1 ∷ x2 ∷ x3 ∷ x4 ∷ x5 ∷ x6 ∷ x7 ∷ x8 ∷ x9 ∷ xa ∷ xb ∷ xc ∷ xd ∷ xe ∷ xf ∷ []) rest room len same fits crc = record {
  signature = refl;
  revision = refl;
  size = (lit≤ tt, room);
  crc = number_back 4 _ crc;
  fields = record {
    my = number_back 8 h.my fits.my;
    alternate = number_back 8 h.alternate fits.alternate;
    first = number_back 8 h.first fits.first;
    last = number_back 8 h.last fits.last;
    disk = same;
    array = number_back 8 h.array fits.array;
    count = number_back 4 h.count fits.count;
    entry_size = number_back 4 h.entry_size fits.entry_size;
    array_crc = number_back 4 h.array_crc fits.array_crc;
  };
}
is_header b h d rest room len same fits crc = absurd (omega arith)

-- the parts that no field says
pub record Plain (bytes tail : List ℕ) : Type 0 where
  pub size : header_size bytes ≡ 92
  pub reserved : slice_range bytes 20 24 ≡ replicate 4 0
  pub rest : drop 92 bytes ≡ tail

pub is_plain : (h : Header) (d rest : List ℕ) → length d ≡ 16 → Plain (summed_from h d ++ rest) rest
unfolding summed_from unsummed_from put_at
is_plain h (x0 ∷ x1 ∷ x2 ∷ x3 ∷ x4 ∷ x5 ∷ x6 ∷ x7 ∷ x8 ∷ x9 ∷ xa ∷ xb ∷ xc ∷ xd ∷ xe ∷ xf ∷ []) rest len =
    record { size = refl; reserved = refl; rest = refl }
is_plain h d rest len = absurd (omega arith)
