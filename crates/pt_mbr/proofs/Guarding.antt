-- Sector 0 of a GPT disk.
use Rattle.std.proofs.Common.{◌≡◌, ℕ, ◌+◌, ◌<◌, ◌≤◌, List, ◌∷◌, ◌++◌, length, take, drop, replicate, get_or, Some, refl, sym, ap, ◌∙◌}
use Rattle.std.proofs.Common.{arith, inl}
use Rattle.std.specs.Prelude.{slice_range, slice_index, slice_set}
use Rattle.std.proofs.lemmas.List.{take-append-drop, drop-drop, get_or-drop, length-drop}
use Rattle.pt_mbr.specs.Records.{put_at, HasSignature, record_bytes, HasBootIndicators, IsProtective, protective_record}
use Rattle.pt_mbr.specs.inner.Records.{RecordFits, protective_bytes}
use Rattle.pt_mbr.proofs.Encoding.{has_fields, bytes_back, index_at, first_at}
use Rattle.pt_mbr.proofs.Kept.{range_at}

-- the bytes of a protective sector
pub protective_laid : (n : ℕ) (e b : List ℕ) → e ≡ record_bytes (Some (protective_record n)) → b ≡ put_at 0 e (replicate 66 0)
    → slice_set (slice_set b 64 0x55) 65 0xAA ≡ protective_bytes n
unfolding put_at record_bytes protective_bytes
protective_laid n e b es bs = rw (bs, es) (laid_there n) where
  laid_there : (m : ℕ)
      → slice_set (slice_set (put_at 0 (record_bytes (Some (protective_record m))) (replicate 66 0)) 64 0x55) 65 0xAA ≡ protective_bytes m
  laid_there m = refl

pub protective_fits : (n : ℕ) → RecordFits (protective_record n)
protective_fits n = record { start_chs = refl; end_chs = refl; start = omega arith; size = omega arith }

-- what stands where in those bytes
record Places (tail : List ℕ) : Type 0 where
  zeroth : get_or tail 0 0 ≡ 0
  second : get_or tail 16 0 ≡ 0
  third : get_or tail 32 0 ≡ 0
  fourth : get_or tail 48 0 ≡ 0
  five : get_or tail 64 0 ≡ 0x55
  ten : get_or tail 65 0 ≡ 0xAA
  zeros : take 48 (drop 16 tail) ≡ replicate 48 0

places : (n : ℕ) (rest : List ℕ) → Places (protective_bytes n ++ rest)
unfolding record_bytes protective_bytes
places n rest = record { zeroth = refl; second = refl; third = refl; fourth = refl; five = refl; ten = refl; zeros = refl }

-- the record first, and the rest
parted : (n : ℕ) (rest : List ℕ)
    → protective_bytes n ++ rest ≡ record_bytes (Some (protective_record n)) ++ (replicate 48 0 ++ (0x55 ∷ 0xAA ∷ rest))
unfolding record_bytes protective_bytes
parted n rest = refl

pub protects : (n : ℕ) (b rest : List ℕ) → drop 446 b ≡ protective_bytes n ++ rest → IsProtective n b
unfolding HasSignature HasBootIndicators
protects n b rest same =
    let p = places n rest in
    record {
      formed = record {
        signature = (index_at 446 64 b _ same ∙ p.five, index_at 446 65 b _ same ∙ p.ten);
        boots = (
          inl (first_at 446 b _ same ∙ p.zeroth),
          inl (index_at 446 16 b _ same ∙ p.second),
          inl (index_at 446 32 b _ same ∙ p.third),
          inl (index_at 446 48 b _ same ∙ p.fourth),
        );
      };
      first = has_fields (protective_record n) 446 b _ (same ∙ parted n rest) (protective_fits n);
      zeros = range_at 446 16 64 b _ same ∙ p.zeros;
    }

two : (x : List ℕ) → 2 ≤ length x → get_or x 0 0 ≡ 0x55 → get_or x 1 0 ≡ 0xAA → x ≡ 0x55 ∷ 0xAA ∷ drop 2 x
two (p ∷ q ∷ x) long first second = λ i. first i ∷ second i ∷ x
two x long first second = absurd (omega (arith, long))

pub is_those : (n : ℕ) (b : List ℕ) → 512 ≤ length b → ((i : ℕ) → slice_index b i < 256) → IsProtective n b
    → drop 446 b ≡ protective_bytes n ++ drop 512 b
unfolding HasSignature
is_those n b long small is =
    let signature : drop 510 b ≡ 0x55 ∷ 0xAA ∷ drop 512 b =
    two (drop 510 b) (let e = length-drop 510 b in omega (arith, long, e)) (get_or-drop 510 b 0 0 ∙ is.formed.signature.0)
    (get_or-drop 510 b 1 0 ∙ is.formed.signature.1)
    ∙ ap (λ (t : List ℕ). 0x55 ∷ 0xAA ∷ t) (drop-drop 2 510 b) in
    let zeros : drop 462 b ≡ replicate 48 0 ++ drop 510 b =
    sym (take-append-drop 48 (drop 462 b)) ∙ (λ i. is.zeros i ++ drop-drop 48 462 b i) in
    bytes_back (protective_record n) 446 b (omega (arith, long)) small is.first
    ∙ ap (λ (t : List ℕ). record_bytes (Some (protective_record n)) ++ t) (zeros ∙ ap (λ (t : List ℕ). replicate 48 0 ++ t) signature)
    ∙ sym (parted n (drop 512 b))

-- written again, it stays
pub stays : (n : ℕ) (b : List ℕ) → length (protective_bytes n) ≡ 66 → drop 446 b ≡ protective_bytes n ++ drop 512 b
    → put_at 446 (protective_bytes n) b ≡ b
unfolding put_at
stays n b count same =
    let end : 446 + length (protective_bytes n) ≡ 512 = omega (arith, count) in
    ap (λ (k : ℕ). take 446 b ++ (protective_bytes n ++ drop k b)) end
    ∙ ap (λ (t : List ℕ). take 446 b ++ t) (sym same) ∙ take-append-drop 446 b

-- and told by its bytes 446 to 511
pub by_bytes : (n : ℕ) (b : List ℕ) → slice_range b 446 512 ≡ protective_bytes n → IsProtective n b
by_bytes n b same =
    protects n b (drop 512 b) (sym (take-append-drop 66 (drop 446 b)) ∙ (λ i. same i ++ drop-drop 66 446 b i))

pub has_bytes : (n : ℕ) (b : List ℕ) → 512 ≤ length b → ((i : ℕ) → slice_index b i < 256) → IsProtective n b
    → slice_range b 446 512 ≡ protective_bytes n
unfolding record_bytes protective_bytes
has_bytes n b long small is = ap (take 66) (is_those n b long small is) ∙ first_of n (drop 512 b) where
  first_of : (m : ℕ) (rest : List ℕ) → take 66 (protective_bytes m ++ rest) ≡ protective_bytes m
  first_of m rest = refl
