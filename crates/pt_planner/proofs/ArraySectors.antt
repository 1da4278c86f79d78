-- The sectors of an array that is encoded whole.
use Rattle.std.proofs.Common.{◌≡◌, ◌∙◌, inl, inr, ℕ, zero, suc, ◌+◌, ◌*◌, ◌/◌, ◌<◌, ◌≤◌, List, length, get_or, take, drop, Option}
use Rattle.std.proofs.Common.{refl, ap, arith}
use Rattle.std.specs.Simd.{first_chunks}
use Rattle.std.proofs.lemmas.List.{drop-drop}
use Rattle.pt_sector.specs.Sectors.{IsSectorSize}
use Rattle.pt_gpt.specs.Copies.{array_len, array_sector, IsEncoded}
use Rattle.pt_gpt.specs.declared.array.EncodedArray.{EncodedArray}
use Rattle.pt_gpt.specs.declared.entry.Entry.{Entry}
use Rattle.pt_gpt.proofs.Written.{encoded_sector}

chunk_is : (n m : ℕ) (xs : List ℕ) (k : ℕ) (d : List ℕ) → k < m → get_or (first_chunks n m xs) k d ≡ take n (drop (k * n) xs)
chunk_is n zero xs k d lt = absurd (omega (arith, lt))
chunk_is n (suc m) xs zero d lt = let none : 0 * n ≡ 0 = omega arith in rw none refl
chunk_is n (suc m) xs (suc k) d lt =
    let more : n + k * n ≡ suc k * n = omega arith in
    chunk_is n m (drop n xs) k d (omega (arith, lt))
    ∙ ap (λ (t : List ℕ). take n t) (drop-drop (k * n) n xs ∙ ap (λ (i : ℕ). drop i xs) more)

-- the bytes' chunks of a sector's size are the sectors of the array
pub sector_is : (b : ℕ) (es : List (Option Entry)) (a : EncodedArray) (bytes : List ℕ) (chunks : List (List ℕ)) (k : ℕ) (d : List ℕ)
    → IsSectorSize b → IsEncoded es a → bytes ≡ a.bytes.items → chunks ≡ first_chunks b (length bytes / b) bytes → k < array_len b
    → get_or chunks k d ≡ array_sector b es k
sector_is b es a bytes chunks k d size encoded same are within =
    let long : length bytes / b ≡ array_len b =
    ap (λ (n : ℕ). n / b) (ap (λ (t : List ℕ). length t) same ∙ encoded.long) in
    ap (λ (cs : List (List ℕ)). get_or cs k d) are
    ∙ chunk_is b (length bytes / b) bytes k d (rw long within)
    ∙ ap (λ (t : List ℕ). take b (drop (k * b) t)) (same ∙ encoded.bytes)
    ∙ encoded_sector b es k size encoded.fit within

pub array_few : (b : ℕ) → IsSectorSize b → array_len b ≤ 32
array_few b (inl e) = rw e (omega arith)
array_few b (inr e) = rw e (omega arith)
