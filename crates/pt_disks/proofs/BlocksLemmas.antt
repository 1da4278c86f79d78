-- Lemmas on bytes as sectors.
use Rattle.std.specs.Prelude.{◌≡◌, ℕ, zero, suc, ◌+◌, ◌*◌, ◌<◌, ◌≤◌, List, [], ◌∷◌, ◌++◌, length, take, drop, slice_set}
use Rattle.std.proofs.Common.{refl, sym, ap, ◌∙◌, arith, length-take, length-drop, length-append}
use Rattle.std.proofs.lemmas.List.{take-append-le, drop-append-le, take-take, drop-take, drop-drop, take_at, drop_at, take_all}
use Rattle.std.proofs.lemmas.List.{length-take-le}
use Rattle.std.proofs.lemmas.Nat.{mul-le}
use Rattle.pt_sector.specs.Sectors.{Sectors, sector}
use Rattle.pt_disks.specs.Stores.{put_at, sectors_of}

pub sector-sectors_of : (b n k : ℕ) (bytes : List ℕ) → k < n → sector (sectors_of b n bytes) k ≡ take b (drop (k * b) bytes)
sector-sectors_of b zero k bytes lt = absurd (omega (arith, lt))
sector-sectors_of b (suc n) zero bytes lt = let none : 0 * b ≡ 0 = omega arith in rw none refl
sector-sectors_of b (suc n) (suc k) bytes lt =
    let next : suc k * b ≡ b + k * b = omega arith in
    sector-sectors_of b n k (drop b bytes) (omega (arith, lt))
    ∙ ap (λ (l : List ℕ). take b l) (drop-drop (k * b) b bytes) ∙ ap (λ (m : ℕ). take b (drop m bytes)) (sym next)

pub length-put_at : (at : ℕ) (v bytes : List ℕ) → at + length v ≤ length bytes → length (put_at at v bytes) ≡ length bytes
length-put_at at v bytes le = omega (
  arith,
  length-append (take at bytes) (v ++ drop (at + length v) bytes),
  length-append v (drop (at + length v) bytes),
  length-take at bytes,
  length-drop (at + length v) bytes,
  le,
)

-- sector k + 1 of the bytes is sector k of those behind the first sector
behind : (b j : ℕ) (v bytes : List ℕ) → b + j ≤ length bytes → drop b (put_at (b + j) v bytes) ≡ put_at j v (drop b bytes)
behind b j v bytes le =
    let fits : b ≤ length (take (b + j) bytes) = omega (arith, length-take (b + j) bytes, le) in
    let same : b + j + length v ≡ b + (j + length v) = omega arith in
    drop-append-le b (take (b + j) bytes) (v ++ drop (b + j + length v) bytes) fits
    ∙ ap (λ (l : List ℕ). l ++ (v ++ drop (b + j + length v) bytes)) (drop-take b j bytes)
    ∙ ap (λ (m : ℕ). take j (drop b bytes) ++ (v ++ drop m bytes)) same
    ∙ ap (λ (l : List ℕ). take j (drop b bytes) ++ (v ++ l)) (sym (drop-drop (j + length v) b bytes))

before : (b j : ℕ) (v bytes : List ℕ) → b + j ≤ length bytes → take b (put_at (b + j) v bytes) ≡ take b bytes
before b j v bytes le =
    let fits : b ≤ length (take (b + j) bytes) = omega (arith, length-take (b + j) bytes, le) in
    let inside : b ≤ b + j = omega arith in
    take-append-le b (take (b + j) bytes) (v ++ drop (b + j + length v) bytes) fits ∙ take-take b (b + j) bytes inside

-- a write of sector k is a write of the bytes from k * b on
pub sectors_of-put_at : (b n k : ℕ) (v bytes : List ℕ) → k < n → length v ≡ b → k * b ≤ length bytes
    → sectors_of b n (put_at (k * b) v bytes) ≡ slice_set (sectors_of b n bytes) k v
sectors_of-put_at b zero k v bytes lt long le = absurd (omega (arith, lt))
sectors_of-put_at b (suc n) zero v bytes lt long le =
    let none : 0 * b ≡ 0 = omega arith in
    let size : 0 + length v ≡ b = omega (arith, long) in
    rw none (rw size (ap (λ (l : List ℕ). l ∷ sectors_of b n (drop b (v ++ drop b bytes))) (take_at v (drop b bytes) b long)
    ∙ ap (λ (l : List ℕ). v ∷ sectors_of b n l) (drop_at v (drop b bytes) b long)))
sectors_of-put_at b (suc n) (suc k) v bytes lt long le =
    let next : suc k * b ≡ b + k * b = omega arith in
    let fits : b + k * b ≤ length bytes = rw next at le in
    let rest : k * b ≤ length (drop b bytes) = omega (arith, length-drop b bytes, fits) in
    rw next (ap (λ (l : List ℕ). l ∷ sectors_of b n (drop b (put_at (b + k * b) v bytes))) (before b (k * b) v bytes fits)
    ∙ ap (λ (l : List ℕ). take b bytes ∷ sectors_of b n l) (behind b (k * b) v bytes fits)
    ∙ ap (λ (l : Sectors). take b bytes ∷ l) (sectors_of-put_at b n k v (drop b bytes) (omega (arith, lt)) long rest))

-- sector k ends within n sectors
pub ends_within : (b n k : ℕ) → k < n → k * b + b ≤ n * b
ends_within b n k lt = let most : suc k * b ≤ n * b = mul-le (suc k) b n b (omega (arith, lt)) (omega arith) in omega (arith, most)

-- bytes read up to m, and then n more
read_on : (m n : ℕ) (xs : List ℕ) → take m xs ++ take n (drop m xs) ≡ take (m + n) xs
read_on zero n xs = let same : 0 + n ≡ n = omega arith in rw same refl
read_on (suc m) n [] = take_all n [] (omega arith) ∙ sym (take_all (suc m + n) [] (omega arith))
read_on (suc m) n (x ∷ xs) =
    let same : suc m + n ≡ suc (m + n) = omega arith in rw same (ap (λ (l : List ℕ). x ∷ l) (read_on m n xs))

take_past : (n : ℕ) (xs ys : List ℕ) → take (length xs + n) (xs ++ ys) ≡ xs ++ take n ys
take_past n [] ys = let same : 0 + n ≡ n = omega arith in rw same refl
take_past n (x ∷ xs) ys =
    let same : suc (length xs) + n ≡ suc (length xs + n) = omega arith in
    rw same (ap (λ (l : List ℕ). x ∷ l) (take_past n xs ys))

-- what came into a buffer that was filled as far as m, and then took n more
pub filled_more : (m n at : ℕ) (into part rest bytes : List ℕ) → m ≤ length into → n ≤ length part
    → take m into ≡ take m (drop at bytes) → take n part ≡ take n (drop (at + m) bytes)
    → take (m + n) (take m into ++ (part ++ rest)) ≡ take (m + n) (drop at bytes)
filled_more m n at into part rest bytes le fits first then =
    let long : length (take m into) ≡ m = length-take-le m into le in
    rw long at (take_past n (take m into) (part ++ rest))
    ∙ ap (λ (l : List ℕ). take m into ++ l) (take-append-le n part rest fits ∙ then ∙ ap (λ (l : List ℕ). take n l)
    (sym (drop-drop m at bytes)))
    ∙ ap (λ (l : List ℕ). l ++ take n (drop m (drop at bytes))) first ∙ read_on m n (drop at bytes)
