-- A sum that undoes the sum of the other words.
use Rattle.std.proofs.Common.{◌≡◌, ℕ, zero, suc, ◌+◌, ◌*◌, ◌-◌, ◌<◌, ◌≤◌, ◌^◌, ◌/◌, ◌%◌, List, [], ◌∷◌, ◌++◌, length, take, drop, get_or}
use Rattle.std.proofs.Common.{fold, refl, sym, ap, ◌∙◌, arith}
use Rattle.std.specs.Prelude.{bit_xor}
use Rattle.std.specs.Int.Bits.{xor_assoc, xor_self, xor_zero_l, xor_zero_r}
use Rattle.std.proofs.lemmas.List.{drop_more, take-append-drop, length-take-le}
use Rattle.std.proofs.Math.Seq.{take-append-add}
use Rattle.std.proofs.lemmas.List.Sums.{fold-append}
use Rattle.byteorder.specs.Endian.{little_number, little_bytes}
use Rattle.pt_sum.specs.Sums.{words, xor_of}
use Rattle.pt_sector.specs.Sectors.{number_at}
use Rattle.pt_bsd.specs.inner.Labels.{put_at}
use Rattle.pt_bsd.proofs.Front.{read_back}

-- a sum that begins with a word is that word and the sum from none
pub fold_from : (s : ℕ) (xs : List ℕ) → fold bit_xor s xs ≡ bit_xor s (fold bit_xor 0 xs)
fold_from s [] = sym (xor_zero_r s)
fold_from s (x ∷ xs) =
    fold_from (bit_xor s x) xs
    ∙ xor_assoc s x (fold bit_xor 0 xs)
    ∙ ap (bit_xor s) (sym (fold_from x xs) ∙ ap (λ (y : ℕ). fold bit_xor y xs) (sym (xor_zero_l x)))

pub words-append : (n : ℕ) (xs ys : List ℕ) → length xs ≡ 2 * n → words (xs ++ ys) ≡ words xs ++ words ys
unfolding words
words-append n [] ys even = refl
words-append n (a ∷ []) ys even = absurd (omega arith)
words-append zero (a ∷ b ∷ xs) ys even = absurd (omega arith)
words-append (suc n) (a ∷ b ∷ xs) ys even = ap (λ (ws : List ℕ). (a + 256 * b) ∷ ws) (words-append n xs ys (omega arith))

-- a word in the middle
pub middle : (n : ℕ) (xs ys : List ℕ) (a b w : ℕ) → length xs ≡ 2 * n → a + 256 * b ≡ w
    → xor_of (xs ++ (a ∷ b ∷ ys)) ≡ bit_xor (bit_xor (xor_of xs) w) (xor_of ys)
unfolding words
middle n xs ys a b w even is =
    ap (fold bit_xor 0) (words-append n xs (a ∷ b ∷ ys) even)
    ∙ fold-append bit_xor 0 (words xs) (words (a ∷ b ∷ ys))
    ∙ fold_from (bit_xor (xor_of xs) (a + 256 * b)) (words ys)
    ∙ ap (λ (x : ℕ). bit_xor (bit_xor (xor_of xs) x) (xor_of ys)) is

-- with the sum of all in place of a zero word nothing is left
mended : (n : ℕ) (xs ys : List ℕ) (a b c d : ℕ) → length xs ≡ 2 * n → a + 256 * b ≡ 0 → c + 256 * d ≡ xor_of (xs ++ (a ∷ b ∷ ys))
    → xor_of (xs ++ (c ∷ d ∷ ys)) ≡ 0
mended n xs ys a b c d even none is =
    let x = xor_of xs in
    let y = xor_of ys in
    let sum : c + 256 * d ≡ bit_xor x y = is ∙ middle n xs ys a b 0 even none ∙ ap (λ (z : ℕ). bit_xor z y) (xor_zero_r x) in
    middle n xs ys c d (bit_xor x y) even sum
    ∙ ap (λ (z : ℕ). bit_xor z y) (sym (xor_assoc x x y) ∙ ap (λ (z : ℕ). bit_xor z y) (xor_self x) ∙ xor_zero_l y)
    ∙ xor_self y

pub cut : (xs ys : List ℕ) (a b end m : ℕ) → length xs ≡ 136 → end ≡ 136 + suc (suc m)
    → take end (xs ++ (a ∷ b ∷ ys)) ≡ xs ++ (a ∷ b ∷ take m ys)
cut xs ys a b end m long is =
    let at : end ≡ length xs + suc (suc m) = omega arith in
    rw at (take-append-add xs (a ∷ b ∷ ys) (suc (suc m)))

pub split : (bytes : List ℕ) → 138 ≤ length bytes → bytes ≡ take 136 bytes ++ (get_or bytes 136 0 ∷ get_or bytes 137 0 ∷ drop 138 bytes)
split bytes long =
    let first : drop 136 bytes ≡ get_or bytes 136 0 ∷ drop 137 bytes = drop_more bytes 136 0 (omega arith) in
    let second : drop 137 bytes ≡ get_or bytes 137 0 ∷ drop 138 bytes = drop_more bytes 137 0 (omega arith) in
    sym (take-append-drop 136 bytes) ∙ ap (λ (t : List ℕ). take 136 bytes ++ t) (first ∙ ap (λ (t : List ℕ). get_or bytes 136 0 ∷ t) second)

word_at : (bytes : List ℕ) → 138 ≤ length bytes → number_at 136 2 bytes ≡ get_or bytes 136 0 + 256 * get_or bytes 137 0
word_at bytes long =
    let first : drop 136 bytes ≡ get_or bytes 136 0 ∷ drop 137 bytes = drop_more bytes 136 0 (omega arith) in
    let second : drop 137 bytes ≡ get_or bytes 137 0 ∷ drop 138 bytes = drop_more bytes 137 0 (omega arith) in
    ap (λ (t : List ℕ). little_number 2 (take 2 t)) (first ∙ ap (λ (t : List ℕ). get_or bytes 136 0 ∷ t) second) ∙ omega arith

-- bytes that are cut behind the sum
pub summed : (end s : ℕ) (bytes : List ℕ) → 138 ≤ end → end ≤ length bytes → number_at 136 2 bytes ≡ 0 → s < 2 ^ 16
    → s ≡ xor_of (take end bytes) → xor_of (take end (put_at 136 (little_bytes 2 s) bytes)) ≡ 0
unfolding put_at
summed end s bytes low high none small is =
    let front = take 136 bytes in
    let m = end - 138 in
    let rest = take m (drop 138 bytes) in
    let long : length front ≡ 136 = length-take-le 136 bytes (omega arith) in
    let at : end ≡ 136 + suc (suc m) = omega arith in
    let a = get_or bytes 136 0 in
    let b = get_or bytes 137 0 in
    let c = s % 256 in
    let d = s / 256 % 256 in
    let zero_word : a + 256 * b ≡ 0 = sym (word_at bytes (omega arith)) ∙ none in
    let before : take end bytes ≡ front ++ (a ∷ b ∷ rest) =
    ap (take end) (split bytes (omega arith)) ∙ cut front (drop 138 bytes) a b end m long at in
    let word : c + 256 * d ≡ s = omega (arith, read_back 2 s small) in
    ap xor_of (cut front (drop 138 bytes) c d end m long at)
    ∙ mended 68 front rest a b c d long zero_word (word ∙ is ∙ ap xor_of before)
