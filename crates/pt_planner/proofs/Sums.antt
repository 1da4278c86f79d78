-- A word is known where the exclusive or of it and of the others is.
use Rattle.std.proofs.Common.{◌≡◌, ℕ, zero, suc, ◌+◌, ◌*◌, ◌-◌, ◌≤◌, List, [], ◌∷◌, ◌++◌, length, take, drop, get_or, fold, refl, sym, ap}
use Rattle.std.proofs.Common.{◌∙◌, arith, length-take-le, take-append-drop}
use Rattle.std.specs.Prelude.{bit_xor}
use Rattle.std.specs.Int.Bits.{xor_assoc, xor_self, xor_zero_l, xor_zero_r}
use Rattle.std.proofs.lemmas.List.{drop_more}
use Rattle.std.proofs.Math.Seq.{take-append-add}
use Rattle.std.proofs.lemmas.List.Sums.{fold-append}
use Rattle.pt_sum.specs.Sums.{words, xor_of}
use Rattle.pt_planner.proofs.SameBytes.{Same, take_is, part_is}

-- a sum that begins with a word is that word and the sum from none
fold_from : (s : ℕ) (xs : List ℕ) → fold bit_xor s xs ≡ bit_xor s (fold bit_xor 0 xs)
fold_from s [] = sym (xor_zero_r s)
fold_from s (x ∷ xs) =
    fold_from (bit_xor s x) xs
    ∙ xor_assoc s x (fold bit_xor 0 xs)
    ∙ ap (bit_xor s) (sym (fold_from x xs) ∙ ap (λ (y : ℕ). fold bit_xor y xs) (sym (xor_zero_l x)))

words-append : (n : ℕ) (xs ys : List ℕ) → length xs ≡ 2 * n → words (xs ++ ys) ≡ words xs ++ words ys
unfolding words
words-append n [] ys even = refl
words-append n (a ∷ []) ys even = absurd (omega arith)
words-append zero (a ∷ b ∷ xs) ys even = absurd (omega arith)
words-append (suc n) (a ∷ b ∷ xs) ys even = ap (λ (ws : List ℕ). (a + 256 * b) ∷ ws) (words-append n xs ys (omega arith))

-- a word in the middle
middle : (n : ℕ) (xs ys : List ℕ) (a b : ℕ) → length xs ≡ 2 * n
    → xor_of (xs ++ (a ∷ b ∷ ys)) ≡ bit_xor (bit_xor (xor_of xs) (a + 256 * b)) (xor_of ys)
unfolding words
middle n xs ys a b even =
    ap (fold bit_xor 0) (words-append n xs (a ∷ b ∷ ys) even)
    ∙ fold-append bit_xor 0 (words xs) (words (a ∷ b ∷ ys))
    ∙ fold_from (bit_xor (xor_of xs) (a + 256 * b)) (words ys)

cut : (xs ys : List ℕ) (a b end m : ℕ) → length xs ≡ 136 → end ≡ 136 + suc (suc m)
    → take end (xs ++ (a ∷ b ∷ ys)) ≡ xs ++ (a ∷ b ∷ take m ys)
cut xs ys a b end m long is =
    let at : end ≡ length xs + suc (suc m) = omega arith in
    rw at (take-append-add xs (a ∷ b ∷ ys) (suc (suc m)))

-- the word of the checksum between what stands before and behind it
split : (bytes : List ℕ) → 138 ≤ length bytes → bytes ≡ take 136 bytes ++ (get_or bytes 136 0 ∷ get_or bytes 137 0 ∷ drop 138 bytes)
split bytes long =
    let first : drop 136 bytes ≡ get_or bytes 136 0 ∷ drop 137 bytes = drop_more bytes 136 0 (omega arith) in
    let second : drop 137 bytes ≡ get_or bytes 137 0 ∷ drop 138 bytes = drop_more bytes 137 0 (omega arith) in
    sym (take-append-drop 136 bytes) ∙ ap (λ (t : List ℕ). take 136 bytes ++ t) (first ∙ ap (λ (t : List ℕ). get_or bytes 136 0 ∷ t) second)

sum_of : (end m : ℕ) (v : List ℕ) → end ≡ 136 + suc (suc m) → end ≤ length v
    → xor_of (take end v) ≡ bit_xor (bit_xor (xor_of (take 136 v)) (get_or v 136 0 + 256 * get_or v 137 0)) (xor_of (take m (drop 138 v)))
sum_of end m v is within =
    let long : length (take 136 v) ≡ 136 = length-take-le 136 v (omega arith) in
    ap xor_of (ap (take end) (split v (omega arith)) ∙ cut (take 136 v) (drop 138 v) (get_or v 136 0) (get_or v 137 0) end m long is)
    ∙ middle 68 (take 136 v) (take m (drop 138 v)) (get_or v 136 0) (get_or v 137 0) long

-- two numbers whose exclusive or is none
xor_undo : (x y : ℕ) → bit_xor x y ≡ 0 → x ≡ y
xor_undo x y none =
    sym (xor_zero_r x) ∙ ap (bit_xor x) (sym (xor_self y)) ∙ sym (xor_assoc x y y) ∙ ap (λ (z : ℕ). bit_xor z y) none ∙ xor_zero_l y

xor_twice : (x z : ℕ) → bit_xor x (bit_xor x z) ≡ z
xor_twice x z = sym (xor_assoc x x z) ∙ ap (λ (w : ℕ). bit_xor w z) (xor_self x) ∙ xor_zero_l z

xor_one : (x a b y : ℕ) → bit_xor (bit_xor x a) y ≡ 0 → bit_xor (bit_xor x b) y ≡ 0 → a ≡ b
xor_one x a b y p q =
    let same : bit_xor x a ≡ bit_xor x b = xor_undo (bit_xor x a) y p ∙ sym (xor_undo (bit_xor x b) y q) in
    sym (xor_twice x a) ∙ ap (bit_xor x) same ∙ xor_twice x b

-- bytes without a sum that are the same but for the checksum have the same checksum
pub sum_same : (end : ℕ) (v u : List ℕ) → 138 ≤ end → end ≤ length v → length v ≡ length u → Same 0 136 v u → Same 138 end v u
    → xor_of (take end v) ≡ 0 → xor_of (take end u) ≡ 0
    → get_or v 136 0 + 256 * get_or v 137 0 ≡ get_or u 136 0 + 256 * get_or u 137 0
sum_same end v u low within long front back p q =
    let m = end - 138 in
    let is : end ≡ 136 + suc (suc m) = omega arith in
    let a = get_or v 136 0 + 256 * get_or v 137 0 in
    let b = get_or u 136 0 + 256 * get_or u 137 0 in
    let fronts : take 136 v ≡ take 136 u = take_is 136 v u (omega arith) long front in
    let rests : take m (drop 138 v) ≡ take m (drop 138 u) = part_is 138 m v u (omega arith) long (λ k le lt. back k le (omega arith)) in
    let one : bit_xor (bit_xor (xor_of (take 136 v)) a) (xor_of (take m (drop 138 v))) ≡ 0 = sym (sum_of end m v is within) ∙ p in
    let two : bit_xor (bit_xor (xor_of (take 136 v)) b) (xor_of (take m (drop 138 v))) ≡ 0 =
    ap (λ (x : List ℕ). bit_xor (bit_xor (xor_of x) b) (xor_of (take m (drop 138 v)))) fronts
    ∙ ap (λ (x : List ℕ). bit_xor (bit_xor (xor_of (take 136 u)) b) (xor_of x)) rests
    ∙ sym (sum_of end m u is (omega arith))
    ∙ q in
    xor_one (xor_of (take 136 v)) a b (xor_of (take m (drop 138 v))) one two
