-- Bytes that are summed part by part.
use Rattle.std.proofs.Common.{◌≡◌, ℕ, zero, suc, ◌+◌, ◌*◌, ◌<◌, List, [], ◌∷◌, ◌++◌, length, get_or, take, drop, refl, sym, ap, ◌∙◌}
use Rattle.std.proofs.Common.{arith}
use Rattle.std.specs.List.{concat}
use Rattle.std.specs.Simd.{first_chunks}
use Rattle.std.proofs.Math.Seq.{take-add}
use Rattle.std.proofs.lemmas.List.{append-nil, take_more, take-append-drop}
use Rattle.std.proofs.lemmas.List.Folds.{concat-append}
use Rattle.pt_sum.specs.Sums.{after_bytes}
use Rattle.pt_sum.proofs.Terms.{after_bytes-append}

-- the first n bytes, and then the others
pub two_parts : (register n : ℕ) (xs : List ℕ) → after_bytes (after_bytes register (take n xs)) (drop n xs) ≡ after_bytes register xs
two_parts register n xs = sym (after_bytes-append register (take n xs) (drop n xs)) ∙ ap (after_bytes register) (take-append-drop n xs)

-- one chunk more
pub chunk_more : (register : ℕ) (xss : List (List ℕ)) (i : ℕ) → i < length xss
    → after_bytes (after_bytes register (concat (take i xss))) (get_or xss i []) ≡ after_bytes register (concat (take (i + 1) xss))
chunk_more register xss i within =
    let joined : concat (take (i + 1) xss) ≡ concat (take i xss) ++ get_or xss i [] =
    ap concat (take_more xss i [] within)
    ∙ concat-append (take i xss) (get_or xss i [] ∷ [])
    ∙ ap (λ (xs : List ℕ). concat (take i xss) ++ xs) (append-nil (get_or xss i [])) in
    rw joined (sym (after_bytes-append register (concat (take i xss)) (get_or xss i [])))

joined_chunks : (n k : ℕ) (xs : List ℕ) → concat (first_chunks n k xs) ≡ take (k * n) xs
joined_chunks n zero xs = let none : 0 * n ≡ 0 = omega arith in rw none refl
joined_chunks n (suc k) xs =
    let more : suc k * n ≡ n + k * n = omega arith in
    rw more (ap (λ (ys : List ℕ). take n xs ++ ys) (joined_chunks n k (drop n xs)) ∙ sym (take-add n (k * n) xs))

-- k chunks of n bytes, and then the others
pub chunks_and_rest : (register n k : ℕ) (xs : List ℕ)
    → after_bytes (after_bytes register (concat (first_chunks n k xs))) (drop (k * n) xs) ≡ after_bytes register xs
chunks_and_rest register n k xs = rw (joined_chunks n k xs) (two_parts register (k * n) xs)
