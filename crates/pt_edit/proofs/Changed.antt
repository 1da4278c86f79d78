-- Lists of which the first elements are changed.
use Rattle.std.proofs.Common.{◌≡◌, ◌<◌, ◌≤◌, ◌+◌, ◌++◌, ◌∷◌, [], ℕ, suc, List, length, get_or, take, drop, map, append_assoc, ap, sym}
use Rattle.std.proofs.Common.{◌∙◌, arith}
use Rattle.std.proofs.Math.ListN.{set}
use Rattle.std.proofs.Math.Seq.{drop-cons, get_or-append_seam, set-append_seam}
use Rattle.std.proofs.lemmas.List.{drop_all, take_all, take_more, append-nil, length-map, length-take, map-append}
use Rattle.pt_members.specs.declared.layout.Labelled.{Labelled}

-- a list of which the first k elements are changed
abbrev pub changed_to : (Labelled → Labelled) → ℕ → List Labelled → List Labelled
changed_to f k xs = map f (take k xs) ++ drop k xs

-- with the next
next_changed : (f : Labelled → Labelled) (xs : List Labelled) (k : ℕ) (z : Labelled) → k < length xs
    → changed_to f (k + 1) xs ≡ map f (take k xs) ++ f (get_or xs k z) ∷ drop (k + 1) xs
next_changed f xs k z within =
    let taken : take (k + 1) xs ≡ take k xs ++ get_or xs k z ∷ [] = take_more xs k z within in
    ap (λ (ys : List Labelled). map f ys ++ drop (k + 1) xs) taken
    ∙ (ap (λ (ys : List Labelled). ys ++ drop (k + 1) xs) (map-append f (take k xs) (get_or xs k z ∷ []))
    ∙ append_assoc (map f (take k xs)) (f (get_or xs k z) ∷ []) (drop (k + 1) xs))

here_changed : (f : Labelled → Labelled) (xs : List Labelled) (k : ℕ) (z : Labelled) → k < length xs
    → changed_to f k xs ≡ map f (take k xs) ++ get_or xs k z ∷ drop (k + 1) xs
here_changed f xs k z within =
    let e : suc k ≡ k + 1 = omega arith in
    ap (λ (ys : List Labelled). map f (take k xs) ++ ys) (drop-cons xs k z within ∙ ap (λ (m : ℕ). get_or xs k z ∷ drop m xs) e)

front_len : (f : Labelled → Labelled) (xs : List Labelled) (k : ℕ) → k < length xs → length (map f (take k xs)) ≡ k
front_len f xs k within = simp (length-map, length-take) (omega arith)

-- the element there is still the old one
pub unchanged_at : (f : Labelled → Labelled) (xs : List Labelled) (k : ℕ) (z : Labelled) → k < length xs
    → get_or (changed_to f k xs) k z ≡ get_or xs k z
unchanged_at f xs k z within =
    ap (λ (ys : List Labelled). get_or ys k z) (here_changed f xs k z within)
    ∙ (ap (λ (m : ℕ). get_or (map f (take k xs) ++ get_or xs k z ∷ drop (k + 1) xs) m z) (sym (front_len f xs k within))
    ∙ get_or-append_seam (map f (take k xs)) (get_or xs k z) (drop (k + 1) xs) z)

change_at : (f : Labelled → Labelled) (xs : List Labelled) (k : ℕ) (z y : Labelled) → k < length xs → f (get_or xs k z) ≡ y
    → set (changed_to f k xs) k y ≡ changed_to f (k + 1) xs
change_at f xs k z y within is =
    ap (λ (ys : List Labelled). set ys k y) (here_changed f xs k z within)
    ∙ (ap (λ (m : ℕ). set (map f (take k xs) ++ get_or xs k z ∷ drop (k + 1) xs) m y) (sym (front_len f xs k within))
    ∙ (set-append_seam (map f (take k xs)) (get_or xs k z) (drop (k + 1) xs) y
    ∙ (ap (λ (x : Labelled). map f (take k xs) ++ x ∷ drop (k + 1) xs) (sym is) ∙ sym (next_changed f xs k z within))))

-- a change of the element that is there is the next of the list's
pub change_here : (f : Labelled → Labelled) (xs ys : List Labelled) (k : ℕ) (z y : Labelled) → k < length xs
    → ys ≡ changed_to f k xs → z ≡ get_or ys k z → y ≡ f z → set ys k y ≡ changed_to f (k + 1) xs
change_here f xs ys k z y within now here is =
    let same : get_or xs k z ≡ z = sym (unchanged_at f xs k z within) ∙ (ap (λ (l : List Labelled). get_or l k z) (sym now) ∙ sym here) in
    ap (λ (l : List Labelled). set l k y) now ∙ change_at f xs k z y within (ap f same ∙ sym is)

pub all_changed : (f : Labelled → Labelled) (xs : List Labelled) (k : ℕ) → length xs ≤ k → changed_to f k xs ≡ map f xs
all_changed f xs k past = rw (take_all k xs past, drop_all k xs past) (append-nil (map f xs))
