-- Lists that are filled one after another.
use Rattle.std.proofs.Common.{◌≡◌, ◌<◌, ◌≤◌, ◌+◌, ℕ, suc, List, [], ◌∷◌, ◌++◌, length, take, drop, get_or, map, Option, Some, None, refl}
use Rattle.std.proofs.Common.{sym, ap, ◌∙◌, arith}
use Rattle.std.proofs.Common.{append_assoc, append-nil}
use Rattle.std.specs.Prelude.{option_and_then, option_map, replicate}
use Rattle.std.proofs.lemmas.Bool.{eq-eqb, le-leb}
use Rattle.std.proofs.lemmas.List.{length-map, drop_more, drop_all, drop-replicate, take-append-drop, length-take-le}
use Rattle.serde_json.specs.Data.{Data}
use Rattle.serde_json.specs.View.{items_of}
use Rattle.pt_drafts.specs.Values.{all_of, list_of, list_in, exactly, at_most}
use Rattle.pt_drafts.specs.inner.Arrays.{filled, written_over}
use Rattle.pt_drafts.specs.Names.{padded}

-- what is left to come, behind what has come
abbrev pub joined : {A : Type 0} → List A → Option (List A) → Option (List A)
joined front rest = option_map (λ ys. front ++ ys) rest

pub items_listed : (ds : List Data) → list_of (items_of ds) ≡ ds
items_listed [] = refl
items_listed (d ∷ ds) = ap (λ (es : List Data). d ∷ es) (items_listed ds)

joined_more : {B : Type 0} (front : List B) (y : B) (rest : Option (List B))
    → joined front (joined (y ∷ []) rest) ≡ joined (front ++ y ∷ []) rest
joined_more front y None = refl
joined_more front y (Some ys) = ap Some (sym (append_assoc front (y ∷ []) ys))

module _ {X B : Type 0} (f : Data → Option B) (v : X → Data) (xs : List X) (k : ℕ) (front : List B) (whole : Option (List B)) where
  pub one_more : (x : X) (y : B) (new : List B) → k < length xs → x ≡ get_or xs k x
      → whole ≡ joined front (all_of f (map v (drop k xs))) → f (v x) ≡ Some y → new ≡ front ++ y ∷ []
      → whole ≡ joined new (all_of f (map v (drop (k + 1) xs)))
  unfolding all_of
  one_more x y new within is so found pushed =
      so ∙ ap (λ (ys : List X). joined front (all_of f (map v ys))) (drop_more xs k x within)
      ∙ rw (sym is, found, pushed) (joined_more front y (all_of f (map v (drop (k + 1) xs))))

  pub stopped : (x : X) → k < length xs → x ≡ get_or xs k x → whole ≡ joined front (all_of f (map v (drop k xs))) → f (v x) ≡ None
      → whole ≡ None
  unfolding all_of
  stopped x within is so none =
      so ∙ ap (λ (ys : List X). joined front (all_of f (map v ys))) (drop_more xs k x within) ∙ rw (sym is, none) refl

  pub finished : length xs ≤ k → whole ≡ joined front (all_of f (map v (drop k xs))) → whole ≡ Some front
  unfolding all_of
  finished past so =
      so ∙ ap (λ (ys : List X). joined front (all_of f (map v ys))) (drop_all k xs past) ∙ ap Some (append-nil front)

-- as many come out as there are
longer : {A B : Type 0} (y : B) (ys zs : List B) (x : A) (xs : List A) → y ∷ zs ≡ ys → length zs ≡ length xs → length ys ≡ length (x ∷ xs)
longer y ys zs x xs same len = sym (ap length same) ∙ ap suc len

all_of_length : {A B : Type 0} (f : A → Option B) (xs : List A) (ys : List B) → all_of f xs ≡ Some ys → length ys ≡ length xs
unfolding all_of
all_of_length f [] [] is = refl
all_of_length f [] (y ∷ ys) is = absurd cc
all_of_length {A} {B} f (x ∷ xs) ys is = by_first (f x) (all_of_length f xs) is where
  by_first : (o : Option B) → ((zs : List B) → all_of f xs ≡ Some zs → length zs ≡ length xs)
      → option_and_then (λ y. option_map (λ ys. y ∷ ys) (all_of f xs)) o ≡ Some ys → length ys ≡ length (x ∷ xs)
  by_first None rest is = absurd cc
  by_first (Some y) rest is = by_rest (all_of f xs) rest is where
    by_rest : (o : Option (List B)) → ((zs : List B) → o ≡ Some zs → length zs ≡ length xs)
        → option_map (λ ys. y ∷ ys) o ≡ Some ys → length ys ≡ length (x ∷ xs)
    by_rest None rest is = absurd cc
    by_rest (Some zs) rest is = longer y ys zs x xs (cc) (rest zs refl)

pub over_all : {A B : Type 0} (f : A → Option B) (xs : List A) (empty : List B) → length xs ≡ length empty
    → filled empty (all_of f xs) ≡ all_of f xs
over_all {A} {B} f xs empty same = by_all (all_of f xs) (all_of_length f xs) where
  by_all : (o : Option (List B)) → ((ys : List B) → o ≡ Some ys → length ys ≡ length xs) → filled empty o ≡ o
  by_all None len = refl
  by_all (Some ys) len =
      let as_many = len ys refl in
      ap (λ (zs : List B). Some (ys ++ zs)) (drop_all (length ys) empty (omega (arith, as_many, same))) ∙ ap Some (append-nil ys)

pub over_zeros : (o : Option (List ℕ)) → filled (replicate 36 0) o ≡ option_map padded o
over_zeros None = refl
over_zeros (Some ys) = ap (λ (zs : List ℕ). Some (ys ++ zs)) (drop-replicate (length ys) 36 0)

pub written : {B : Type 0} (all empty : List B) (k : ℕ) → k ≤ length all → drop k all ≡ drop k empty → written_over empty (take k all) ≡ all
written {B} all empty k within kept =
    let len : length (take k all) ≡ k = length-take-le k all within in
    ap (λ (n : ℕ). take k all ++ drop n empty) len ∙ ap (λ (ys : List B). take k all ++ ys) (sym kept) ∙ take-append-drop k all

-- ## Arrays of a length.

pub many_filled : {X B : Type 0} (f : Data → Option B) (v : X → Data) (vs : List X) (d : Data) (n : ℕ) (empty new : List B)
    → length empty ≡ n → length vs ≡ n → Some (map v vs) ≡ list_in d → Some new ≡ filled empty (all_of f (map v vs))
    → Some new ≡ exactly n f d
many_filled f v vs d n empty new room many there so =
    let len : length (map v vs) ≡ n = length-map vs v ∙ many in
    so ∙ over_all f (map v vs) empty (len ∙ sym room) ∙ rw (sym there, eq-eqb (length (map v vs)) n len) refl

pub few_filled : {X : Type 0} (f : Data → Option ℕ) (v : X → Data) (vs : List X) (d : Data) (new : List ℕ)
    → length vs ≤ 36 → Some (map v vs) ≡ list_in d → Some new ≡ filled (replicate 36 0) (all_of f (map v vs))
    → Some new ≡ option_map padded (at_most 36 f d)
few_filled f v vs d new few there so =
    let len : length (map v vs) ≤ 36 = omega (arith, length-map vs v, few) in
    so ∙ over_zeros (all_of f (map v vs)) ∙ rw (sym there, le-leb (length (map v vs)) 36 len) refl
