-- Arrays of values that are equal stand for equal lists.
use Rattle.std.proofs.Common.{◌≡◌, ◌∙◌, ℕ, List, [], ◌∷◌, map, ap, sym, refl}
use Rattle.serde_json.specs.Data.{Data}
use Rattle.serde_json.specs.View.{items_of}
use Rattle.pt_tables.specs.Fields.{array_of, num, nums}

module _ {X Y : Type 0} (f : X → Data) (g : X → Y) (back : (x y : X) → f x ≡ f y → g x ≡ g y) where
  items_one : (xs ys : List X) → items_of (map f xs) ≡ items_of (map f ys) → map g xs ≡ map g ys
  items_one [] [] same = refl
  items_one [] (y ∷ ys) same = absurd (cc)
  items_one (x ∷ xs) [] same = absurd (cc)
  items_one (x ∷ xs) (y ∷ ys) same =
      let first : f x ≡ f y = cc in
      let rest : items_of (map f xs) ≡ items_of (map f ys) = cc in
      rw (back x y first, items_one xs ys rest) refl

  pub one_array : (xs ys : List X) → array_of (map f xs) ≡ array_of (map f ys) → map g xs ≡ map g ys
  one_array xs ys same = items_one xs ys (cc)

itself : {X : Type 0} (xs : List X) → map (λ x. x) xs ≡ xs
itself [] = refl
itself (x ∷ xs) = ap (λ ys. x ∷ ys) (itself xs)

pub one_list : {X : Type 0} (f : X → Data) → ((x y : X) → f x ≡ f y → x ≡ y) → (xs ys : List X) → array_of (map f xs) ≡ array_of (map f ys)
    → xs ≡ ys
one_list f back xs ys same = sym (itself xs) ∙ one_array f (λ x. x) back xs ys same ∙ itself ys

pub one_num : (m n : ℕ) → num m ≡ num n → m ≡ n
one_num m n same = cc

pub one_nums : (ms ns : List ℕ) → nums ms ≡ nums ns → ms ≡ ns
one_nums ms ns same = one_list num one_num ms ns same

pub one_items : (ds es : List Data) → array_of ds ≡ array_of es → ds ≡ es
one_items ds es same = by_items ds es (cc) where
  by_items : (ds es : List Data) → items_of ds ≡ items_of es → ds ≡ es
  by_items [] [] same = refl
  by_items [] (e ∷ es) same = absurd (cc)
  by_items (d ∷ ds) [] same = absurd (cc)
  by_items (d ∷ ds) (e ∷ es) same =
      let first : d ≡ e = cc in
      let rest : items_of ds ≡ items_of es = cc in
      rw (first, by_items ds es rest) refl
