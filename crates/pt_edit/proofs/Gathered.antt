-- A list that is gathered from another one's elements, one by one.
use Rattle.std.proofs.Common.{◌≡◌, ◌<◌, ◌≤◌, ◌+◌, ◌∙◌, ℕ, List, ◌++◌, length, get_or, take, sym, ap}
use Rattle.std.specs.Prelude.{flat_map}
use Rattle.std.proofs.lemmas.List.{flat_map_more, take_all, take_more}

-- behind what was there before all of them
pub one_more : {X A : Type 0} (f : X → List A) (xs : List X) (k : ℕ) (z : X) (start before after : List A) → k < length xs
    → before ≡ start ++ flat_map f (take k xs) → after ≡ before ++ f (get_or xs k z) → after ≡ start ++ flat_map f (take (k + 1) xs)
one_more f xs k z start before after lt so_far now =
    now
    ∙ (ap (λ (l : List _). l ++ f (get_or xs k z)) so_far
    ∙ (flat_map_more f start (take k xs) (get_or xs k z) ∙ ap (λ (l : List _). start ++ flat_map f l) (sym (take_more xs k z lt))))

-- all of them
pub all_of : {X A : Type 0} (f : X → List A) (xs : List X) (k : ℕ) (start all : List A) → length xs ≤ k
    → all ≡ start ++ flat_map f (take k xs) → all ≡ start ++ flat_map f xs
all_of f xs k start all past is = is ∙ ap (λ (l : List _). start ++ flat_map f l) (take_all k xs past)
