-- What is known of an element that a search finds.
use Rattle.std.proofs.Common.{◌≡◌, ℕ, zero, suc, List, [], ◌∷◌, ◌++◌, map, Bool, true, false, Option, Some, find, All}
use Rattle.std.proofs.Common.{refl, sym, ap, ◌∙◌, subst, arith}
use Rattle.std.specs.Prelude.{bytes_eq, ◌&&◌, not}
use Rattle.std.specs.List.{list_all, AllByRecursion, IsDistinct}
use Rattle.std.specs.Option.{unwrap_or}
use Rattle.std.proofs.lemmas.Bool.{true≢false}
use Rattle.std.proofs.lemmas.Slice.Eq.{bytes_eq-Decides}

pub same_value : {X : Type 0} (x y : X) → Some x ≡ Some y → x ≡ y
same_value {X} x y same = ap (λ (o : Option X). unwrap_or o x) same

pub same_bytes : (a b : List ℕ) → bytes_eq a b ≡ true → a ≡ b
same_bytes a b = (bytes_eq-Decides a b).0

pub both : (a b : Bool) → (a && b) ≡ true → (a ≡ true) × (b ≡ true)
both true b is = (refl, is)
both false b is = absurd (true≢false (sym is))

module _ {X : Type 0} where
  -- it passes
  pub found_passes : (p : X → Bool) (xs : List X) (x : X) → find p xs ≡ Some x → p x ≡ true
  found_passes p [] x found = absurd cc
  found_passes p (y ∷ ys) x found = by_test (p y) refl (λ rest. found_passes p ys x rest) where
    by_test : (b : Bool) → p y ≡ b → (find p ys ≡ Some x → p x ≡ true) → p x ≡ true
    by_test true is rest = subst (λ (z : X). p z ≡ true) (same_value y x (sym (rw is refl) ∙ found)) is
    by_test false is rest = rest (sym (rw is refl) ∙ found)

  -- what all of them pass it passes
  pub found_all : (t p : X → Bool) (xs : List X) (x : X) → list_all t xs ≡ true → find p xs ≡ Some x → t x ≡ true
  found_all t p [] x all found = absurd cc
  found_all t p (y ∷ ys) x all found = by_test (p y) refl (found_all t p ys x (both (t y) (list_all t ys) all).1) where
    by_test : (b : Bool) → p y ≡ b → (find p ys ≡ Some x → t x ≡ true) → t x ≡ true
    by_test true is rest =
        subst (λ (z : X). t z ≡ true) (same_value y x (sym (rw is refl) ∙ found)) (both (t y) (list_all t ys) all).0
    by_test false is rest = rest (sym (rw is refl) ∙ found)

  -- where names differ, the search for its name finds it too
  pub other_name : (name : X → List ℕ) (p : X → Bool) (n : List ℕ) (xs : List X) (x : X)
      → AllByRecursion (λ m. bytes_eq n m ≡ false) (map name xs) → find p xs ≡ Some x → bytes_eq n (name x) ≡ false
  other_name name p n [] x all found = absurd cc
  other_name name p n (y ∷ ys) x all found = by_test (p y) refl (other_name name p n ys x all.1) where
    by_test : (b : Bool) → p y ≡ b → (find p ys ≡ Some x → bytes_eq n (name x) ≡ false) → bytes_eq n (name x) ≡ false
    by_test true is rest =
        subst (λ (z : X). bytes_eq n (name z) ≡ false) (same_value y x (sym (rw is refl) ∙ found)) all.0
    by_test false is rest = rest (sym (rw is refl) ∙ found)

  pub found_named : (name : X → List ℕ) (p : X → Bool) (xs : List X) (x : X) → IsDistinct bytes_eq (map name xs) → find p xs ≡ Some x
      → find (λ y. bytes_eq (name y) (name x)) xs ≡ Some x
  unfolding IsDistinct
  found_named name p [] x apart found = absurd cc
  found_named name p (y ∷ ys) x apart found = by_test (p y) refl (found_named name p ys x apart.1) where
    by_test : (b : Bool) → p y ≡ b → (find p ys ≡ Some x → find (λ z. bytes_eq (name z) (name x)) ys ≡ Some x)
        → find (λ z. bytes_eq (name z) (name x)) (y ∷ ys) ≡ Some x
    by_test true is rest =
        let same : y ≡ x = same_value y x (sym (rw is refl) ∙ found) in
        let named : bytes_eq (name y) (name x) ≡ true = (bytes_eq-Decides (name y) (name x)).1 (ap name same) in
        rw named (ap Some same)
    by_test false is rest =
        let later : find p ys ≡ Some x = sym (rw is refl) ∙ found in
        rw (other_name name p (name y) ys x apart.0 later) (rest later)

  -- tests of all of two lists, and of each element
  pub joined : (t : X → Bool) (xs ys : List X) → list_all t xs ≡ true → list_all t ys ≡ true → list_all t (xs ++ ys) ≡ true
  joined t [] ys front rest = rest
  joined t (x ∷ xs) ys front rest =
      let parts = both (t x) (list_all t xs) front in rw parts.0 (joined t xs ys parts.1 rest)

  pub each : (t : X → Bool) (P : X → Type 0) → ((x : X) → t x ≡ true → P x) → (xs : List X) → list_all t xs ≡ true → All P xs
  each t P holds [] all k d lt = absurd (omega (arith, lt))
  each t P holds (x ∷ xs) all zero d lt = holds x (both (t x) (list_all t xs) all).0
  each t P holds (x ∷ xs) all (suc k) d lt = each t P holds xs (both (t x) (list_all t xs) all).1 k d (omega (arith, lt))

-- whether no name stands twice
abbrev pub lacks : List ℕ → List (List ℕ) → Bool
lacks n [] = true
lacks n (m ∷ ms) = not (bytes_eq n m) && lacks n ms

abbrev pub differ : List (List ℕ) → Bool
differ [] = true
differ (n ∷ ns) = lacks n ns && differ ns

all_others : (n : List ℕ) (ms : List (List ℕ)) → lacks n ms ≡ true → AllByRecursion (λ m. bytes_eq n m ≡ false) ms
all_others n [] lacking = tt
all_others n (m ∷ ms) lacking =
    let parts = both (not (bytes_eq n m)) (lacks n ms) lacking in (by_test (bytes_eq n m) parts.0, all_others n ms parts.1) where
      by_test : (b : Bool) → not b ≡ true → b ≡ false
      by_test true is = absurd (true≢false (sym is))
      by_test false is = refl

pub distinct : (ns : List (List ℕ)) → differ ns ≡ true → IsDistinct bytes_eq ns
unfolding IsDistinct
distinct [] apart = tt
distinct (n ∷ ns) apart =
    let parts = both (lacks n ns) (differ ns) apart in (all_others n ns parts.0, distinct ns parts.1)
