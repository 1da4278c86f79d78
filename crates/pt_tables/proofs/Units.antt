-- Units of names, seen from one of their ends.
use Rattle.std.proofs.Common.{◌≡◌, ◌≢◌, ◌∙◌, ℕ, ◌+◌, ◌<◌, List, [], ◌∷◌, ◌++◌, length, take, drop, ap, refl, sym}
use Rattle.std.specs.Prelude.{Bool, true, false, ◌&&◌, nat_eq, slice_index}
use Rattle.std.proofs.lemmas.Bool.{ne_eqb}
use Rattle.std.proofs.lemmas.List.{drop_more, take_more}
use Rattle.pt_tables.specs.Entries.{all_zero, has_zero, trimmed}

-- a zero stands first in what is left
pub zero_here : (us : List ℕ) (k : ℕ) → k < length us → slice_index us k ≡ 0 → has_zero (drop k us) ≡ true
unfolding has_zero
zero_here us k within zero = ap has_zero (drop_more us k 0 within) ∙ rw zero refl

pub none_here : (us : List ℕ) (k : ℕ) → k < length us → slice_index us k ≢ 0 → has_zero (drop k us) ≡ has_zero (drop (k + 1) us)
unfolding has_zero
none_here us k within other = ap has_zero (drop_more us k 0 within) ∙ rw (ne_eqb (slice_index us k) 0 other) refl

-- ## Zeros at the end.

zeros_and_one : (us : List ℕ) → all_zero (us ++ 0 ∷ []) ≡ all_zero us
zeros_and_one [] = refl
zeros_and_one (u ∷ us) = ap (λ (z : Bool). nat_eq u 0 && z) (zeros_and_one us)

without_one : (us : List ℕ) → trimmed (us ++ 0 ∷ []) ≡ trimmed us
unfolding trimmed
without_one [] = refl
without_one (u ∷ us) = rw (zeros_and_one us, without_one us) refl

and_false : (z : Bool) → (z && false) ≡ false
and_false true = refl
and_false false = refl

not_all : (us : List ℕ) (v : ℕ) → nat_eq v 0 ≡ false → all_zero (us ++ v ∷ []) ≡ false
not_all [] v other = rw other refl
not_all (u ∷ us) v other = ap (λ (z : Bool). nat_eq u 0 && z) (not_all us v other) ∙ and_false (nat_eq u 0)

whole : (us : List ℕ) (v : ℕ) → nat_eq v 0 ≡ false → trimmed (us ++ v ∷ []) ≡ us ++ v ∷ []
unfolding trimmed
whole [] v other = rw other refl
whole (u ∷ us) v other = rw (not_all (u ∷ us) v other, whole us v other) refl

-- the last of the first k + 1 is a zero
pub one_less : (us : List ℕ) (k : ℕ) → k < length us → slice_index us k ≡ 0 → trimmed (take (k + 1) us) ≡ trimmed (take k us)
one_less us k within zero =
    ap trimmed (take_more us k 0 within) ∙ ap (λ (u : ℕ). trimmed (take k us ++ u ∷ [])) zero ∙ without_one (take k us)

-- it is none
pub no_less : (us : List ℕ) (k : ℕ) → k < length us → slice_index us k ≢ 0 → trimmed (take (k + 1) us) ≡ take (k + 1) us
no_less us k within other =
    ap trimmed (take_more us k 0 within) ∙ whole (take k us) (slice_index us k) (ne_eqb (slice_index us k) 0 other)
    ∙ sym (take_more us k 0 within)
