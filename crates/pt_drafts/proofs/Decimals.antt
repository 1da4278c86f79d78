-- Decimal digits, one after another.
use Rattle.std.proofs.Common.{◌≡◌, ◌≤◌, ◌<◌, ℕ, zero, suc, ◌+◌, ◌-◌, ◌*◌, ◌^◌, ◌&&◌, List, [], ◌∷◌, length, drop, Bool, true, false, Option}
use Rattle.std.proofs.Common.{Some, None}
use Rattle.std.proofs.Common.{refl, sym, ap, ◌∙◌, arith}
use Rattle.std.specs.Prelude.{if◌then◌else◌, nat_lt, slice_index}
use Rattle.std.specs.Char.{is_ascii_digit}
use Rattle.std.specs.List.{list_all}
use Rattle.std.proofs.lemmas.Bool.{true≢false, ltb-true, lt-ltb}
use Rattle.pt_drafts.specs.Digits.{number_after, decimal_of, digits_at_end}
use Rattle.pt_drafts.specs.inner.Steps.{next_number}

-- the number that digits write behind those of n, where it fits
abbrev pub after : ℕ → List ℕ → Option ℕ
after n cs = if list_all is_ascii_digit cs && nat_lt (number_after n cs) (2 ^ 64) then Some (number_after n cs) else None

pub begun : (text : List ℕ) → 0 < length text → decimal_of text ≡ after 0 text
begun [] some = absurd (omega arith)
begun (c ∷ cs) some = refl

grows : (n : ℕ) (cs : List ℕ) → n ≤ number_after n cs
unfolding number_after
grows n [] = omega arith
grows n (c ∷ cs) = let more = grows (n * 10 + (c - 48)) cs in omega (arith, more)

too_large : (a b most : ℕ) → a ≤ b → nat_lt a most ≡ false → nat_lt b most ≡ false
too_large a b most less not = by_test (nat_lt b most) refl where
  by_test : (p : Bool) → nat_lt b most ≡ p → p ≡ false
  by_test true is = let below = ltb-true b most is in absurd (true≢false (sym (lt-ltb a most (omega (arith, below, less))) ∙ not))
  by_test false is = refl

and_false : (z : Bool) → (z && false) ≡ false
and_false true = refl
and_false false = refl

no_more : (n m : ℕ) (cs : List ℕ) → n ≤ m → nat_lt n (2 ^ 64) ≡ false → after m cs ≡ None
no_more n m cs less not = rw (
  too_large n (number_after m cs) (2 ^ 64) (let more = grows m cs in omega (arith, more, less)) not,
  and_false (list_all is_ascii_digit cs),
) refl

module _ (n c : ℕ) (cs : List ℕ) where
  pub one_more : (m : ℕ) → next_number n c ≡ Some m → after n (c ∷ cs) ≡ after m cs
  unfolding number_after
  one_more m next = by_digit (is_ascii_digit c) refl next where
    by_digit : (p : Bool) → is_ascii_digit c ≡ p
        → (if p && nat_lt (n * 10 + (c - 48)) (2 ^ 64) then Some (n * 10 + (c - 48)) else None) ≡ Some m → after n (c ∷ cs) ≡ after m cs
    by_digit false is next = absurd cc
    by_digit true is next = by_size (nat_lt (n * 10 + (c - 48)) (2 ^ 64)) next where
      by_size : (p : Bool) → (if p then Some (n * 10 + (c - 48)) else None) ≡ Some m → after n (c ∷ cs) ≡ after m cs
      by_size false next = absurd cc
      by_size true next = let same : n * 10 + (c - 48) ≡ m = cc in rw is (ap (λ (k : ℕ). after k cs) same)

  pub fits : (m : ℕ) → next_number n c ≡ Some m → m < 2 ^ 64
  fits m next = by_digit (is_ascii_digit c) next where
    by_digit : (p : Bool) → (if p && nat_lt (n * 10 + (c - 48)) (2 ^ 64) then Some (n * 10 + (c - 48)) else None) ≡ Some m → m < 2 ^ 64
    by_digit false next = absurd cc
    by_digit true next = by_size (nat_lt (n * 10 + (c - 48)) (2 ^ 64)) refl next where
      by_size : (p : Bool) → nat_lt (n * 10 + (c - 48)) (2 ^ 64) ≡ p → (if p then Some (n * 10 + (c - 48)) else None) ≡ Some m → m < 2 ^ 64
      by_size false is next = absurd cc
      by_size true is next =
          let same : n * 10 + (c - 48) ≡ m = cc in
          let below = ltb-true (n * 10 + (c - 48)) (2 ^ 64) is in
          omega (arith, same, below)

  pub stuck : next_number n c ≡ None → after n (c ∷ cs) ≡ None
  unfolding number_after
  stuck next = by_digit (is_ascii_digit c) refl next where
    by_digit : (p : Bool) → is_ascii_digit c ≡ p
        → (if p && nat_lt (n * 10 + (c - 48)) (2 ^ 64) then Some (n * 10 + (c - 48)) else None) ≡ None → after n (c ∷ cs) ≡ None
    by_digit false is next = rw is refl
    by_digit true is next = by_size (nat_lt (n * 10 + (c - 48)) (2 ^ 64)) refl next where
      by_size : (p : Bool) → nat_lt (n * 10 + (c - 48)) (2 ^ 64) ≡ p → (if p then Some (n * 10 + (c - 48)) else None) ≡ None
          → after n (c ∷ cs) ≡ None
      by_size true large next = absurd cc
      by_size false large next =
          rw is (no_more (n * 10 + (c - 48)) (n * 10 + (c - 48)) cs (omega arith) large)

pub ended : (n : ℕ) → n < 2 ^ 64 → after n [] ≡ Some n
unfolding number_after
ended n fits = rw (lt-ltb n (2 ^ 64) fits) refl

-- ## The digits at the end.

pub whole : (text : List ℕ) → list_all is_ascii_digit text ≡ true → digits_at_end text ≡ text
unfolding digits_at_end
whole [] all = refl
whole (c ∷ cs) all = rw all refl

not_all : (text : List ℕ) (k : ℕ) → k < length text → is_ascii_digit (slice_index text k) ≡ false → list_all is_ascii_digit text ≡ false
not_all [] k within other = absurd (omega arith)
not_all (c ∷ cs) zero within other = rw other refl
not_all (c ∷ cs) (suc k) within other =
    ap (λ (z : Bool). is_ascii_digit c && z) (not_all cs k (omega arith) other) ∙ and_false (is_ascii_digit c)

last_other : (text : List ℕ) (k : ℕ) → k < length text → is_ascii_digit (slice_index text k) ≡ false
    → list_all is_ascii_digit (drop (suc k) text) ≡ true → digits_at_end text ≡ drop (suc k) text
unfolding digits_at_end
last_other [] k within other all = absurd (omega arith)
last_other (c ∷ cs) zero within other all = rw (not_all (c ∷ cs) 0 within other) (whole cs all)
last_other (c ∷ cs) (suc k) within other all = rw (not_all (c ∷ cs) (suc k) within other) (last_other cs k (omega arith) other all)

pub behind : (text : List ℕ) (n k : ℕ) → n ≡ suc k → n ≤ length text → is_ascii_digit (slice_index text k) ≡ false
    → list_all is_ascii_digit (drop n text) ≡ true → digits_at_end text ≡ drop n text
behind text n k same within other all =
    rw same (last_other text k (omega (arith, same, within)) other (rw same at all))
