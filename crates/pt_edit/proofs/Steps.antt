-- The steps of a word, from what it made back to what was found on the way.
use Rattle.std.proofs.Common.{◌≡◌, Bool, true, false, cond, Option, Some, None, refl, sym}
use Rattle.std.specs.Prelude.{is_none, Result, Ok, Err, IfOk, IfErr, ok_or}
use Rattle.std.proofs.lemmas.Bool.{both_ways}
use Rattle.pt_words.specs.declared.error.Refusal.{Refusal}
use Rattle.pt_edit.specs.Space.{◌>>=◌}

-- the steps of a result
pub bound : {A B : Type 0} (r : Result A Refusal) (f : A → Result B Refusal) (y : B) → (r >>= f) ≡ Ok y
    → (x : A) × (r ≡ Ok x) × (f x ≡ Ok y)
bound (Ok x) f y is = (x, refl, is)
bound (Err e) f y is = cc

pub unless_ok : {A : Type 0} (b : Bool) (e : Refusal) (r : Result A Refusal) (x : A) → cond b (Err e) r ≡ Ok x → (b ≡ false) × (r ≡ Ok x)
unless_ok true e r x is = cc
unless_ok false e r x is = (refl, is)

pub given_ok : {A : Type 0} (o : Option A) (e : Refusal) (x : A) → ok_or o e ≡ Ok x → o ≡ Some x
given_ok None e x is = cc
given_ok (Some y) e x is = cc

-- a result says what it equals
pub ok_is : {A : Type 0} (r s : Result A Refusal) → r ≡ s → IfOk r (λ x. s ≡ Ok x)
ok_is (Ok x) s is = sym is
ok_is (Err e) s is = tt

pub err_is : {A : Type 0} (r s : Result A Refusal) → r ≡ s → IfErr r (λ e. s ≡ Err e)
err_is (Ok x) s is = tt
err_is (Err e) s is = sym is

pub only_ok : {A : Type 0} (b : Bool) (e : Refusal) (x y : A) → cond b (Ok x) (Err e) ≡ Ok y → (b ≡ true) × (x ≡ y)
only_ok true e x y is = (refl, cc)
only_ok false e x y is = cc

pub same_ok : {A : Type 0} (x y : A) → ◌≡◌ {A = Result A Refusal} (Ok x) (Ok y) → y ≡ x
same_ok x y is = cc

pub none_is : {A : Type 0} (o : Option A) → is_none o ≡ true → o ≡ None
none_is None is = refl
none_is (Some x) is = absurd cc

pub if_true : {A : Type 0} (b : Bool) (r q : Result A Refusal) (x : A) → b ≡ true → cond b r q ≡ Ok x → r ≡ Ok x
if_true true r q x on is = is
if_true false r q x on is = absurd (both_ways false refl on)

pub if_false : {A : Type 0} (b : Bool) (r q : Result A Refusal) (x : A) → b ≡ false → cond b r q ≡ Ok x → q ≡ Ok x
if_false true r q x off is = absurd (both_ways true off refl)
if_false false r q x off is = is
