-- A run among others that ascend.
use Rattle.std.proofs.Common.{◌≡◌, ◌<◌, ◌≤◌, ◌+◌, ◌-◌, ℕ, zero, suc, List, [], ◌∷◌, ◌++◌, length, get_or, take, drop, nat_lt, true, false}
use Rattle.std.proofs.Common.{refl, sym, ap, ◌∙◌, subst, arith, inl, inr, append_assoc}
use Rattle.std.specs.Prelude.{◌⊎◌, ◌↔◌}
use Rattle.std.specs.List.{insert, remove}
use Rattle.std.proofs.lemmas.Bool.{cases_lt}
use Rattle.std.proofs.lemmas.Bool.Decides.{nat_tests}
use Rattle.std.proofs.lemmas.List.{drop_all, take_all, take_more, length-take-le, drop_more}
use Rattle.std.proofs.Math.Seq.{take-append_seam, drop-append_seam}
use Rattle.pt_recover.specs.Spans.{InRun, IsIn, Follows, Apart}
use Rattle.pt_recover.specs.inner.Spans.{hull, joined, StandsAs, StandsBefore}
use Rattle.pt_recover.specs.declared.trace.TracedRun.{TracedRun}
use Rattle.pt_recover.specs.declared.trace.Order.TheVariants.{Below, Above, Touching}

joined_none : (x : TracedRun) → joined x [] ≡ x ∷ []
unfolding joined
joined_none x = refl

joined_below : (x r : TracedRun) (rs : List TracedRun) → StandsAs r x Below → joined x (r ∷ rs) ≡ r ∷ joined x rs
unfolding joined
joined_below x r rs is = let e : nat_lt (r.last + 1) x.first ≡ true = grind (arith, nat_tests) in rw e refl

joined_above : (x r : TracedRun) (rs : List TracedRun) → StandsAs r x Above → joined x (r ∷ rs) ≡ x ∷ r ∷ rs
unfolding joined
joined_above x r rs is =
    let e : nat_lt (r.last + 1) x.first ≡ false = grind (arith, nat_tests) in
    let f : nat_lt (x.last + 1) r.first ≡ true = grind (arith, nat_tests) in
    rw (e, f) refl

joined_touching : (x r : TracedRun) (rs : List TracedRun) → StandsAs r x Touching → joined x (r ∷ rs) ≡ joined (hull x r) rs
unfolding joined
joined_touching x r rs is =
    let e : nat_lt (r.last + 1) x.first ≡ false = grind (arith, nat_tests) in
    let f : nat_lt (x.last + 1) r.first ≡ false = grind (arith, nat_tests) in
    rw (e, f) refl

-- one of the three holds
which : (r x : TracedRun) → StandsAs r x Below ⊎ StandsAs r x Above ⊎ StandsAs r x Touching
which r x = elim (cases_lt (r.last + 1) x.first) [
  | inl below ↦ inl below
  | inr other ↦ elim (cases_lt (x.last + 1) r.first) [ inl above ↦ inr (inl (other, above)) | inr touching ↦ inr (inr (other, touching)) ]
]

in_hull : (x r : TracedRun) (s : ℕ) → StandsAs r x Touching → InRun (hull x r) s ↔ (InRun x s ⊎ InRun r s)
in_hull x r s is = (there, back) where
  there : InRun (hull x r) s → InRun x s ⊎ InRun r s
  there h = elim (cases_lt s x.first) [
    | inl below ↦ inr (omega (arith, h.0, h.1, is.0, is.1), omega (arith, h.0, h.1, is.0, is.1))
    | inr from ↦ elim (cases_lt x.last s) [
      | inl above ↦ inr (omega (arith, h.0, h.1, is.0, is.1), omega (arith, h.0, h.1, is.0, is.1))
      | inr to ↦ inl (from, to)
    ]
  ]

  back : InRun x s ⊎ InRun r s → InRun (hull x r) s
  back (inl h) = (omega (arith, h.0), omega (arith, h.1))
  back (inr h) = (omega (arith, h.0), omega (arith, h.1))

pub apart_none : Apart []
unfolding Apart
apart_none = tt

in_cons : (r : TracedRun) (rs : List TracedRun) (s : ℕ) → IsIn (r ∷ rs) s ↔ (InRun r s ⊎ IsIn rs s)
unfolding IsIn
in_cons r rs s = (λ h. h, λ h. h)

-- the sectors of the joined runs are those of the runs, and the new ones
in_below : (x r : TracedRun) (rs : List TracedRun) (s : ℕ) → (IsIn (joined x rs) s ↔ (InRun x s ⊎ IsIn rs s))
    → IsIn (r ∷ joined x rs) s ↔ (InRun x s ⊎ IsIn (r ∷ rs) s)
unfolding IsIn
in_below x r rs s later = (
  λ h. elim h [ inl here ↦ inr (inl here) | inr there ↦ elim (later.0 there) [ inl new ↦ inl new | inr was ↦ inr (inr was) ] ],
  λ h. elim h [ inl new ↦ inr (later.1 (inl new)) | inr was ↦ elim was [ inl here ↦ inl here | inr there ↦ inr (later.1 (inr there)) ] ],
)

in_touching : (x r : TracedRun) (rs : List TracedRun) (s : ℕ) → StandsAs r x Touching
    → (IsIn (joined (hull x r) rs) s ↔ (InRun (hull x r) s ⊎ IsIn rs s)) → IsIn (joined (hull x r) rs) s ↔ (InRun x s ⊎ IsIn (r ∷ rs) s)
unfolding IsIn
in_touching x r rs s is later = (
  λ h. elim (later.0 h) [
    | inl new ↦ elim ((in_hull x r s is).0 new) [ inl of_x ↦ inl of_x | inr of_r ↦ inr (inl of_r) ]
    | inr was ↦
        inr (inr was)
  ],
  λ h. elim h [
    | inl new ↦ later.1 (inl ((in_hull x r s is).1 (inl new)))
    | inr was ↦
        elim was [ inl here ↦ later.1 (inl ((in_hull x r s is).1 (inr here))) | inr there ↦ later.1 (inr there) ]
  ],
)

pub in_joined : (x : TracedRun) (rs : List TracedRun) (s : ℕ) → IsIn (joined x rs) s ↔ (InRun x s ⊎ IsIn rs s)
in_joined x [] s = subst (λ (l : List TracedRun). IsIn l s ↔ (InRun x s ⊎ IsIn [] s)) (sym (joined_none x)) (in_cons x [] s)
in_joined x (r ∷ rs) s = elim (which r x) [
  | inl below ↦ subst (λ (l : List TracedRun). IsIn l s ↔ (InRun x s ⊎ IsIn (r ∷ rs) s)) (sym (joined_below x r rs below))
      (in_below x r rs s (in_joined x rs s))
  | inr (inl above) ↦ subst (λ (l : List TracedRun). IsIn l s ↔ (InRun x s ⊎ IsIn (r ∷ rs) s)) (sym (joined_above x r rs above))
      (in_cons x (r ∷ rs) s)
  | inr (inr touching) ↦ subst (λ (l : List TracedRun). IsIn l s ↔ (InRun x s ⊎ IsIn (r ∷ rs) s)) (sym (joined_touching x r rs touching))
      (in_touching x r rs s touching (in_joined (hull x r) rs s))
]

-- joined runs are as far apart as the runs
apart_split : (r : TracedRun) (rs : List TracedRun) → Apart (r ∷ rs) → (r.first ≤ r.last) × Follows r rs × Apart rs
unfolding Apart
apart_split r rs apart = apart

apart_cons : (r : TracedRun) (rs : List TracedRun) → r.first ≤ r.last → Follows r rs → Apart rs → Apart (r ∷ rs)
unfolding Apart
apart_cons r rs some follows apart = (some, follows, apart)

follows_through : (q r : TracedRun) (rs : List TracedRun) → q.last + 1 < r.first → r.first ≤ r.last → Follows r rs → Follows q rs
follows_through q r [] gap some follows = tt
follows_through q r (t ∷ rs) gap some follows = omega (arith, gap, some, follows)

above_hull : (q x r : TracedRun) → q.last + 1 < x.first → q.last + 1 < r.first → q.last + 1 < (hull x r).first
above_hull q x r e f = omega (arith, e, f)

pub some_hull : (x r : TracedRun) → x.first ≤ x.last → (hull x r).first ≤ (hull x r).last
some_hull x r some = omega (arith, some)

follows_joined : (q x : TracedRun) (rs : List TracedRun) → q.last + 1 < x.first → Follows q rs → Apart rs → Follows q (joined x rs)
follows_joined q x [] gap follows apart = subst (λ (l : List TracedRun). Follows q l) (sym (joined_none x)) gap
follows_joined q x (r ∷ rs) gap follows apart = elim (which r x) as (λ w. Follows q (joined x (r ∷ rs))) [
  | inl below ↦ subst (λ (l : List TracedRun). Follows q l) (sym (joined_below x r rs below)) follows
  | inr (inl above) ↦ subst (λ (l : List TracedRun). Follows q l) (sym (joined_above x r rs above)) gap
  | inr (inr touching) ↦
      let parts = apart_split r rs apart in
      subst (λ (l : List TracedRun). Follows q l) (sym (joined_touching x r rs touching))
      (follows_joined q (hull x r) rs (above_hull q x r gap follows) (follows_through q r rs follows parts.0 parts.1) parts.2)
]

pub apart_joined : (x : TracedRun) (rs : List TracedRun) → x.first ≤ x.last → Apart rs → Apart (joined x rs)
apart_joined x [] some apart = subst (λ (l : List TracedRun). Apart l) (sym (joined_none x)) (apart_cons x [] some tt apart)
apart_joined x (r ∷ rs) some apart = elim (which r x) as (λ w. Apart (joined x (r ∷ rs))) [
  | inl below ↦
      let parts = apart_split r rs apart in
      subst (λ (l : List TracedRun). Apart l) (sym (joined_below x r rs below))
      (apart_cons r (joined x rs) parts.0 (follows_joined r x rs below parts.1 parts.2) (apart_joined x rs some parts.2))
  | inr (inl above) ↦ subst (λ (l : List TracedRun). Apart l) (sym (joined_above x r rs above)) (apart_cons x (r ∷ rs) some above.1 apart)
  | inr (inr touching) ↦
      let parts = apart_split r rs apart in
      subst (λ (l : List TracedRun). Apart l) (sym (joined_touching x r rs touching))
      (apart_joined (hull x r) rs (some_hull x r some) parts.2)
]

-- a run that begins past the last of the others, with a gap, comes behind them all
all_below : (x r : TracedRun) (rs : List TracedRun) (z : TracedRun) → Apart (r ∷ rs) → (get_or (r ∷ rs) (length rs) z).last + 1 < x.first
    → r.last + 1 < x.first
all_below x r [] z apart is = is
all_below x r (q ∷ qs) z apart is =
    let parts = apart_split r (q ∷ qs) apart in
    omega (arith, parts.1, (apart_split q qs parts.2).0, all_below x q qs z parts.2 is)

joined_last : (x r : TracedRun) (rs : List TracedRun) (z : TracedRun) → Apart (r ∷ rs) → (get_or (r ∷ rs) (length rs) z).last + 1 < x.first
    → joined x (r ∷ rs) ≡ (r ∷ rs) ++ x ∷ []
joined_last x r [] z apart is = joined_below x r [] is ∙ ap (λ (l : List TracedRun). r ∷ l) (joined_none x)
joined_last x r (q ∷ qs) z apart is =
    joined_below x r (q ∷ qs) (all_below x r (q ∷ qs) z apart is)
    ∙ ap (λ (l : List TracedRun). r ∷ l) (joined_last x q qs z (apart_split r (q ∷ qs) apart).2 is)

pub stands_first : (x : TracedRun) (xs : List TracedRun) → StandsBefore (joined x xs) xs 0 x
stands_first x xs = refl

pub stands_last : (x : TracedRun) (xs : List TracedRun) (k : ℕ) (z : TracedRun) → Apart xs → length xs ≡ k + 1
    → StandsAs (get_or xs k z) x Below → StandsBefore (joined x xs) xs (length xs) x
stands_last x [] k z apart count below = absurd (omega (arith, count))
stands_last x (r ∷ rs) k z apart count below =
    let xs : List TracedRun = r ∷ rs in
    let same : k ≡ length rs = omega (arith, count) in
    let e = joined_last x r rs z apart (subst (λ (n : ℕ). (get_or (r ∷ rs) n z).last + 1 < x.first) same below) in
    ap (λ (l : List TracedRun). l ++ joined x (drop (length xs) xs)) (take_all (length xs) xs (omega arith))
    ∙ ap (λ (l : List TracedRun). xs ++ joined x l) (drop_all (length xs) xs (omega arith))
    ∙ ap (λ (l : List TracedRun). xs ++ l) (joined_none x)
    ∙ sym e

-- runs that all end below another one, with a gap
stands_past : (x : TracedRun) (xs : List TracedRun) (at : ℕ) → at ≤ length xs
    → ((k : ℕ) (d : TracedRun) → k < at → (get_or xs k d).last + 1 < x.first) → StandsBefore (joined x xs) xs at x
stands_past x xs zero le below = refl
stands_past x [] (suc n) le below = absurd (omega arith)
stands_past x (r ∷ rs) (suc n) le below =
    ap (λ (l : List TracedRun). r ∷ l) (stands_past x rs n (omega arith) (λ k d lt. below (suc k) d (omega arith)))
    ∙ sym (joined_below x r rs (below 0 r (omega arith)))

gap : (xs : List TracedRun) (k : ℕ) (d : TracedRun) → Apart xs → suc k < length xs
    → ((get_or xs k d).last + 1 < (get_or xs (suc k) d).first) × ((get_or xs (suc k) d).first ≤ (get_or xs (suc k) d).last)
gap [] k d apart lt = absurd (omega arith)
gap (r ∷ []) k d apart lt = absurd (omega arith)
gap (r ∷ q ∷ qs) zero d apart lt =
    let parts = apart_split r (q ∷ qs) apart in (parts.1, (apart_split q qs parts.2).0)
gap (r ∷ q ∷ qs) (suc k) d apart lt = gap (q ∷ qs) k d (apart_split r (q ∷ qs) apart).2 (omega arith)

-- of runs that end below another one only the last can touch it
pub stands_searched : (x : TracedRun) (xs : List TracedRun) (i : ℕ) → Apart xs → i ≤ length xs
    → ((k : ℕ) (d : TracedRun) → k < i → (get_or xs k d).last < x.first) → StandsBefore (joined x xs) xs (i - 1) x
stands_searched x xs i apart le ended =
    stands_past x xs (i - 1) (omega arith) (λ k d lt.
    (let next = gap xs k d apart (omega (arith, lt, le)) in
    omega (arith, next.0, next.1, ended (suc k) d (omega (arith, lt)))))

pub stands_below : (whole xs : List TracedRun) (at : ℕ) (z r x : TracedRun) → at < length xs → get_or xs at z ≡ r → StandsAs r x Below
    → StandsBefore whole xs at x → StandsBefore whole xs (at + 1) x
stands_below whole xs at z r x lt here below before =
    let one : take (at + 1) xs ≡ take at xs ++ r ∷ [] = take_more xs at z lt ∙ ap (λ (y : TracedRun). take at xs ++ y ∷ []) here in
    let split : drop at xs ≡ r ∷ drop (at + 1) xs = drop_more xs at z lt ∙ ap (λ (y : TracedRun). y ∷ drop (at + 1) xs) here in
    ap (λ (l : List TracedRun). l ++ joined x (drop (at + 1) xs)) one
    ∙ append_assoc (take at xs) (r ∷ []) (joined x (drop (at + 1) xs))
    ∙ ap (λ (l : List TracedRun). take at xs ++ l) (sym (ap (joined x) split ∙ joined_below x r (drop (at + 1) xs) below))
    ∙ before

take_removed : (xs : List TracedRun) (at : ℕ) → at ≤ length xs → take at (remove xs at) ≡ take at xs
take_removed xs at le =
    ap (λ (n : ℕ). take n (remove xs at)) (sym (length-take-le at xs le)) ∙ take-append_seam (take at xs) (drop (suc at) xs)

drop_removed : (xs : List TracedRun) (at : ℕ) → at ≤ length xs → drop at (remove xs at) ≡ drop (suc at) xs
drop_removed xs at le =
    ap (λ (n : ℕ). drop n (remove xs at)) (sym (length-take-le at xs le)) ∙ drop-append_seam (take at xs) (drop (suc at) xs)

pub stands_touching : (whole xs now : List TracedRun) (at : ℕ) (z r x y : TracedRun) → at < length xs → get_or xs at z ≡ r
    → StandsAs r x Touching → StandsBefore whole xs at x → now ≡ remove xs at → y ≡ hull x r → StandsBefore whole now at y
stands_touching whole xs now at z r x y lt here touching before same grown =
    let le : at ≤ length xs = omega arith in
    let split : drop at xs ≡ r ∷ drop (at + 1) xs = drop_more xs at z lt ∙ ap (λ (q : TracedRun). q ∷ drop (at + 1) xs) here in
    let next : suc at ≡ at + 1 = omega arith in
    ap (λ (l : List TracedRun). take at l ++ joined y (drop at l)) same
    ∙ ap (λ (l : List TracedRun). l ++ joined y (drop at (remove xs at))) (take_removed xs at le)
    ∙ ap (λ (l : List TracedRun). take at xs ++ joined y l) (drop_removed xs at le ∙ ap (λ (n : ℕ). drop n xs) next)
    ∙ ap (λ (q : TracedRun). take at xs ++ joined q (drop (at + 1) xs)) grown
    ∙ ap (λ (l : List TracedRun). take at xs ++ l) (sym (ap (joined x) split ∙ joined_touching x r (drop (at + 1) xs) touching))
    ∙ before

pub stands_above : (whole xs : List TracedRun) (at : ℕ) (z r x : TracedRun) → at < length xs → get_or xs at z ≡ r → StandsAs r x Above
    → StandsBefore whole xs at x → insert xs at x ≡ whole
stands_above whole xs at z r x lt here above before =
    let split : drop at xs ≡ r ∷ drop (at + 1) xs = drop_more xs at z lt ∙ ap (λ (y : TracedRun). y ∷ drop (at + 1) xs) here in
    ap (λ (l : List TracedRun). take at xs ++ x ∷ l) split
    ∙ ap (λ (l : List TracedRun). take at xs ++ l) (sym (ap (joined x) split ∙ joined_above x r (drop (at + 1) xs) above)) ∙ before

pub stands_end : (whole xs : List TracedRun) (at : ℕ) (x : TracedRun) → length xs ≤ at → StandsBefore whole xs at x → insert xs at x ≡ whole
stands_end whole xs at x past before =
    let none : drop at xs ≡ [] = drop_all at xs past in
    ap (λ (l : List TracedRun). take at xs ++ x ∷ l) none
    ∙ ap (λ (l : List TracedRun). take at xs ++ l) (sym (ap (joined x) none ∙ joined_none x)) ∙ before
