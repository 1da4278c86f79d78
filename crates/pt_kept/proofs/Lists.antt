-- Lists of slices and of their labels, by numbers.
use Rattle.std.specs.Prelude.{◌≡◌, ◌≢◌, ◌<◌, ◌≤◌, ◌⊎◌, ◌++◌, ◌∷◌, [], ℕ, zero, suc, Bool, true, false, List, filter, Contains, Option}
use Rattle.std.specs.Prelude.{Some, None, nat_eq, nat_lt}
use Rattle.std.proofs.Common.{refl, sym, ap, subst, ◌∙◌, inl, inr, arith}
use Rattle.std.proofs.lemmas.Bool.{cases_lt, eq-eqb, ne_eqb, eqb-true, eqb-false, false≢true, lt-ltb, le-ltb}
use Rattle.pt_bsd.specs.declared.label.Label.{Label}
use Rattle.pt_members.specs.declared.layout.Slice.{Slice}
use Rattle.pt_members.specs.declared.layout.Labelled.{Labelled}
use Rattle.pt_members.specs.Members.{label_of}
use Rattle.pt_edit.specs.SliceLabels.{labelled, labels_below, labels_above, with_new_label}
use Rattle.pt_cases.specs.Writes.{FitsLabel, AreLabelsOf}

-- the slices whose numbers pass a test, and the labels
abbrev pub slices_by : (ℕ → Bool) → List Slice → List Slice
slices_by f ss = filter (λ (s : Slice). f s.number) ss

abbrev pub labels_by : (ℕ → Bool) → List Labelled → List Labelled
labels_by f ls = filter (λ (x : Labelled). f x.number) ls

pub filter_in : {X : Type 0} (p : X → Bool) (x : X) (xs : List X) → p x ≡ true → filter p (x ∷ xs) ≡ x ∷ filter p xs
filter_in p x xs so = rw (so, filter) refl

pub filter_out : {X : Type 0} (p : X → Bool) (x : X) (xs : List X) → p x ≡ false → filter p (x ∷ xs) ≡ filter p xs
filter_out p x xs so = rw (so, filter) refl

are_cast : (ss ts : List Slice) (ls ms : List Labelled) → ss ≡ ts → ls ≡ ms → AreLabelsOf ss ls → AreLabelsOf ts ms
are_cast ss ts ls ms p q are = subst (λ (x : List Labelled). AreLabelsOf ts x) q (subst (λ (x : List Slice). AreLabelsOf x ls) p are)

-- of the slices that pass, the labels that pass
filter_one : (f : ℕ → Bool) (s : Slice) (ss : List Slice) (ls : List Labelled)
    → ((rest : List Labelled) → AreLabelsOf ss rest → AreLabelsOf (slices_by f ss) (labels_by f rest)) → (t : Bool) → f s.number ≡ t
    → AreLabelsOf (s ∷ ss) ls → AreLabelsOf (slices_by f (s ∷ ss)) (labels_by f ls)
filter_one f s ss ls more true so (inl (l, rest, is, fits, behind)) =
    are_cast (s ∷ slices_by f ss) (slices_by f (s ∷ ss)) (labels_by f ls) (labels_by f ls)
    (sym (filter_in (λ (x : Slice). f x.number) s ss so)) refl
    (inl (
      l,
      labels_by f rest,
      ap (labels_by f) is
          ∙ filter_in (λ (x : Labelled). f x.number) (labelled s.number l) rest so,
      fits,
      more rest behind,
    ))
filter_one f s ss ls more false so (inl (l, rest, is, fits, behind)) =
    are_cast (slices_by f ss) (slices_by f (s ∷ ss)) (labels_by f rest) (labels_by f ls)
    (sym (filter_out (λ (x : Slice). f x.number) s ss so))
    (sym (ap (labels_by f) is ∙ filter_out (λ (x : Labelled). f x.number) (labelled s.number l) rest so)) (more rest behind)
filter_one f s ss ls more true so (inr behind) =
    are_cast (s ∷ slices_by f ss) (slices_by f (s ∷ ss)) (labels_by f ls) (labels_by f ls)
    (sym (filter_in (λ (x : Slice). f x.number) s ss so)) refl (inr (more ls behind))
filter_one f s ss ls more false so (inr behind) =
    are_cast (slices_by f ss) (slices_by f (s ∷ ss)) (labels_by f ls) (labels_by f ls)
    (sym (filter_out (λ (x : Slice). f x.number) s ss so)) refl (more ls behind)

pub are_filter : (f : ℕ → Bool) (ss : List Slice) (ls : List Labelled) → AreLabelsOf ss ls → AreLabelsOf (slices_by f ss) (labels_by f ls)
are_filter f [] ls are = ap (labels_by f) are
are_filter f (s ∷ ss) ls are = filter_one f s ss ls (are_filter f ss) (f s.number) refl are

-- those of two lists one after the other
pub are_append : (ss ts : List Slice) (ls ms : List Labelled) → AreLabelsOf ss ls → AreLabelsOf ts ms → AreLabelsOf (ss ++ ts) (ls ++ ms)
are_append [] ts ls ms are more = subst (λ (x : List Labelled). AreLabelsOf ts (x ++ ms)) (sym are) more
are_append (s ∷ ss) ts ls ms (inl (l, rest, is, fits, behind)) more =
    inl (l, rest ++ ms, ap (λ (x : List Labelled). x ++ ms) is, fits, are_append ss ts rest ms behind more)
are_append (s ∷ ss) ts ls ms (inr behind) more = inr (are_append ss ts ls ms behind more)

-- the label of a number in a list with one in front
pub label_of_head : (x : Labelled) (ls : List Labelled) (m : ℕ) → x.number ≡ m → label_of (x ∷ ls) m ≡ Some x.label
unfolding label_of
label_of_head x ls m so = rw (eq-eqb x.number m so, label_of) refl

pub label_of_tail : (x : Labelled) (ls : List Labelled) (m : ℕ) → x.number ≢ m → label_of (x ∷ ls) m ≡ label_of ls m
unfolding label_of
label_of_tail x ls m other = rw (ne_eqb x.number m other, label_of) refl

-- a number's label stays where the labels behind the first are others of which it has the same
same_behind : (x : Labelled) (ls ms : List Labelled) (m : ℕ) → label_of ls m ≡ label_of ms m → label_of (x ∷ ls) m ≡ label_of (x ∷ ms) m
same_behind x ls ms m same = by_test (nat_eq x.number m) refl where
  by_test : (t : Bool) → nat_eq x.number m ≡ t → label_of (x ∷ ls) m ≡ label_of (x ∷ ms) m
  by_test true so = label_of_head x ls m (eqb-true x.number m so) ∙ sym (label_of_head x ms m (eqb-true x.number m so))
  by_test false so = label_of_tail x ls m (eqb-false x.number m so) ∙ (same ∙ sym (label_of_tail x ms m (eqb-false x.number m so)))

-- where only labels of numbers that pass a test are left, those numbers have theirs
by_one : (f : ℕ → Bool) (m : ℕ) (x : Labelled) (ls : List Labelled) → f m ≡ true → label_of (labels_by f ls) m ≡ label_of ls m
    → (t : Bool) → f x.number ≡ t → label_of (labels_by f (x ∷ ls)) m ≡ label_of (x ∷ ls) m
by_one f m x ls passes more true so =
    ap (λ (l : List Labelled). label_of l m) (filter_in (λ (y : Labelled). f y.number) x ls so) ∙ same_behind x (labels_by f ls) ls m more
by_one f m x ls passes more false so =
    let other : x.number ≢ m = λ same. (let two : false ≡ true = sym so ∙ (ap f same ∙ passes) in absurd (false≢true two)) in
    ap (λ (l : List Labelled). label_of l m) (filter_out (λ (y : Labelled). f y.number) x ls so) ∙ (more ∙ sym (label_of_tail x ls m other))

pub label_of_by : (f : ℕ → Bool) (m : ℕ) (ls : List Labelled) → f m ≡ true → label_of (labels_by f ls) m ≡ label_of ls m
label_of_by f m [] passes = refl
label_of_by f m (x ∷ ls) passes = by_one f m x ls passes (label_of_by f m ls passes) (f x.number) refl

-- and the others have none
gone_one : (f : ℕ → Bool) (m : ℕ) (x : Labelled) (ls : List Labelled) → f m ≡ false → label_of (labels_by f ls) m ≡ None
    → (t : Bool) → f x.number ≡ t → label_of (labels_by f (x ∷ ls)) m ≡ None
gone_one f m x ls fails more true so =
    let other : x.number ≢ m = λ same. (let two : false ≡ true = sym fails ∙ (ap f (sym same) ∙ so) in absurd (false≢true two)) in
    ap (λ (l : List Labelled). label_of l m) (filter_in (λ (y : Labelled). f y.number) x ls so)
    ∙ (label_of_tail x (labels_by f ls) m other ∙ more)
gone_one f m x ls fails more false so = ap (λ (l : List Labelled). label_of l m) (filter_out (λ (y : Labelled). f y.number) x ls so) ∙ more

pub label_of_gone : (f : ℕ → Bool) (m : ℕ) (ls : List Labelled) → f m ≡ false → label_of (labels_by f ls) m ≡ None
unfolding label_of
label_of_gone f m [] fails = refl
label_of_gone f m (x ∷ ls) fails = gone_one f m x ls fails (label_of_gone f m ls fails) (f x.number) refl

-- of two lists the first that has one
first_one : (x : Labelled) (ls ms : List Labelled) (m : ℕ) (l : Label) → (label_of ls m ≡ Some l → label_of (ls ++ ms) m ≡ Some l)
    → label_of (x ∷ ls) m ≡ Some l → (t : Bool) → nat_eq x.number m ≡ t → label_of (x ∷ (ls ++ ms)) m ≡ Some l
first_one x ls ms m l more has true so =
    label_of_head x (ls ++ ms) m (eqb-true x.number m so) ∙ (sym (label_of_head x ls m (eqb-true x.number m so)) ∙ has)
first_one x ls ms m l more has false so =
    let other = eqb-false x.number m so in
    label_of_tail x (ls ++ ms) m other ∙ more (sym (label_of_tail x ls m other) ∙ has)

pub label_of_first : (ls ms : List Labelled) (m : ℕ) (l : Label) → label_of ls m ≡ Some l → label_of (ls ++ ms) m ≡ Some l
unfolding label_of
label_of_first [] ms m l has = absurd cc
label_of_first (x ∷ ls) ms m l has = first_one x ls ms m l (label_of_first ls ms m l) has (nat_eq x.number m) refl

second_one : (x : Labelled) (ls ms : List Labelled) (m : ℕ) → (label_of ls m ≡ None → label_of (ls ++ ms) m ≡ label_of ms m)
    → label_of (x ∷ ls) m ≡ None → (t : Bool) → nat_eq x.number m ≡ t → label_of (x ∷ (ls ++ ms)) m ≡ label_of ms m
second_one x ls ms m more none true so =
    let both : Some x.label ≡ None = sym (label_of_head x ls m (eqb-true x.number m so)) ∙ none in absurd cc
second_one x ls ms m more none false so =
    let other = eqb-false x.number m so in
    label_of_tail x (ls ++ ms) m other ∙ more (sym (label_of_tail x ls m other) ∙ none)

pub label_of_second : (ls ms : List Labelled) (m : ℕ) → label_of ls m ≡ None → label_of (ls ++ ms) m ≡ label_of ms m
unfolding label_of
label_of_second [] ms m none = refl
label_of_second (x ∷ ls) ms m none = second_one x ls ms m (label_of_second ls ms m) none (nat_eq x.number m) refl

-- the label that a new slice gets
pub label_of_new : (k : ℕ) (l : Label) (ls : List Labelled) → label_of (with_new_label k l ls) k ≡ Some l
label_of_new k l ls =
    let none = label_of_gone (λ n. nat_lt n k) k ls (le-ltb k k (omega arith)) in
    label_of_second (labels_below k ls) (labelled k l ∷ labels_above k ls) k none ∙ label_of_head (labelled k l) (labels_above k ls) k refl

-- and the others keep theirs
pub label_of_old : (k m : ℕ) (l : Label) (ls : List Labelled) → m ≢ k → label_of (with_new_label k l ls) m ≡ label_of ls m
label_of_old k m l ls other = by_side (cases_lt m k) where
  tail : (m : ℕ) → k ≢ m → label_of (labelled k l ∷ labels_above k ls) m ≡ label_of (labels_above k ls) m
  tail m apart = label_of_tail (labelled k l) (labels_above k ls) m apart

  below : m < k → (o : Option Label) → label_of ls m ≡ o → label_of (with_new_label k l ls) m ≡ o
  below lt None is =
      let here : label_of (labels_below k ls) m ≡ None = label_of_by (λ n. nat_lt n k) m ls (lt-ltb m k lt) ∙ is in
      label_of_second (labels_below k ls) (labelled k l ∷ labels_above k ls) m here
      ∙ (tail m (λ e. other (sym e)) ∙ label_of_gone (λ n. nat_lt k n) m ls (le-ltb k m (omega (arith, lt))))
  below lt (Some x) is = label_of_first (labels_below k ls) (labelled k l ∷ labels_above k ls) m x
      (label_of_by (λ n. nat_lt n k) m ls (lt-ltb m k lt) ∙ is)

  by_side : (m < k) ⊎ (k ≤ m) → label_of (with_new_label k l ls) m ≡ label_of ls m
  by_side (inl lt) = below lt (label_of ls m) refl
  by_side (inr ge) =
      label_of_second (labels_below k ls) (labelled k l ∷ labels_above k ls) m (label_of_gone (λ n. nat_lt n k) m ls (le-ltb m k ge))
      ∙ (tail m (λ e. other (sym e)) ∙ label_of_by (λ n. nat_lt k n) m ls (lt-ltb k m (omega (arith, ge, other))))

-- a new slice between those of lower and of higher numbers, and its label
pub are_entered : (k : ℕ) (s : Slice) (l : Label) (ss : List Slice) (ls : List Labelled) → s.number ≡ k → FitsLabel s l → AreLabelsOf ss ls
    → AreLabelsOf (slices_by (λ n. nat_lt n k) ss ++ s ∷ slices_by (λ n. nat_lt k n) ss) (with_new_label k l ls)
are_entered k s l ss ls number fits are =
    are_append (slices_by (λ n. nat_lt n k) ss) (s ∷ slices_by (λ n. nat_lt k n) ss) (labels_below k ls) (labelled k l ∷ labels_above k ls)
    (are_filter (λ n. nat_lt n k) ss ls are)
    (inl (
      l,
      labels_above k ls,
      ap (λ (n : ℕ). labelled n l ∷ labels_above k ls) (sym number),
      fits,
      are_filter (λ n. nat_lt k n) ss
          ls are,
    ))

-- one of a list with one in front
pub contains_cases : {X : Type 0} (x y : X) (xs : List X) → Contains (x ∷ xs) y → (x ≡ y) ⊎ Contains xs y
contains_cases x y xs (zero, lt, is) = inl is
contains_cases x y xs (suc k, lt, is) = inr (k, omega (arith, lt), is)

pub contains_later : {X : Type 0} (x y : X) (xs : List X) → Contains xs y → Contains (x ∷ xs) y
contains_later x y xs (k, lt, is) = (suc k, omega (arith, lt), is)

contains_kept : {X : Type 0} (p : X → Bool) (x y : X) (xs : List X) → (Contains (filter p xs) y → Contains xs y × (p y ≡ true))
    → (t : Bool) → p x ≡ t → Contains (filter p (x ∷ xs)) y → Contains (x ∷ xs) y × (p y ≡ true)
contains_kept {X} p x y xs more true so is =
    by_case (contains_cases x y (filter p xs) (subst (λ (l : List X). Contains l y) (filter_in p x xs so) is)) where
      by_case : (x ≡ y) ⊎ Contains (filter p xs) y → Contains (x ∷ xs) y × (p y ≡ true)
      by_case (inl same) = ((0, omega arith, same), ap p (sym same) ∙ so)
      by_case (inr later) = let m = more later in (contains_later x y xs m.0, m.1)
contains_kept {X} p x y xs more false so is =
    let m = more (subst (λ (l : List X). Contains l y) (filter_out p x xs so) is) in (contains_later x y xs m.0, m.1)

-- what a test leaves was there, and passes
pub contains_filter : {X : Type 0} (p : X → Bool) (y : X) (xs : List X) → Contains (filter p xs) y → Contains xs y × (p y ≡ true)
contains_filter p y [] (k, lt, is) = absurd (omega (arith, lt))
contains_filter p y (x ∷ xs) is = contains_kept p x y xs (contains_filter p y xs) (p x) refl is

swap_one : {X : Type 0} (p q : X → Bool) (x : X) (xs : List X) → filter p (filter q xs) ≡ filter q (filter p xs) → (s t : Bool)
    → p x ≡ s → q x ≡ t → filter p (filter q (x ∷ xs)) ≡ filter q (filter p (x ∷ xs))
swap_one p q x xs more true true a b =
    ap (filter p) (filter_in q x xs b) ∙ (filter_in p x (filter q xs) a
    ∙ (ap (λ (l : List _). x ∷ l) more ∙ (sym (filter_in q x (filter p xs) b) ∙ sym (ap (filter q) (filter_in p x xs a)))))
swap_one p q x xs more true false a b =
    ap (filter p) (filter_out q x xs b) ∙ (more ∙ (sym (filter_out q x (filter p xs) b) ∙ sym (ap (filter q) (filter_in p x xs a))))
swap_one p q x xs more false true a b =
    ap (filter p) (filter_in q x xs b) ∙ (filter_out p x (filter q xs) a ∙ (more ∙ sym (ap (filter q) (filter_out p x xs a))))
swap_one p q x xs more false false a b = ap (filter p) (filter_out q x xs b) ∙ (more ∙ sym (ap (filter q) (filter_out p x xs a)))

-- two tests in either order
pub filter_swap : {X : Type 0} (p q : X → Bool) (xs : List X) → filter p (filter q xs) ≡ filter q (filter p xs)
filter_swap p q [] = refl
filter_swap p q (x ∷ xs) = swap_one p q x xs (filter_swap p q xs) (p x) (q x) refl refl
