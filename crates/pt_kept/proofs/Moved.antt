-- Labels that move with the numbers of their slices.
use Rattle.std.specs.Prelude.{◌≡◌, ◌≢◌, ◌<◌, ◌≤◌, ◌⊎◌, ◌+◌, ◌-◌, ◌++◌, ◌∷◌, [], ℕ, Bool, true, false, List, map, length, Contains, nat_eq}
use Rattle.std.specs.Prelude.{nat_lt}
use Rattle.std.proofs.Common.{refl, sym, ap, subst, ◌∙◌, inl, inr, arith}
use Rattle.std.proofs.lemmas.Bool.{cases_lt, eqb-true, eqb-false, lt-ltb, le-ltb, true≢false}
use Rattle.pt_bsd.specs.declared.label.Label.{Label}
use Rattle.pt_members.specs.declared.layout.Slice.{Slice}
use Rattle.pt_members.specs.declared.layout.Labelled.{Labelled}
use Rattle.pt_members.specs.Members.{label_of}
use Rattle.pt_edit.specs.SliceLabels.{labelled, without_label, lowered_as, lowered, raised_as, raised}
use Rattle.pt_cases.specs.Writes.{FitsLabel, AreLabelsOf, NumbersAscend}
use Rattle.pt_kept.proofs.Lists.{slices_by, filter_in, filter_out, are_filter, label_of_by, label_of_head, label_of_tail, contains_cases}
use Rattle.pt_kept.proofs.Lists.{contains_later, contains_filter}
use Rattle.pt_kept.proofs.Entries.{is_not, is_not_true, is_not_false, is_below, is_above}
use Rattle.pt_cases.proofs.Ascending.{ascend_from}
use Rattle.pt_kept.proofs.Chain.{AreBelow, ascending_kept, ascending_gone, renumbered, lower, lower_above, lower_below, slices_lowered}
use Rattle.pt_kept.proofs.Raised.{greatest, raise, raise_below, raise_above, slices_raised}

-- a label under another number
abbrev pub relabelled : (ℕ → ℕ) → Labelled → Labelled
relabelled h x = labelled (h x.number) x.label

moved_fits : (h : ℕ → ℕ) (s : Slice) (l : Label) → FitsLabel s l → FitsLabel (renumbered h s) l
moved_fits h s l fits = record { second = fits.second; counted = fits.counted; slice = fits.slice }

pub are_moved : (h : ℕ → ℕ) (ss : List Slice) (ls : List Labelled) → AreLabelsOf ss ls
    → AreLabelsOf (map (renumbered h) ss) (map (relabelled h) ls)
are_moved h [] ls are = ap (map (relabelled h)) are
are_moved h (s ∷ ss) ls (inl (l, rest, is, fits, behind)) =
    inl (l, map (relabelled h) rest, ap (map (relabelled h)) is, moved_fits h s l fits, are_moved h ss rest behind)
are_moved h (s ∷ ss) ls (inr behind) = inr (are_moved h ss ls behind)

pub map_same : (f g : Labelled → Labelled) (ls : List Labelled) → ((x : Labelled) → f x ≡ g x) → map f ls ≡ map g ls
map_same f g [] same = refl
map_same f g (x ∷ ls) same = ap (λ (y : Labelled). y ∷ map f ls) (same x) ∙ ap (λ (l : List Labelled). g x ∷ l) (map_same f g ls same)

moved_step : (h : ℕ → ℕ) (x : Labelled) (ls : List Labelled) (m : ℕ) → (h x.number ≡ h m → x.number ≡ m)
    → label_of (map (relabelled h) ls) (h m) ≡ label_of ls m → (t : Bool) → nat_eq x.number m ≡ t
    → label_of (map (relabelled h) (x ∷ ls)) (h m) ≡ label_of (x ∷ ls) m
moved_step h x ls m one more true so =
    let here = eqb-true x.number m so in
    label_of_head (relabelled h x) (map (relabelled h) ls) (h m) (ap h here) ∙ sym (label_of_head x ls m here)
moved_step h x ls m one more false so =
    let apart = eqb-false x.number m so in
    label_of_tail (relabelled h x) (map (relabelled h) ls) (h m) (λ e. apart (one e)) ∙ (more ∙ sym (label_of_tail x ls m apart))

-- a number's label moves with it, where no other moves there
pub label_of_moved : (h : ℕ → ℕ) (ls : List Labelled) (m : ℕ) → ((x : Labelled) → Contains ls x → h x.number ≡ h m → x.number ≡ m)
    → label_of (map (relabelled h) ls) (h m) ≡ label_of ls m
unfolding label_of
label_of_moved h [] m one = refl
label_of_moved h (x ∷ ls) m one =
    moved_step h x ls m (one x (0, omega arith, refl)) (label_of_moved h ls m (λ y is. one y (contains_later x y ls is)))
    (nat_eq x.number m) refl

lowered_same : (k : ℕ) (x : Labelled) (t : Bool) → nat_lt k x.number ≡ t → lowered_as k x ≡ relabelled (lower k) x
lowered_same k x true so = rw so refl
lowered_same k x false so = rw so refl

pub lowered_is : (k : ℕ) (ls : List Labelled) → lowered k ls ≡ map (relabelled (lower k)) (without_label k ls)
lowered_is k ls = map_same (lowered_as k) (relabelled (lower k)) (without_label k ls) (λ x. lowered_same k x (nat_lt k x.number) refl)

raised_same : (k : ℕ) (x : Labelled) (t : Bool) → nat_lt x.number k ≡ t → raised_as k x ≡ relabelled (raise k) x
raised_same k x true so = rw so refl
raised_same k x false so = rw so refl

pub raised_is : (k : ℕ) (ls : List Labelled) → raised k ls ≡ map (relabelled (raise k)) ls
raised_is k ls = map_same (raised_as k) (relabelled (raise k)) ls (λ x. raised_same k x (nat_lt x.number k) refl)

-- the labels after the logical partition of a number went
pub are_lowered : (k : ℕ) (ss : List Slice) (ls : List Labelled) → AreLabelsOf ss ls → AreLabelsOf (slices_lowered k ss) (lowered k ls)
are_lowered k ss ls are =
    subst (AreLabelsOf (slices_lowered k ss)) (sym (lowered_is k ls))
    (are_moved (lower k) (slices_by (is_not k) ss) (without_label k ls) (are_filter (is_not k) ss ls are))

lower_one : (k a b : ℕ) → a ≢ k → b ≢ k → (a < k) ⊎ (k ≤ a) → (b < k) ⊎ (k ≤ b) → lower k a ≡ lower k b → a ≡ b
lower_one k a b p q (inl x) (inl y) same = omega (arith, same, lower_below k a (omega (arith, x)), lower_below k b (omega (arith, y)))
lower_one k a b p q (inl x) (inr y) same =
    absurd (omega (arith, same, x, y, q, lower_below k a (omega (arith, x)), lower_above k b (omega (arith, y, q))))
lower_one k a b p q (inr x) (inl y) same =
    absurd (omega (arith, same, x, y, p, lower_above k a (omega (arith, x, p)), lower_below k b (omega (arith, y))))
lower_one k a b p q (inr x) (inr y) same =
    omega (arith, same, x, y, p, q, lower_above k a (omega (arith, x, p)), lower_above k b (omega (arith, y, q)))

-- each other number has its label under the number that it then has
pub label_of_lowered : (k m : ℕ) (ls : List Labelled) → m ≢ k → label_of (lowered k ls) (lower k m) ≡ label_of ls m
label_of_lowered k m ls other =
    ap (λ (l : List Labelled). label_of l (lower k m)) (lowered_is k ls)
    ∙ (label_of_moved (lower k) (without_label k ls) m apart ∙ label_of_by (is_not k) m ls (is_not_true k m other)) where
      apart : (x : Labelled) → Contains (without_label k ls) x → lower k x.number ≡ lower k m → x.number ≡ m
      apart x is same =
          let kept = contains_filter (λ (y : Labelled). is_not k y.number) x ls is in
          lower_one k x.number m (λ e. true≢false (sym kept.1 ∙ is_not_false k x.number e)) other (cases_lt x.number k) (cases_lt m k) same

number_here : (top : ℕ) (s : Slice) (l : Label) (rest : List Labelled) (x : Labelled) → s.number < top
    → (Contains rest x → x.number < top) → (labelled s.number l ≡ x) ⊎ Contains rest x → x.number < top
number_here top s l rest x below more (inl same) =
    let n : s.number ≡ x.number = ap (λ (y : Labelled). y.number) same in omega (arith, n, below)
number_here top s l rest x below more (inr later) = more later

-- labels have numbers of their slices
pub label_numbers : (top : ℕ) (ss : List Slice) (ls : List Labelled) (x : Labelled) → AreBelow top ss → AreLabelsOf ss ls
    → Contains ls x → x.number < top
label_numbers top [] ls x below are (k, lt, is) = let none : length ls ≡ 0 = ap length are in absurd (omega (arith, lt, none))
label_numbers top (s ∷ ss) ls x below (inl (l, rest, so, fits, behind)) is =
    number_here top s l rest x below.0 (label_numbers top ss rest x below.1 behind)
    (contains_cases (labelled s.number l) x rest (subst (λ (y : List Labelled). Contains y x) so is))
label_numbers top (s ∷ ss) ls x below (inr behind) is = label_numbers top ss ls x below.1 behind is

-- the labels before a logical partition of a number comes
pub are_raised : (k : ℕ) (ss : List Slice) (ls : List Labelled) → AreLabelsOf ss ls → AreLabelsOf (slices_raised k ss) (raised k ls)
are_raised k ss ls are = subst (AreLabelsOf (slices_raised k ss)) (sym (raised_is k ls)) (are_moved (raise k) ss ls are)

raise_one : (k a b : ℕ) → a < greatest → b < greatest → (a < k) ⊎ (k ≤ a) → (b < k) ⊎ (k ≤ b) → raise k a ≡ raise k b → a ≡ b
raise_one k a b p q (inl x) (inl y) same = omega (arith, same, raise_below k a x, raise_below k b y)
raise_one k a b p q (inl x) (inr y) same = absurd (omega (arith, same, x, y, raise_below k a x, raise_above k b y q))
raise_one k a b p q (inr x) (inl y) same = absurd (omega (arith, same, x, y, raise_above k a x p, raise_below k b y))
raise_one k a b p q (inr x) (inr y) same = omega (arith, same, raise_above k a x p, raise_above k b y q)

-- each number has its label under the number that it then has
pub label_of_raised : (k m : ℕ) (ss : List Slice) (ls : List Labelled) → AreBelow greatest ss → AreLabelsOf ss ls → m < greatest
    → label_of (raised k ls) (raise k m) ≡ label_of ls m
label_of_raised k m ss ls below are small =
    ap (λ (l : List Labelled). label_of l (raise k m)) (raised_is k ls)
    ∙ label_of_moved (raise k) ls m (λ x is same.
    raise_one k x.number m (label_numbers greatest ss ls x below are is) small (cases_lt x.number k) (cases_lt m k) same)

-- no number moves to that of the one that comes
pub raise_free : (k m : ℕ) → m < greatest → (m < k) ⊎ (k ≤ m) → raise k m ≢ k
raise_free k m small (inl lt) = λ e. absurd (omega (arith, e, lt, raise_below k m lt))
raise_free k m small (inr ge) = λ e. absurd (omega (arith, e, ge, raise_above k m ge small))

raise_order : (k a b : ℕ) → a < greatest → b < greatest → a ≤ b → (a < k) ⊎ (k ≤ a) → (b < k) ⊎ (k ≤ b) → raise k a ≤ raise k b
raise_order k a b p q le (inl x) (inl y) = omega (arith, le, raise_below k a x, raise_below k b y)
raise_order k a b p q le (inl x) (inr y) = omega (arith, le, raise_below k a x, raise_above k b y q)
raise_order k a b p q le (inr x) (inl y) = absurd (omega (arith, le, x, y))
raise_order k a b p q le (inr x) (inr y) = omega (arith, le, raise_above k a x p, raise_above k b y q)

raise_step : (k a : ℕ) → a + 1 < greatest → (a < k) ⊎ (k ≤ a) → (a + 1 < k) ⊎ (k ≤ a + 1) → raise k a + 1 ≤ raise k (a + 1)
raise_step k a p (inl x) (inl y) = omega (arith, raise_below k a x, raise_below k (a + 1) y)
raise_step k a p (inl x) (inr y) = omega (arith, raise_below k a x, raise_above k (a + 1) y p)
raise_step k a p (inr x) (inl y) = absurd (omega (arith, x, y))
raise_step k a p (inr x) (inr y) = omega (arith, raise_above k a x (omega (arith, p)), raise_above k (a + 1) y p)

-- raised slices ascend as well
pub raised_ascend : (k low : ℕ) (ss : List Slice) → low < greatest → AreBelow (greatest - 1) ss → NumbersAscend low ss
    → NumbersAscend (raise k low) (slices_raised k ss)
raised_ascend k low [] small below up = tt
raised_ascend k low (s ∷ ss) small below up =
    let n = s.number in
    let first : n + 1 < greatest = omega (arith, below.0) in (
      raise_order k low n small (omega (arith, first)) up.0 (cases_lt low k) (cases_lt n k),
      ascend_from (raise k n + 1) (raise k (n + 1)) (slices_raised k ss) (raise_step k n first (cases_lt n k) (cases_lt (n + 1) k))
          (raised_ascend k (n + 1) ss first below.1 up.1),
    )

-- no slice has the number
abbrev pub NoneHas : ℕ → List Slice → Type 0
NoneHas k [] = Unit {0}
NoneHas k (s ∷ ss) = (s.number ≢ k) × NoneHas k ss

pub raised_free : (k : ℕ) (ss : List Slice) → AreBelow greatest ss → NoneHas k (slices_raised k ss)
raised_free k [] below = tt
raised_free k (s ∷ ss) below = (raise_free k s.number below.0 (cases_lt s.number k), raised_free k ss below.1)

split_one : (k : ℕ) (s : Slice) (ss : List Slice) → NumbersAscend (s.number + 1) ss → s.number ≢ k
    → slices_by (is_below k) ss ++ slices_by (is_above k) ss ≡ ss → (s.number < k) ⊎ (k ≤ s.number)
    → slices_by (is_below k) (s ∷ ss) ++ slices_by (is_above k) (s ∷ ss) ≡ s ∷ ss
split_one k s ss up other more (inl lt) =
    ap (λ (l : List Slice). l ++ slices_by (is_above k) (s ∷ ss))
    (filter_in (λ (x : Slice). is_below k x.number) s ss (lt-ltb s.number k lt))
    ∙ (ap (λ (l : List Slice). (s ∷ slices_by (is_below k) ss) ++ l)
    (filter_out (λ (x : Slice). is_above k x.number) s ss (le-ltb k s.number (omega (arith, lt))))
    ∙ ap (λ (l : List Slice). s ∷ l) more)
split_one k s ss up other more (inr ge) =
    let gone : slices_by (is_below k) ss ≡ [] = ascending_gone (is_below k) (s.number + 1) ss
    (λ m le. le-ltb m k (omega (arith, le, ge))) up in
    let kept : slices_by (is_above k) ss ≡ ss = ascending_kept (is_above k) (s.number + 1) ss
    (λ m le. lt-ltb k m (omega (arith, le, ge))) up in
    ap (λ (l : List Slice). l ++ slices_by (is_above k) (s ∷ ss))
    (filter_out (λ (x : Slice). is_below k x.number) s ss (le-ltb s.number k ge) ∙ gone)
    ∙ (filter_in (λ (x : Slice). is_above k x.number) s ss (lt-ltb k s.number (omega (arith, ge, other)))
    ∙ ap (λ (l : List Slice). s ∷ l) kept)

-- so those of lower and of higher numbers are all
pub split_at : (k low : ℕ) (ss : List Slice) → NumbersAscend low ss → NoneHas k ss
    → slices_by (is_below k) ss ++ slices_by (is_above k) ss ≡ ss
split_at k low [] up none = refl
split_at k low (s ∷ ss) up none = split_one k s ss up.1 none.0 (split_at k (s.number + 1) ss up.1 none.1) (cases_lt s.number k)
