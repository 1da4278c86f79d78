-- Labels of partitions, in order, that are alike at each number.
use Rattle.std.proofs.Common.{◌≡◌, ◌≢◌, ◌≤◌, ◌<◌, ◌+◌, ◌∙◌, ℕ, suc, List, [], ◌∷◌, ◌++◌, length, Option, Some, None, inl, inr}
use Rattle.std.proofs.Common.{refl, sym, ap, ap₂, arith, subst, append-nil, Bool, true, false}
use Rattle.std.specs.Prelude.{if◌then◌else◌, nat_eq}
use Rattle.std.proofs.lemmas.Bool.{eq-eqb, ne_eqb}
use Rattle.std.proofs.lemmas.List.Elements.{All-head, All-tail}
use Rattle.pt_bsd.specs.declared.label.Label.{Label}
use Rattle.pt_mbr.specs.declared.ebr.Ebr.{Ebr}
use Rattle.pt_mbr.specs.declared.record.Record.{Record}
use Rattle.pt_members.specs.Members.{label_of}
use Rattle.pt_members.specs.declared.layout.Labelled.{Labelled}
use Rattle.pt_tables.specs.Records.{number_after}
use Rattle.pt_tables.specs.Shown.{AreLabelsAt, LabelWidths, LabelsWidths, logical_number, logical_numbers, numbers_from}
use Rattle.pt_tables.proofs.SameLabels.{OptionWidths}

-- ## A label among others.

pub widths_of : (labels : List Labelled) (n : ℕ) → LabelsWidths labels → OptionWidths (label_of labels n)
unfolding label_of
widths_of [] n fits = tt
widths_of (l ∷ ls) n fits =
    by_test (nat_eq l.number n) (All-head (λ (x : Labelled). LabelWidths x.label) l ls fits)
    (widths_of ls n (All-tail (λ (x : Labelled). LabelWidths x.label) l ls fits))
  where
    by_test : (t : Bool) → LabelWidths l.label → OptionWidths (label_of ls n) → OptionWidths (if t then Some l.label else label_of ls n)
    by_test true here there = here
    by_test false here there = there

-- each number is greater than the one before it
abbrev pub Ascends : ℕ → List ℕ → Type 0
Ascends low [] = Unit {0}
Ascends low (n ∷ ns) = (low ≤ n) × Ascends (suc n) ns

-- the two have one label, or none, at each of these numbers
abbrev pub SameAt : List ℕ → List Labelled → List Labelled → Type 0
SameAt [] ls ms = Unit {0}
SameAt (n ∷ ns) ls ms = (label_of ls n ≡ label_of ms n) × SameAt ns ls ms

pub same_both : (ns ks : List ℕ) (ls ms : List Labelled) → SameAt ns ls ms → SameAt ks ls ms → SameAt (ns ++ ks) ls ms
same_both [] ks ls ms here there = there
same_both (n ∷ ns) ks ls ms here there = (here.0, same_both ns ks ls ms here.1 there)

labelled : ℕ → Label → Labelled
labelled n l = record { number = n; label = l }

here_of : (ls rest : List Labelled) (n : ℕ) (l : Label) → ls ≡ record { number = n; label = l } ∷ rest → label_of ls n ≡ Some l
unfolding label_of
here_of ls rest n l is = ap (λ (xs : List Labelled). label_of xs n) is ∙ rw (eq-eqb n n refl) refl

later_of : (ls rest : List Labelled) (n k : ℕ) (l : Label) → ls ≡ record { number = n; label = l } ∷ rest → n ≢ k
    → label_of ls k ≡ label_of rest k
unfolding label_of
later_of ls rest n k l is other = ap (λ (xs : List Labelled). label_of xs k) is ∙ rw (ne_eqb n k other) refl

none_below : (low k : ℕ) (ns : List ℕ) (ls : List Labelled) → Ascends low ns → k < low → AreLabelsAt ns ls → label_of ls k ≡ None
unfolding label_of
none_below low k [] ls up below is = ap (λ (xs : List Labelled). label_of xs k) is
none_below low k (n ∷ ns) ls up below (inl (l, rest, is, stand)) =
    later_of ls rest n k l is (λ same. omega (arith, same, up.0, below))
    ∙ none_below (suc n) k ns rest up.1 (omega (arith, up.0, below)) stand
none_below low k (n ∷ ns) ls up below (inr stand) = none_below (suc n) k ns ls up.1 (omega (arith, up.0, below)) stand

same_later : (low n : ℕ) (ns : List ℕ) (ls ms rest others : List Labelled) (l m : Label) → Ascends low ns → n < low
    → ls ≡ record { number = n; label = l } ∷ rest → ms ≡ record { number = n; label = m } ∷ others → SameAt ns ls ms
    → SameAt ns rest others
same_later low n [] ls ms rest others l m up below is so same = tt
same_later low n (k ∷ ks) ls ms rest others l m up below is so same =
    let other : n ≢ k = λ e. omega (arith, e, up.0, below) in (
      sym (later_of ls rest n k l is other) ∙ same.0 ∙ later_of ms others n k m so other,
      same_later (suc k) n ks ls ms rest others l m up.1 (omega (arith, up.0, below)) is so same.1,
    )

pub one_labels : (low : ℕ) (ns : List ℕ) (ls ms : List Labelled) → Ascends low ns → AreLabelsAt ns ls → AreLabelsAt ns ms → SameAt ns ls ms
    → ls ≡ ms
one_labels low [] ls ms up is so same = is ∙ sym so
one_labels low (n ∷ ns) ls ms up (inl (l, rest, is, stand)) (inl (m, others, so, stay)) same =
    let label : Some l ≡ Some m = sym (here_of ls rest n l is) ∙ same.0 ∙ here_of ms others n m so in
    let both : l ≡ m = cc in
    let tails = one_labels (suc n) ns rest others up.1 stand stay
    (same_later (suc n) n ns ls ms rest others l m up.1 (omega arith) is so same.1) in
    is ∙ ap₂ (λ x xs. record { number = n; label = x } ∷ xs) both tails ∙ sym so
one_labels low (n ∷ ns) ls ms up (inl (l, rest, is, stand)) (inr stay) same =
    let none = none_below (suc n) n ns ms up.1 (omega arith) stay in
    let some = here_of ls rest n l is in
    absurd (cc)
one_labels low (n ∷ ns) ls ms up (inr stand) (inl (m, others, so, stay)) same =
    let none = none_below (suc n) n ns ls up.1 (omega arith) stand in
    let some = here_of ms others n m so in
    absurd (cc)
one_labels low (n ∷ ns) ls ms up (inr stand) (inr stay) same = one_labels (suc n) ns ls ms up.1 stand stay same.1

-- ## The numbers of a body ascend.

weaker : (low high : ℕ) (ns : List ℕ) → low ≤ high → Ascends high ns → Ascends low ns
weaker low high [] less up = tt
weaker low high (n ∷ ns) less up = (omega (arith, less, up.0), up.1)

places_ascend : {X : Type 0} (low n : ℕ) (xs : List (Option X)) (more : List ℕ) → low ≤ n → Ascends (n + length xs) more
    → Ascends low (numbers_from n xs ++ more)
unfolding numbers_from
places_ascend low n [] more less up = weaker low (n + 0) more (omega (arith, less)) up
places_ascend low n (None ∷ xs) more less up =
    let next : n + suc (length xs) ≡ n + 1 + length xs = omega arith in
    places_ascend low (n + 1) xs more (omega (arith, less)) (subst (λ k. Ascends k more) next up)
places_ascend low n (Some x ∷ xs) more less up =
    let next : n + suc (length xs) ≡ n + 1 + length xs = omega arith in
    (less, places_ascend (suc n) (n + 1) xs more (omega arith) (subst (λ k. Ascends k more) next up))

logicals_ascend : (low n : ℕ) (es : List Ebr) → low ≤ n → Ascends low (logical_numbers n es)
unfolding logical_numbers
logicals_ascend low n [] less = tt
logicals_ascend low n (e ∷ es) less =
    by_logical e.logical (logicals_ascend low n es less) (logicals_ascend (suc n) (n + 1) es (omega arith)) where
      by_logical : (r : Option Record) → Ascends low (logical_numbers n es) → Ascends (suc n) (logical_numbers (n + 1) es)
          → Ascends low (logical_number n r ++ logical_numbers (number_after n r) es)
      by_logical None here next = here
      by_logical (Some r) here next = (less, next)

pub entries_ascend : {X : Type 0} (n : ℕ) (xs : List (Option X)) → Ascends n (numbers_from n xs)
entries_ascend n xs = subst (Ascends n) (append-nil (numbers_from n xs)) (places_ascend n n xs [] (omega arith) tt)

pub mbr_ascends : {X : Type 0} (xs : List (Option X)) (chain : List Ebr) → length xs ≡ 4
    → Ascends 1 (numbers_from 1 xs ++ logical_numbers 5 chain)
mbr_ascends xs chain four =
    places_ascend 1 1 xs (logical_numbers 5 chain) (omega arith)
    (weaker (1 + length xs) 5 (logical_numbers 5 chain) (omega (arith, four)) (logicals_ascend 5 5 chain (omega arith)))
