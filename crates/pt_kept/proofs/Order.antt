-- Logical slices stand in the order of their numbers; the label of a slice in a layout, as it changes.
use Rattle.std.specs.Prelude.{◌≡◌, ◌≢◌, ◌<◌, ◌≤◌, ◌+◌, ◌∷◌, [], ℕ, Bool, true, false, List, length, slice_index_or, slice_set, Option}
use Rattle.std.specs.Prelude.{Some, None, is_some, nat_eq}
use Rattle.std.proofs.Common.{refl, sym, ap, subst, ◌∙◌, inl, inr, arith}
use Rattle.std.proofs.lemmas.Bool.{cases_lt, ne_eqb, eqb-true, eqb-false}
use Rattle.std.proofs.lemmas.List.{length-set, get_or-set_same, get_or-set_other}
use Rattle.pt_bsd.specs.Labels.{count_of}
use Rattle.pt_bsd.proofs.Terms.{with_entry_counted, with_entry_fits}
use Rattle.pt_bsd.specs.declared.label.Label.{Label}
use Rattle.pt_bsd.specs.declared.label.LabelEntry.{LabelEntry}
use Rattle.pt_members.specs.declared.layout.Slice.{Slice}
use Rattle.pt_members.specs.declared.layout.Labelled.{Labelled}
use Rattle.pt_members.specs.Members.{label_of}
use Rattle.pt_edit.specs.SliceLabels.{labelled, relabelled_as, with_label, with_part}
use Rattle.pt_cases.specs.Writes.{FitsLabel, AreLabelsOf, NumbersAscend}
use Rattle.pt_cases.specs.Keeps.{SameButParts}
use Rattle.pt_kept.proofs.Lists.{label_of_head, label_of_tail}

same_label : (k : ℕ) (l : Label) (x : Labelled) → x.number ≢ k → relabelled_as k l x ≡ x
same_label k l x other = rw (ne_eqb x.number k other) refl

-- above all numbers nothing changes
none_above : (k low : ℕ) (l : Label) (ss : List Slice) (ls : List Labelled) → k < low → NumbersAscend low ss → AreLabelsOf ss ls
    → with_label k l ls ≡ ls
none_above k low l [] ls lt up are = ap (with_label k l) are ∙ sym are
none_above k low l (s ∷ ss) ls lt up (inl (m, rest, is, fits, behind)) =
    let more = none_above k (s.number + 1) l ss rest (omega (arith, lt, up.0)) up.1 behind in
    ap (with_label k l) is ∙ (ap (λ (x : Labelled). x ∷ with_label k l rest)
    (same_label k l (labelled s.number m) (omega (arith, lt, up.0)))
    ∙ (ap (λ (r : List Labelled). labelled s.number m ∷ r) more ∙ sym is))
none_above k low l (s ∷ ss) ls lt up (inr behind) = none_above k (s.number + 1) l ss ls (omega (arith, lt, up.0)) up.1 behind

-- where the label of a number changes to one that fits its slice as well
with_one : (k : ℕ) (old new : Label) (s : Slice) (ss : List Slice) (ls : List Labelled)
    → ((x : Slice) → FitsLabel x old → FitsLabel x new) → NumbersAscend (s.number + 1) ss → label_of ls k ≡ Some old
    → ((rest : List Labelled) → AreLabelsOf ss rest → label_of rest k ≡ Some old → AreLabelsOf ss (with_label k new rest))
    → (t : Bool) → nat_eq s.number k ≡ t → AreLabelsOf (s ∷ ss) ls → AreLabelsOf (s ∷ ss) (with_label k new ls)
with_one k old new s ss ls fit up has more true so (inl (m, rest, is, fits, behind)) =
    let same : s.number ≡ k = eqb-true s.number k so in
    let found : Some m ≡ Some old = sym (ap (λ (l : List Labelled). label_of l k) is
    ∙ label_of_head (labelled s.number m) rest k same) ∙ has in
    let one : m ≡ old = cc in
    let tail : with_label k new rest ≡ rest = none_above k (s.number + 1) new ss rest (omega (arith, same)) up behind in
    let changed : relabelled_as k new (labelled s.number m) ≡ labelled s.number new = rw so refl in
    inl (
      new,
      rest,
      ap (with_label k new) is ∙ (ap (λ (x : Labelled). x ∷ with_label k new rest) changed
          ∙ ap (λ (l : List Labelled). labelled s.number new ∷ l) tail),
      fit s (subst (FitsLabel s) one fits),
      behind,
    )
with_one k old new s ss ls fit up has more false so (inl (m, rest, is, fits, behind)) =
    let other : s.number ≢ k = eqb-false s.number k so in
    let found : label_of rest k ≡ Some old = sym (ap (λ (l : List Labelled). label_of l k) is
    ∙ label_of_tail (labelled s.number m) rest k other) ∙ has in
    inl (
      m,
      with_label k new rest,
      ap (with_label k new) is
          ∙ ap (λ (x : Labelled). x ∷ with_label k new rest) (same_label k new (labelled s.number m) other),
      fits,
      more rest behind found,
    )
with_one k old new s ss ls fit up has more t so (inr behind) = inr (more ls behind has)

pub are_with : (k low : ℕ) (old new : Label) (ss : List Slice) (ls : List Labelled)
    → ((x : Slice) → FitsLabel x old → FitsLabel x new) → NumbersAscend low ss → label_of ls k ≡ Some old → AreLabelsOf ss ls
    → AreLabelsOf ss (with_label k new ls)
are_with k low old new [] ls fit up has are = ap (with_label k new) are
are_with k low old new (s ∷ ss) ls fit up has are =
    with_one k old new s ss ls fit up.1 has (λ rest behind found. are_with k (s.number + 1) old new ss rest fit up.1 found behind)
    (nat_eq s.number k) refl are

relabelled_number : (k : ℕ) (new : Label) (x : Labelled) (t : Bool) → nat_eq x.number k ≡ t → (relabelled_as k new x).number ≡ x.number
relabelled_number k new x true so = rw so refl
relabelled_number k new x false so = rw so refl

-- a number's own label is the new one, and the others keep theirs
pub label_of_with : (k m : ℕ) (new : Label) (ls : List Labelled) → m ≢ k → label_of (with_label k new ls) m ≡ label_of ls m
unfolding label_of
label_of_with k m new [] other = refl
label_of_with k m new (x ∷ ls) other = with_step k m new x ls other (label_of_with k m new ls other) (nat_eq x.number m) refl where
  with_step : (k m : ℕ) (new : Label) (x : Labelled) (ls : List Labelled) → m ≢ k → label_of (with_label k new ls) m ≡ label_of ls m
      → (t : Bool) → nat_eq x.number m ≡ t → label_of (with_label k new (x ∷ ls)) m ≡ label_of (x ∷ ls) m
  with_step k m new x ls other more true so =
      let here : x.number ≡ m = eqb-true x.number m so in
      ap (λ (y : Labelled). label_of (y ∷ with_label k new ls) m) (same_label k new x (λ e. other (sym here ∙ e)))
      ∙ (label_of_head x (with_label k new ls) m here ∙ sym (label_of_head x ls m here))
  with_step k m new x ls other more false so =
      let apart : x.number ≢ m = eqb-false x.number m so in
      let number : (relabelled_as k new x).number ≡ x.number = relabelled_number k new x (nat_eq x.number k) refl in
      label_of_tail (relabelled_as k new x) (with_label k new ls) m (λ e. apart (sym number ∙ e))
      ∙ (more ∙ sym (label_of_tail x ls m apart))

label_step : (k : ℕ) (old new : Label) (x : Labelled) (ls : List Labelled)
    → (label_of ls k ≡ Some old → label_of (with_label k new ls) k ≡ Some new) → label_of (x ∷ ls) k ≡ Some old → (t : Bool)
    → nat_eq x.number k ≡ t → label_of (with_label k new (x ∷ ls)) k ≡ Some new
label_step k old new x ls more has true so =
    let changed : relabelled_as k new x ≡ labelled x.number new = rw so refl in
    ap (λ (y : Labelled). label_of (y ∷ with_label k new ls) k) changed
    ∙ label_of_head (labelled x.number new) (with_label k new ls) k (eqb-true x.number k so)
label_step k old new x ls more has false so =
    let other = eqb-false x.number k so in
    ap (λ (y : Labelled). label_of (y ∷ with_label k new ls) k) (same_label k new x other)
    ∙ (label_of_tail x (with_label k new ls) k other ∙ more (sym (label_of_tail x ls k other) ∙ has))

pub label_of_changed : (k : ℕ) (old new : Label) (ls : List Labelled) → label_of ls k ≡ Some old
    → label_of (with_label k new ls) k ≡ Some new
unfolding label_of
label_of_changed k old new [] has = absurd cc
label_of_changed k old new (x ∷ ls) has = label_step k old new x ls (label_of_changed k old new ls) has (nat_eq x.number k) refl

-- an entry that is there is counted
pub counted_there : (es : List (Option LabelEntry)) (k : ℕ) (e : LabelEntry) (c : ℕ) → c ≡ count_of es
    → slice_index_or es k None ≡ Some e → ((i : ℕ) → c ≤ i → i < length es → slice_index_or es i None ≡ None) → k < length es → k < c
counted_there es k e c is has others lt = elim (cases_lt k c) as (λ _. k < c) [
  | inl below ↦ below
  | inr above ↦ let both : Some e ≡ None = sym has ∙ others k above lt in absurd cc
]

-- a label with another entry than c in a counted place fits the same slices
pub part_fits : (l : Label) (letter : ℕ) (old new : LabelEntry) (s : Slice) → letter ≢ 2
    → slice_index_or l.entries letter None ≡ Some old → letter < length l.entries → FitsLabel s l → FitsLabel s (with_part l letter new)
part_fits l letter old new s other has within fits =
    let places = fits.counted.places in
    let count = counted_there l.entries letter old (count_of l.entries) refl has
    (λ i above lt. fits.counted.others i above (omega (arith, lt, places))) within in
    record {
      second = fits.second;
      counted = with_entry_counted l letter new fits.counted count;
      slice = with_entry_fits l letter s.first s.len new other fits.slice;
    }

some_at : (es : List (Option LabelEntry)) (letter k : ℕ) (old new : LabelEntry) → slice_index_or es letter None ≡ Some old
    → letter < length es → (t : Bool) → nat_eq k letter ≡ t
    → is_some (slice_index_or (slice_set es letter (Some new)) k None) ≡ is_some (slice_index_or es k None)
some_at es letter k old new has within true so =
    let same : letter ≡ k = sym (eqb-true k letter so) in
    subst (λ (i : ℕ). is_some (slice_index_or (slice_set es letter (Some new)) i None) ≡ is_some (slice_index_or es i None)) same
    (ap is_some (get_or-set_same es letter (Some new) None within) ∙ ap is_some (sym has))
some_at es letter k old new has within false so = ap is_some (get_or-set_other es letter k (Some new) None (eqb-false k letter so))

-- and is the same label but for partitions
pub same_but_part : (l : Label) (letter : ℕ) (old new : LabelEntry) → letter ≢ 2 → slice_index_or l.entries letter None ≡ Some old
    → letter < length l.entries → SameButParts l (with_part l letter new)
same_but_part l letter old new other has within = record {
  same = refl;
  places = length-set l.entries letter (Some new);
  counted = λ k. some_at l.entries letter k old new has within (nat_eq k letter) refl;
  raw = get_or-set_other l.entries letter 2 (Some new) None (λ e. other (sym e));
}
