-- Labels whose slices' numbers ascend, and the search for one of them.
use Rattle.std.proofs.Common.{◌≡◌, ◌∙◌, ◌<◌, ◌≤◌, ◌+◌, ◌-◌, ℕ, zero, suc, List, [], ◌∷◌, length, get_or, drop, Some, None, refl}
use Rattle.std.proofs.Common.{sym, ap, arith, ltb, true, false, subst, ⊎_elim}
use Rattle.std.specs.List.{AllAdjacentBelow}
use Rattle.std.specs.List.Sorted.{IsNonDecreasingBy, IsPartitionPoint}
use Rattle.std.proofs.lemmas.Bool.{cases_lt, ltb-true, ltb-false}
use Rattle.pt_members.specs.Members.{label_of}
use Rattle.pt_members.specs.declared.layout.Labelled.{Labelled}
use Rattle.pt_members.proofs.ByPlace.{label_here, label_next, label_end}

-- labels of other numbers may be left out
label_skip : (ls : List Labelled) (n : ℕ) (z : Labelled) (k : ℕ) → k ≤ length ls
    → ((j : ℕ) → j < k → ¬ ((get_or ls j z).number ≡ n)) → label_of ls n ≡ label_of (drop k ls) n
label_skip ls n z zero le none = refl
label_skip ls n z (suc k) le none =
    let e : k + 1 ≡ suc k = omega arith in
    label_skip ls n z k (omega (arith, le)) (λ j lt. none j (omega (arith, lt)))
    ∙ label_next ls k n z (omega (arith, le)) (none k (omega arith))
    ∙ ap (λ (m : ℕ). label_of (drop m ls) n) e

label_none : (ls : List Labelled) (n : ℕ) (z : Labelled) → ((j : ℕ) → j < length ls → ¬ ((get_or ls j z).number ≡ n))
    → None ≡ label_of ls n
label_none ls n z none =
    sym (label_skip ls n z (length ls) (omega arith) none ∙ label_end ls (length ls) n (omega arith))

abbrev pub IsPoint : List Labelled → ℕ → ℕ → Type 0
IsPoint ls n i = IsPartitionPoint (λ (y : Labelled). ltb y.number n ≡ true) (λ (y : Labelled). ltb y.number n ≡ false) ls i

before : (ls : List Labelled) (n i : ℕ) (z : Labelled) → IsPoint ls n i → (j : ℕ) → j < i → ¬ ((get_or ls j z).number ≡ n)
before ls n i z point j lt same =
    let less : (get_or ls j z).number < n = ltb-true (get_or ls j z).number n (point.0 j z (omega arith) lt) in
    omega (arith, less, same)

pub among_here : (ls : List Labelled) (n i : ℕ) (it : Labelled) → IsPoint ls n i → i < length ls → ((d : Labelled) → it ≡ get_or ls i d)
    → it.number ≡ n → Some it.label ≡ label_of ls n
among_here ls n i it point lt at same =
    ap (λ (x : Labelled). Some x.label) (at it)
    ∙ sym (label_skip ls n it i (omega (arith, lt)) (before ls n i it point)
    ∙ label_here ls i n it lt (subst (λ (x : Labelled). x.number ≡ n) (at it) same))

pub among_other : (ls : List Labelled) (n i : ℕ) (it : Labelled) → IsNonDecreasingBy (λ (x : Labelled). x.number) ls → IsPoint ls n i
    → i < length ls → ((d : Labelled) → it ≡ get_or ls i d) → ¬ (it.number ≡ n) → None ≡ label_of ls n
among_other ls n i it up point lt at other = label_none ls n it (λ j less same. ⊎_elim
    (λ low. before ls n i it point j low same)
    (λ high. (let here : n ≤ (get_or ls i it).number = ltb-false (get_or ls i it).number n (point.1 i it (omega arith) lt) in
    let rises : (get_or ls i it).number ≤ (get_or ls j it).number = up i j it high less in
    other (ap (λ (x : Labelled). x.number) (at it) ∙ omega (arith, here, rises, same))))
    (cases_lt j i))

pub among_none : (ls : List Labelled) (n i : ℕ) → IsPoint ls n i → length ls ≤ i → None ≡ label_of ls n
unfolding label_of
among_none [] n i point past = refl
among_none (x ∷ ls) n i point past =
    label_none (x ∷ ls) n x (λ j lt. before (x ∷ ls) n i x point j (omega (arith, lt, past)))

rises : (ls : List Labelled) (n : ℕ) → AllAdjacentBelow (λ (x : Labelled) (y : Labelled). x.number ≤ y.number) ls n → (i k : ℕ)
    (d : Labelled) → i + k < n → (get_or ls i d).number ≤ (get_or ls (i + k) d).number
rises ls n adjacent i zero d lt =
    let same : i ≡ i + 0 = omega arith in omega (arith, ap (λ (m : ℕ). (get_or ls m d).number) same)
rises ls n adjacent i (suc k) d lt =
    let next : i + k + 1 ≡ i + suc k = omega arith in
    omega (
      arith,
      rises ls n adjacent i k d (omega (arith, lt)),
      adjacent (i + k) d (omega (arith, lt)),
      ap (λ (m : ℕ). (get_or ls m d).number) next,
    )

-- where each is at most the next
pub ascending : (ls : List Labelled) (n : ℕ) → length ls ≤ n
    → AllAdjacentBelow (λ (x : Labelled) (y : Labelled). x.number ≤ y.number) ls n → IsNonDecreasingBy (λ (x : Labelled). x.number) ls
ascending ls n past adjacent i j d le lt =
    let there : i + (j - i) ≡ j = omega (arith, le) in
    omega (
      arith,
      rises ls n adjacent i (j - i) d (omega (arith, le, lt, past)),
      ap (λ (m : ℕ). (get_or ls m d).number) there,
    )
