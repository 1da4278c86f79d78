-- Where neighbours are apart, all are.
use Rattle.std.proofs.Common.{◌≡◌, ◌<◌, ◌≤◌, ◌+◌, ℕ, zero, suc, List, [], ◌∷◌, length, get_or, refl, subst, arith, inl, inr, Bool, true}
use Rattle.std.proofs.Common.{false}
use Rattle.std.specs.Prelude.{All, Option, Some, None, IsPermutation, if◌then◌else◌, ◌⊎◌}
use Rattle.std.proofs.lemmas.Bool.{cases_lt}
use Rattle.std.proofs.lemmas.List.Sorted.{sum_by-IsPermutation, All-permutation}
use Rattle.std.proofs.lemmas.List.Sums.{sum_by-cons}
use Rattle.std.specs.Ordering.{nat_cmp}
use Rattle.std.specs.List.Sorted.{IsNonDecreasingBy, IsStableByKey}
use Rattle.std.specs.List.{AllAdjacentBelow}
use Rattle.pt_layout.specs.Sound.{Meets, member_at, nobody, holds, holders, IsApart, IsFirstOverlap}
use Rattle.pt_layout.specs.inner.Sound.{FirstMeetingIs, FirstOverlapIs, IsOrdered}
use Rattle.pt_members.specs.Members.{Holds}
use Rattle.pt_members.specs.declared.member.Member.{Member}
use Rattle.pt_layout.specs.declared.sound.overlap.Overlap.{Overlap}

-- each begins past the end of the one before it
abbrev Rising : ℕ → List Member → Type 0
Rising low [] = Unit {0}
Rising low (m ∷ ms) = (low ≤ m.first) × (m.first ≤ m.last) × Rising (m.last + 1) ms

rising_of : (low : ℕ) (ms : List Member) → ((d : Member) → 0 < length ms → low ≤ (get_or ms 0 d).first)
    → ((k : ℕ) (d : Member) → k < length ms → IsOrdered (get_or ms k d))
    → ((k : ℕ) (d : Member) → suc k < length ms → (get_or ms k d).last < (get_or ms (suc k) d).first) → Rising low ms
rising_of low [] start exist gap = tt
rising_of low (m ∷ ms) start exist gap = (
  start m (omega arith),
  exist 0 m (omega arith),
  rising_of (m.last + 1) ms (λ d some. let g : m.last < (get_or ms 0 d).first = gap 0 d (omega arith) in omega arith)
      (λ k d lt. exist (suc k) d (omega arith)) (λ k d lt. gap (suc k) d (omega arith)),
)

flag : Bool → ℕ
flag b = if b then 1 else 0

outside_none : (s : ℕ) (m : Member) → (s < m.first) ⊎ (m.last < s) → flag (holds s m) ≡ 0
unfolding flag
outside_none s m (inl below) = grind arith
outside_none s m (inr above) = grind arith

inside_one : (s : ℕ) (m : Member) → m.first ≤ s → s ≤ m.last → flag (holds s m) ≡ 1
unfolding flag
inside_one s m low high = grind arith

at_most_one : (b : Bool) → flag b ≤ 1
unfolding flag
at_most_one true = omega arith
at_most_one false = omega arith

step : (s : ℕ) (m : Member) (ms : List Member) → holders s (m ∷ ms) ≡ flag (holds s m) + holders s ms
unfolding flag
step s m ms = sum_by-cons (λ (x : Member). flag (holds s x)) m ms

holders_below : (s low : ℕ) (ms : List Member) → Rising low ms → s < low → holders s ms ≡ 0
holders_below s low [] rising below = refl
holders_below s low (m ∷ ms) rising below =
    omega (arith, step s m ms, outside_none s m (inl (omega arith)), holders_below s (m.last + 1) ms rising.2 (omega arith))

holders_one : (s low : ℕ) (ms : List Member) → Rising low ms → holders s ms ≤ 1
holders_one s low [] rising = omega arith
holders_one s low (m ∷ ms) rising = elim (cases_lt s (m.last + 1)) as (λ x. holders s (m ∷ ms) ≤ 1) [
  | inl lt ↦ omega (arith, step s m ms, at_most_one (holds s m), holders_below s (m.last + 1) ms rising.2 lt)
  | inr ge ↦ omega (arith, step s m ms, outside_none s m (inr (omega arith)), holders_one s (m.last + 1) ms rising.2)
]

holders_two : (s : ℕ) (ms : List Member) (k : ℕ) (d : Member) → suc k < length ms → holders s (get_or ms k d ∷ []) ≡ 1
    → holders s (get_or ms (suc k) d ∷ []) ≡ 1 → 2 ≤ holders s ms
holders_two s [] k d lt a b = absurd (omega arith)
holders_two s (m ∷ []) k d lt a b = absurd (omega arith)
holders_two s (m ∷ n ∷ ms) zero d lt a b = omega (arith, step s m (n ∷ ms), step s n ms, step s m [], step s n [], a, b)
holders_two s (m ∷ n ∷ ms) (suc k) d lt a b = omega (arith, step s m (n ∷ ms), holders_two s (n ∷ ms) k d (omega arith) a b)

gap_of : (a b : Member) → IsOrdered b → a.first ≤ b.first → ¬ Meets a b → a.last < b.first
gap_of a b exist up apart =
    elim (cases_lt a.last b.first) as (λ x. a.last < b.first) [ inl lt ↦ lt | inr ge ↦ absurd (apart (omega arith, ge)) ]

pub all_apart : (members sorted : List Member) → IsPermutation members sorted → IsNonDecreasingBy (λ m. m.first) sorted
    → All IsOrdered members
    → AllAdjacentBelow (λ x y. ¬ Meets x y) sorted (length sorted) → IsApart members
unfolding flag
all_apart members sorted same up all apart s =
    let exist = All-permutation IsOrdered members sorted same all in
    let next : (k : ℕ) (d : Member) → suc k < length sorted → (get_or sorted k d).last < (get_or sorted (suc k) d).first =
    λ k d lt. gap_of (get_or sorted k d) (get_or sorted (suc k) d) (exist (suc k) d lt) (up k (suc k) d (omega arith) lt)
    (subst (λ (n : ℕ). ¬ Meets (get_or sorted k d) (get_or sorted n d)) (omega arith) (apart k d (omega arith))) in
    let rising = rising_of 0 sorted (λ d some. omega arith) exist next in
    let equal : holders s sorted ≡ holders s members = sum_by-IsPermutation (λ (m : Member). flag (holds s m)) members sorted same in
    omega (arith, equal, holders_one s 0 sorted rising)

pub not_apart : (members : List Member) (o : Overlap) → All IsOrdered members → IsFirstOverlap members o → ¬ IsApart members
unfolding flag
not_apart members o all overlap apart =
    let f = overlap.first in
    let a = member_at overlap.sorted f.k in
    let b = member_at overlap.sorted (f.k + 1) in
    let s = b.first in
    let up : a.first ≤ b.first = overlap.order.ascending f.k (f.k + 1) nobody (omega arith) f.below in
    let exist : IsOrdered b = All-permutation IsOrdered members overlap.sorted overlap.order.same all (f.k + 1) nobody f.below in
    let one : holders s (a ∷ []) ≡ 1 = omega (arith, step s a [], inside_one s a up f.meets.1) in
    let two : holders s (b ∷ []) ≡ 1 = omega (arith, step s b [], inside_one s b (omega arith) exist) in
    let both : 2 ≤ holders s overlap.sorted =
    holders_two s overlap.sorted f.k nobody (omega (arith, f.below)) one
    (subst (λ (n : ℕ). holders s (get_or overlap.sorted n nobody ∷ []) ≡ 1) (omega arith) two) in
    let equal : holders s overlap.sorted ≡ holders s members =
    sum_by-IsPermutation (λ (m : Member). flag (holds s m)) members overlap.sorted overlap.order.same in
    let most : holders s members ≤ 1 = apart s in
    absurd (omega arith)

pub found_apart : (members sorted : List Member) → IsPermutation members sorted → IsNonDecreasingBy (λ m. m.first) sorted
    → IsStableByKey (λ (m : Member). m.first) nat_cmp members sorted → All IsOrdered members
    → (o : Option Overlap) → FirstMeetingIs sorted o → FirstOverlapIs members o
found_apart members sorted same up stable all None is = all_apart members sorted same up all is
found_apart members sorted same up stable all (Some o) is =
    record { sorted = sorted; order = record { same = same; ascending = up; stable = stable }; first = is }

pub one_in : (s : ℕ) (ms : List Member) (k : ℕ) (d : Member) → k < length ms → (get_or ms k d).first ≤ s → s ≤ (get_or ms k d).last
    → 1 ≤ holders s ms
one_in s [] k d lt low high = absurd (omega arith)
one_in s (m ∷ ms) zero d lt low high = omega (arith, step s m ms, inside_one s m low high)
one_in s (m ∷ ms) (suc k) d lt low high = omega (arith, step s m ms, one_in s ms k d (omega arith) low high)

pub two_in : (s : ℕ) (ms : List Member) (i j : ℕ) (d e : Member) → i < j → j < length ms → Holds (get_or ms i d) s
    → Holds (get_or ms j e) s → 2 ≤ holders s ms
two_in s [] i j d e order lt p q = absurd (omega arith)
two_in s (m ∷ ms) i zero d e order lt p q = absurd (omega arith)
two_in s (m ∷ ms) zero (suc j) d e order lt p q = omega (arith, step s m ms, inside_one s m p.0 p.1, one_in s ms j e (omega arith) q.0 q.1)
two_in s (m ∷ ms) (suc i) (suc j) d e order lt p q = omega (arith, step s m ms, two_in s ms i j d e (omega arith) (omega arith) p q)
