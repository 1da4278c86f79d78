-- The blocks of an area, as its free sectors give them.
use Rattle.std.proofs.Common.{◌≡◌, ◌<◌, ◌≤◌, ◌+◌, ◌-◌, ℕ, zero, suc, Bool, true, false, not, List, [], ◌∷◌, length, get_or, refl, sym, ap}
use Rattle.std.proofs.Common.{subst}
use Rattle.std.proofs.Common.{arith, inl, inr}
use Rattle.std.specs.Prelude.{◌⊎◌, Contains, filter, find, nat_le, Option, Some, None}
use Rattle.std.specs.List.{range_with_len}
use Rattle.std.proofs.lemmas.Bool.{cases_lt, cases_eq, cond-true, cond-false, eq-eqb, ne_eqb, and_from, and_parts, le-leb, leb-true}
use Rattle.std.proofs.lemmas.Bool.{or_cases, or_left, or_right, false≢true, both_ways}
use Rattle.std.proofs.lemmas.List.Elements.{Contains-get_or}
use Rattle.std.proofs.lemmas.Option.{same_Some}
use Rattle.pt_edit.specs.declared.space.Run.{Run}
use Rattle.pt_edit.specs.Space.{Area, RunHolds, IsInRuns, IsUsable, IsFree, IsBlock, AreBlocks, holds, is_in, in_front, grouped, blocks_of}
use Rattle.pt_edit.proofs.Blocks.{same_block, blocks_are_one}

-- ## Tests on sectors.

pub holds_is : (k : ℕ) (r : Run) → holds k r ≡ true → RunHolds r k
holds_is k r is = let parts = and_parts (nat_le r.first k) (nat_le k r.last) is in (leb-true r.first k parts.0, leb-true k r.last parts.1)

pub is_holds : (k : ℕ) (r : Run) → RunHolds r k → holds k r ≡ true
is_holds k r (low, high) = and_from (nat_le r.first k) (nat_le k r.last) (le-leb r.first k low) (le-leb k r.last high)

pub in_runs : (runs : List Run) (k : ℕ) → is_in runs k ≡ true → IsInRuns runs k
in_runs [] k is = absurd (false≢true is)
in_runs (r ∷ rs) k is = elim (or_cases (holds k r) (is_in rs k) is) as (λ _. IsInRuns (r ∷ rs) k) [
  | inl here ↦ (r, (0, omega arith, refl), holds_is k r here)
  | inr there ↦ (let (q, (j, lt, at), held) = in_runs rs k there in (q, (suc j, omega arith, at), held))
]

pub runs_in : (runs : List Run) (k : ℕ) → IsInRuns runs k → is_in runs k ≡ true
runs_in [] k is = absurd (omega (arith, is.1.1))
runs_in (r ∷ rs) k (q, (zero, lt, at), held) =
    or_left (holds k r) (is_in rs k) (is_holds k r (subst (λ (x : Run). RunHolds x k) (sym at) held))
runs_in (r ∷ rs) k (q, (suc j, lt, at), held) = or_right (holds k r) (is_in rs k) (runs_in rs k (q, (j, omega arith, at), held))

-- ## The runs of the free sectors from one on.

first_or : (x : Run) (xs : List Run) (b : Run) → Contains (x ∷ xs) b → (x ≡ b) ⊎ Contains xs b
first_or x xs b (zero, lt, at) = inl at
first_or x xs b (suc k, lt, at) = inr (k, omega arith, at)

first : (x : Run) (xs : List Run) → Contains (x ∷ xs) x
first x xs = (0, omega arith, refl)

later : (x : Run) (xs : List Run) (b : Run) → Contains xs b → Contains (x ∷ xs) b
later x xs b (k, lt, at) = (suc k, omega arith, at)

abbrev run_from : ℕ → ℕ → Run
run_from first last = record { first = first; last = last }

-- it is as long as can be, as far as sectors from that one on tell
record IsRunFrom (a : Area) (low : ℕ) (r : Run) : Type 0 where
  pub from : low ≤ r.first
  pub some : r.first ≤ r.last
  pub free : (k : ℕ) → RunHolds r k → IsFree a k
  pub before : (k : ℕ) → low ≤ k → k + 1 ≡ r.first → ¬ IsFree a k
  pub after : ¬ IsFree a (r.last + 1)

abbrev Apart : List Run → Type 0
Apart [] = Unit {0}
Apart (r ∷ rs) = ((q : Run) → Contains rs q → r.last < q.first) × Apart rs

record AreRunsFrom (a : Area) (low : ℕ) (runs : List Run) : Type 0 where
  pub each : (r : Run) → Contains runs r → IsRunFrom a low r
  pub all : (k : ℕ) → low ≤ k → IsFree a k → (r : Run) × Contains runs r × RunHolds r k
  pub apart : Apart runs

wider : (a : Area) (low : ℕ) (r : Run) → (low + 1 ≡ r.first → ¬ IsFree a low) → IsRunFrom a (low + 1) r → IsRunFrom a low r
wider a low r edge is = record {
  from = omega (arith, is.from);
  some = is.some;
  free = is.free;
  before = λ k up at free. elim (cases_eq low k) as (λ _. ⊥) [
    | inl same ↦ edge (omega arith) (subst (λ (n : ℕ). IsFree a n) (sym same) free)
    | inr other ↦ is.before k (omega arith) at free
  ];
  after = is.after;
}

-- the next sector isn't free
skipped : (a : Area) (low : ℕ) (runs : List Run) → ¬ IsFree a low → AreRunsFrom a (low + 1) runs → AreRunsFrom a low runs
skipped a low runs not are = record {
  each = λ r there. wider a low r (λ _. not) (are.each r there);
  all = λ k up free. elim (cases_eq low k) as (λ _. (r : Run) × Contains runs r × RunHolds r k) [
    | inl same ↦ absurd (not (subst (λ (n : ℕ). IsFree a n) (sym same) free))
    | inr other ↦ are.all k (omega arith) free
  ];
  apart = are.apart;
}

-- it is, and begins a run
module _ (a : Area) (low last : ℕ) (rest runs : List Run) (free : IsFree a low) (are : AreRunsFrom a (low + 1) runs)
    (up : low ≤ last) (inside : (k : ℕ) → low + 1 ≤ k → k ≤ last → IsFree a k) (after : ¬ IsFree a (last + 1))
    (in_rest : (q : Run) → Contains rest q → Contains runs q × (last < q.first) × (low + 1 ≡ q.first → ⊥))
    (in_runs_or : (q : Run) → Contains runs q → (q.last ≡ last) ⊎ Contains rest q) (apart : Apart rest) where
  begun : AreRunsFrom a low (run_from low last ∷ rest)
  begun = record {
    each = λ r there. elim (first_or (run_from low last) rest r there) as (λ _. IsRunFrom a low r) [
      | inl same ↦ subst (λ (q : Run). IsRunFrom a low q) same (record {
        from = omega arith;
        some = up;
        free = λ k held. elim (cases_eq low k) as (λ _. IsFree a k) [
          | inl here ↦ subst (λ (n : ℕ). IsFree a n) here free
          | inr other ↦ inside k (omega (arith, held.0)) held.1
        ];
        before = λ k least at _. omega arith;
        after = after;
      })
      | inr more ↦ wider a low r (λ edge _. (in_rest r more).2 edge) (are.each r (in_rest r more).0)
    ];
    all = λ k least is. elim (cases_eq low k) as (λ _. (r : Run) × Contains (run_from low last ∷ rest) r × RunHolds r k) [
      | inl same ↦ (run_from low last, first (run_from low last) rest, (least, omega arith))
      | inr other ↦ (let (q, there, held) = are.all k (omega arith) is in
          elim (in_runs_or q there) as (λ _. (r : Run) × Contains (run_from low last ∷ rest) r × RunHolds r k) [
            | inl end ↦ (run_from low last, first (run_from low last) rest, (least, omega (arith, held.1, end)))
            | inr more ↦ (q, later (run_from low last) rest q more, held)
          ])
    ];
    apart = (λ q there. (in_rest q there).1, apart);
  }

none : (q : Run) → Contains [] q → ⊥
none q there = omega (arith, there.1)

taken_on : (a : Area) (low : ℕ) (runs : List Run) → IsFree a low → AreRunsFrom a (low + 1) runs → AreRunsFrom a low (in_front low runs)
taken_on a low [] free are =
    begun a low low [] [] free are (omega arith) (λ k up down. absurd (omega arith))
    (λ more. (let (q, there, held) = are.all (low + 1) (omega arith) more in none q there)) (λ q there. absurd (none q there))
    (λ q there. absurd (none q there)) tt
taken_on a low (r ∷ rs) free are = elim (cases_eq (low + 1) r.first) as (λ _. AreRunsFrom a low (in_front low (r ∷ rs))) [
  | inl next ↦ subst (λ (l : List Run). AreRunsFrom a low l) (sym (cond-true _ _ _ (eq-eqb (low + 1) r.first next)))
      (begun a low r.last rs (r ∷ rs) free are (omega (arith, here.some)) (λ k up down. here.free k (omega arith, down)) here.after
      (λ q there. (later r rs q there, are.apart.0 q there, λ edge. omega (arith, are.apart.0 q there, here.some)))
      (λ q there. elim (first_or r rs q there) as (λ _. (q.last ≡ r.last) ⊎ Contains rs q) [
        | inl same ↦ inl (ap (λ (x : Run). x.last) (sym same))
        | inr more ↦ inr more
      ]) are.apart.1)
  | inr far ↦ subst (λ (l : List Run). AreRunsFrom a low l) (sym (cond-false _ _ _ (ne_eqb (low + 1) r.first far)))
      (begun a low low (r ∷ rs) (r ∷ rs) free are (omega arith) (λ k up down. absurd (omega arith))
      (λ more. (let (q, there, held) = are.all (low + 1) (omega arith) more in
      beyond far q there (omega (arith, held.0, (are.each q there).from))))
      (λ q there. (there, omega (arith, (are.each q there).from), beyond far q there)) (λ q there. inr there) are.apart)
] where
  here : IsRunFrom a (low + 1) r
  here = are.each r (first r rs)

  beyond : (low + 1 ≡ r.first → ⊥) → (q : Run) → Contains (r ∷ rs) q → low + 1 ≡ q.first → ⊥
  beyond far q there at = elim (first_or r rs q there) as (λ _. ⊥) [
    | inl same ↦ far (omega (arith, at, ap (λ (x : Run). x.first) same))
    | inr more ↦ omega (arith, at, are.apart.0 q more, here.from, here.some)
  ]

no_runs : (a : Area) (low : ℕ) → a.high < low → AreRunsFrom a low []
no_runs a low past = record {
  each = λ r there. absurd (none r there);
  all = λ k up free. absurd (omega (arith, free.0.1));
  apart = tt;
}

abbrev is_clear : Area → ℕ → Bool
is_clear a k = not (is_in a.taken k)

next_from : (a : Area) (low : ℕ) (ks : List ℕ) → IsUsable a low → AreRunsFrom a (low + 1) (grouped (filter (is_clear a) ks))
    → AreRunsFrom a low (grouped (filter (is_clear a) (low ∷ ks)))
unfolding grouped
next_from a low ks usable rest = by_case (is_in a.taken low) refl where
  by_case : (t : Bool) → is_in a.taken low ≡ t → AreRunsFrom a low (grouped (filter (is_clear a) (low ∷ ks)))
  by_case true is = rw is (skipped a low _ (λ free. free.1 (in_runs a.taken low is)) rest)
  by_case false is = rw is (taken_on a low _ (usable, λ taken. both_ways (is_in a.taken low) is (runs_in a.taken low taken)) rest)

runs_from : (a : Area) (n low : ℕ) → a.low ≤ low → low + n ≡ a.high + 1
    → AreRunsFrom a low (grouped (filter (is_clear a) (range_with_len low n)))
unfolding grouped
runs_from a zero low from end = no_runs a low (omega arith)
runs_from a (suc n) low from end = next_from a low _ (from, omega arith) (runs_from a n (low + 1) (omega arith) (omega arith))

-- ## All of them are the blocks.

ascending : (runs : List Run) → Apart runs → (i j : ℕ) (d : Run) → i < j → j < length runs
    → (get_or runs i d).last < (get_or runs j d).first
ascending [] apart i j d lt inside = absurd (omega arith)
ascending (r ∷ rs) apart i zero d lt inside = absurd (omega arith)
ascending (r ∷ rs) apart zero (suc j) d lt inside = apart.0 (get_or rs j d) (Contains-get_or rs j d (omega arith))
ascending (r ∷ rs) apart (suc i) (suc j) d lt inside = ascending rs apart.1 i j d (omega arith) (omega arith)

are_blocks : (a : Area) (runs : List Run) → AreRunsFrom a a.low runs → AreBlocks a runs
are_blocks a runs are = record {
  each = is_block;
  all = λ b is. (let free = is.free b.first (omega arith, is.some) in
      let (r, there, held) = are.all b.first free.0.0 free in
      let same = same_block a r b b.first (is_block r there) is held (omega arith, is.some) in
      subst (λ (x : Run). Contains runs x) same there);
  ascending = ascending runs are.apart;
} where
  is_block : (b : Run) → Contains runs b → IsBlock a b
  is_block b there = let is = are.each b there in record {
    some = is.some;
    free = is.free;
    before = λ k at free. is.before k free.0.0 at free;
    after = is.after;
  }

runs_are : (a : Area) → AreRunsFrom a a.low (blocks_of a)
unfolding blocks_of grouped
runs_are a = elim (cases_lt (a.high + 1) a.low) as (λ _. AreRunsFrom a a.low (blocks_of a)) [
  | inl past ↦ (let e : a.high + 1 - a.low ≡ 0 = omega arith in rw e (no_runs a a.low (omega arith)))
  | inr some ↦ runs_from a (a.high + 1 - a.low) a.low (omega arith) (omega arith)
]

pub blocks_are : (a : Area) → AreBlocks a (blocks_of a)
blocks_are a = are_blocks a (blocks_of a) (runs_are a)

pub blocks_same : (a : Area) (xs : List Run) → AreBlocks a xs → xs ≡ blocks_of a
blocks_same a xs is = blocks_are_one a xs (blocks_of a) is (blocks_are a)

-- ## The block that has a sector.

pub free_in : (a : Area) (k : ℕ) → IsFree a k → IsInRuns (blocks_of a) k
free_in a k free = (runs_are a).all k free.0.0 free

pub find_some : (runs : List Run) (k : ℕ) (b : Run) → find (holds k) runs ≡ Some b → Contains runs b × RunHolds b k
find_some [] k b is = cc
find_some (r ∷ rs) k b is = by_case (holds k r) refl (λ rest. find_some rs k b rest) where
  by_case : (t : Bool) → holds k r ≡ t → (find (holds k) rs ≡ Some b → Contains rs b × RunHolds b k) → Contains (r ∷ rs) b × RunHolds b k
  by_case true here rest =
      let same : r ≡ b = same_Some r b (rw here at is) in
      (subst (λ (x : Run). Contains (r ∷ rs) x) same (first r rs), subst (λ (x : Run). RunHolds x k) same (holds_is k r here))
  by_case false not rest = let (there, held) = rest (rw not at is) in (later r rs b there, held)

in_later : (r : Run) (rs : List Run) (k : ℕ) → holds k r ≡ false → IsInRuns (r ∷ rs) k → IsInRuns rs k
in_later r rs k not (q, (zero, lt, at), held) =
    absurd (both_ways (holds k r) not (is_holds k r (subst (λ (x : Run). RunHolds x k) (sym at) held)))
in_later r rs k not (q, (suc j, lt, at), held) = (q, (j, omega arith, at), held)

pub find_any : (runs : List Run) (k : ℕ) → IsInRuns runs k → (b : Run) × (find (holds k) runs ≡ Some b)
find_any [] k is = absurd (omega (arith, is.1.1))
find_any (r ∷ rs) k is = by_case (holds k r) refl (λ there. find_any rs k there) where
  by_case : (t : Bool) → holds k r ≡ t → (IsInRuns rs k → (b : Run) × (find (holds k) rs ≡ Some b))
      → (b : Run) × (find (holds k) (r ∷ rs) ≡ Some b)
  by_case true here rest = (r, rw here)
  by_case false not rest = let (b, found) = rest (in_later r rs k not is) in (b, rw not found)

pub find_none : (runs : List Run) (k : ℕ) → ¬ IsInRuns runs k → find (holds k) runs ≡ None
find_none runs k not = by_case (find (holds k) runs) refl where
  by_case : (o : Option Run) → find (holds k) runs ≡ o → find (holds k) runs ≡ None
  by_case None none = none
  by_case (Some b) found = let is = find_some runs k b found in absurd (not (b, is.0, is.1))
