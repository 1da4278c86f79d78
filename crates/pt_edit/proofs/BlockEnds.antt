-- The end of the block that has a free sector.
use Rattle.std.proofs.Common.{◌≡◌, ◌<◌, ◌≤◌, ◌+◌, ◌-◌, ℕ, List, length, get_or, sym, ap, ◌∙◌, subst, arith, inl, inr}
use Rattle.std.specs.Prelude.{◌⊎◌, Bool, true, false, leb, find, Some, None, Err}
use Rattle.std.proofs.lemmas.Bool.{cases_lt, cases_order, and_from, and_left, and_right, le-leb, lt-leb, both_ways}
use Rattle.pt_words.specs.declared.error.Refusal.TheVariants.{OutsideUsable, Overlap}
use Rattle.pt_edit.specs.declared.space.Run.{Run}
use Rattle.pt_edit.specs.Space.{Area, RunHolds, IsInRuns, IsTaken, IsFree, holds, is_in, is_usable, blocks_of, led, started_at}
use Rattle.pt_edit.specs.inner.Space.{EndsBlock}
use Rattle.pt_edit.proofs.Grouping.{blocks_are, find_any, find_none, find_some, free_in, in_runs, runs_in}
use Rattle.pt_edit.proofs.Gaps.{run_at, any_default}

-- none of the first i taken runs has a sector from one on to the last, and what is after the last isn't free
pub record EndsAfter (a : Area) (i first last : ℕ) : Type 0 where
  pub from : first ≤ last
  pub high : last ≤ a.high
  pub passed : (j n : ℕ) (d : Run) → j < i → first ≤ n → n ≤ last → ¬ RunHolds (get_or a.taken j d) n
  pub after : ¬ IsFree a (last + 1)

pub ends_none : (a : Area) (first : ℕ) → IsFree a first → EndsAfter a 0 first a.high
ends_none a first free = record {
  from = free.0.1;
  high = omega arith;
  passed = λ j n d lt low up held. omega arith;
  after = λ past. omega (arith, past.0.1);
}

module _ (a : Area) (i first last : ℕ) (items : List Run) (list : items ≡ a.taken) (inside : i < length items)
    (free : IsFree a first) (ends : EndsAfter a i first last) where
  at : (d : Run) → get_or a.taken i d ≡ run_at items i
  at = any_default a items i list inside

  taken : (n : ℕ) → RunHolds (run_at items i) n → IsTaken a n
  taken n held = (run_at items i, (i, subst (λ (xs : List Run). i < length xs) list inside, at (run_at items i)), held)

  -- a run that lies elsewhere leaves the end
  pub ends_same : ((n : ℕ) → first ≤ n → n ≤ last → ¬ RunHolds (run_at items i) n) → EndsAfter a (i + 1) first last
  ends_same elsewhere = record {
    from = ends.from;
    high = ends.high;
    passed = λ j n d lt low up held. elim (cases_lt j i) as (λ _. ⊥) [
      | inl before ↦ ends.passed j n d before low up held
      | inr past ↦ (let same : j ≡ i = omega arith in
          elsewhere n low up (subst (λ (r : Run). RunHolds r n) (ap (λ (k : ℕ). get_or a.taken k d) same ∙ at d) held))
    ];
    after = ends.after;
  }

  -- one that begins before the end moves it there
  pub ends_before : first < (run_at items i).first → (run_at items i).first ≤ (run_at items i).last → (run_at items i).first ≤ last
      → EndsAfter a (i + 1) first ((run_at items i).first - 1)
  ends_before low some up = record {
    from = omega arith;
    high = (let high = ends.high in omega arith);
    passed = λ j n d lt from to held. elim (cases_lt j i) as (λ _. ⊥) [
      | inl before ↦ ends.passed j n d before from (omega arith) held
      | inr past ↦ (let same : j ≡ i = omega arith in
          let here = ap (λ (r : Run). r.first) (ap (λ (k : ℕ). get_or a.taken k d) same ∙ at d) in
          omega (arith, held.0))
    ];
    after = λ is. is.1 (taken ((run_at items i).first - 1 + 1) (omega arith, omega arith));
  }

  -- a run with none of these can't hold a sector up to the end
  pub ends_elsewhere : ((first < (run_at items i).first) → ((run_at items i).first ≤ (run_at items i).last)
      → last < (run_at items i).first) → EndsAfter a (i + 1) first last
  ends_elsewhere none = ends_same (λ n low up held. elim (cases_lt first (run_at items i).first) as (λ _. ⊥) [
    | inl lt ↦ (let past = none lt (omega (arith, held.0, held.1)) in omega (arith, held.0))
    | inr le ↦ free.1 (taken first (le, omega (arith, held.1)))
  ])

pub ends_all : (a : Area) (i first last : ℕ) → length a.taken ≤ i → IsFree a first → EndsAfter a i first last → EndsBlock a first last
ends_all a i first last all free ends = record {
  from = ends.from;
  free = λ n low up. (let high = ends.high in (
    (omega (arith, free.0.0), omega arith),
    λ is.
        ends.passed is.1.0 n is.0 (omega (arith, is.1.1)) low up (subst (λ (r : Run). RunHolds r n) (sym is.1.2) is.2),
  ));
  after = ends.after;
}

-- the block that has the sector ends there
pub block_found : (a : Area) (first last : ℕ) → IsFree a first → EndsBlock a first last
    → (b : Run) × (find (holds first) (blocks_of a) ≡ Some b) × (b.last ≡ last)
block_found a first last free ends =
    let (b, found) = find_any (blocks_of a) first (free_in a first free) in
    let (there, held) = find_some (blocks_of a) first b found in
    let is = (blocks_are a).each b there in (
      b,
      found,
      elim (cases_order b.last last) as (λ _. b.last ≡ last) [
        | inl same ↦ same
        | inr (inl less) ↦ absurd (is.after (ends.free (b.last + 1) (omega (arith, held.1)) (omega arith)))
        | inr (inr more) ↦ absurd (ends.after (is.free (last + 1) (omega (arith, held.0, ends.from), omega arith)))
      ],
    )

-- no block has a taken one
pub none_found : (a : Area) (k : ℕ) → IsTaken a k → find (holds k) (blocks_of a) ≡ None
none_found a k taken = find_none (blocks_of a) k (λ is. (((blocks_are a).each is.0 is.1).free k is.2).1 taken)

-- ## From a sector on.

pub taken_from : (a : Area) (runs : List Run) (k : ℕ) (r : Bool) → runs ≡ a.taken → r ≡ is_in runs k → r ≡ true → IsTaken a k
taken_from a runs k r list is on = subst (λ (xs : List Run). IsInRuns xs k) list (in_runs runs k (sym is ∙ on))

pub free_from : (a : Area) (runs : List Run) (k : ℕ) (r : Bool) → runs ≡ a.taken → r ≡ is_in runs k → r ≡ false → a.low ≤ k → k ≤ a.high
    → IsFree a k
free_from a runs k r list is off low high =
    ((low, high), λ taken. both_ways r off (is ∙ runs_in runs k (subst (λ (xs : List Run). IsInRuns xs k) (sym list) taken)))

pub started_free : (a : Area) (first last : ℕ) → IsFree a first → EndsBlock a first last
    → started_at a first ≡ led a a.empties (record { first = first; last = last })
unfolding started_at
started_free a first last free ends =
    let usable : is_usable a first ≡ true =
    and_from (leb a.low first) (leb first a.high) (le-leb a.low first free.0.0) (le-leb first a.high free.0.1) in
    let (b, found, same) = block_found a first last free ends in
    rw (usable, found) (ap (λ (n : ℕ). led a a.empties (record { first = first; last = n })) same)

pub started_taken : (a : Area) (first : ℕ) → a.low ≤ first → first ≤ a.high → IsTaken a first → started_at a first ≡ Err Overlap
unfolding started_at
started_taken a first low high taken =
    let usable : is_usable a first ≡ true =
    and_from (leb a.low first) (leb first a.high) (le-leb a.low first low) (le-leb first a.high high) in
    rw (usable, none_found a first taken)

pub started_outside : (a : Area) (first : ℕ) → (first < a.low) ⊎ (a.low ≤ first × a.high < first) → started_at a first ≡ Err OutsideUsable
unfolding started_at
started_outside a first (inl below) =
    let out : is_usable a first ≡ false = and_left (leb a.low first) (leb first a.high) (lt-leb a.low first below) in rw out
started_outside a first (inr past) =
    let out : is_usable a first ≡ false = and_right (leb a.low first) (leb first a.high) (lt-leb first a.high past.1) in rw out
