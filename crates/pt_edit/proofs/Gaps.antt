-- What is free between taken runs in the order of their first sectors.
use Rattle.std.proofs.Common.{◌≡◌, ◌<◌, ◌≤◌, ◌+◌, ◌-◌, ℕ, List, length, get_or, min, max, sym, ap, ◌∙◌, subst, arith, inl, inr}
use Rattle.std.specs.List.Sorted.{IsNonDecreasingBy}
use Rattle.std.proofs.lemmas.List.{get_or_default}
use Rattle.std.proofs.lemmas.Bool.{cases_lt}
use Rattle.pt_edit.specs.declared.space.Run.{Run}
use Rattle.pt_edit.specs.Space.{Area, RunHolds, IsTaken, IsFree, IsBlock}
use Rattle.pt_edit.proofs.Blocks.{same_block}
use Rattle.pt_edit.specs.inner.Space.{gap_of}

-- after the first i taken runs: a first sector that none of them reaches
pub record Reached (a : Area) (i first : ℕ) : Type 0 where
  pub low : a.low ≤ first
  pub high : first ≤ a.high
  pub passed : (j : ℕ) (d : Run) → j < i → (get_or a.taken j d).first ≤ (get_or a.taken j d).last → (get_or a.taken j d).last < first
  pub edge : (n : ℕ) → n + 1 ≡ first → ¬ IsFree a n

-- the blocks below a bound are those below a lower one, and one more
pub record OneMore (a : Area) (old new : ℕ) (gap : Run) : Type 0 where
  pub is_block : IsBlock a gap
  pub above : old ≤ gap.first
  pub below : gap.first < new
  pub only : (b : Run) → IsBlock a b → old ≤ b.first → b.first < new → b ≡ gap

-- run i is this one, whatever stands for one past the end
pub record IsAt (a : Area) (i : ℕ) (run : Run) : Type 0 where
  pub inside : i < length a.taken
  pub is : (d : Run) → get_or a.taken i d ≡ run
  pub some : run.first ≤ run.last

abbrev pub run_at : List Run → ℕ → Run
run_at items i = get_or items i (record { first = 0; last = 0 })

pub any_default : (a : Area) (items : List Run) (i : ℕ) → items ≡ a.taken → i < length items → (d : Run)
    → get_or a.taken i d ≡ run_at items i
any_default a items i same lt d =
    ap (λ (xs : List Run). get_or xs i d) (sym same) ∙ get_or_default items i d (record { first = 0; last = 0 }) lt

pub is_at : (a : Area) (items : List Run) (i : ℕ) → items ≡ a.taken → i < length items
    → (run_at items i).first ≤ (run_at items i).last → IsAt a i (run_at items i)
is_at a items i same lt some = record {
  inside = subst (λ (xs : List Run). i < length xs) same lt;
  is = any_default a items i same lt;
  some = some;
}

pub reached_start : (a : Area) → a.low ≤ a.high → Reached a 0 a.low
reached_start a some = record {
  low = omega arith;
  high = some;
  passed = λ j d lt has. absurd (omega arith);
  edge = λ n at free. omega (arith, free.0.0);
}

-- no block starts below the first usable sector
pub none_below : (a : Area) (b : Run) → IsBlock a b → b.first < a.low → ⊥
none_below a b x lt = let has = x.some in let free = x.free b.first (omega arith, omega arith) in omega (arith, free.0.0)

module _ (a : Area) (i first : ℕ) (reached : Reached a i first) (sorted : IsNonDecreasingBy (λ (r : Run). r.first) a.taken) where
  -- no run that stands before i has a sector from the first on
  not_passed : (n j : ℕ) (d : Run) → first ≤ n → j < i → ¬ RunHolds (get_or a.taken j d) n
  not_passed n j d from lt held =
      let some : (get_or a.taken j d).first ≤ (get_or a.taken j d).last = omega (arith, held.0, held.1) in
      let past = reached.passed j d lt some in
      omega (arith, held.1)

  module _ (run : Run) (at : IsAt a i run) where
    run_taken : (n : ℕ) → RunHolds run n → IsTaken a n
    run_taken n held = (run, (i, at.inside, at.is run), held)

    gap_free : (n : ℕ) → first ≤ n → n < run.first → n ≤ a.high → IsFree a n
    gap_free n from lt high =
        let low = reached.low in (
          (omega arith, high),
          λ taken. (let q = taken.0 in let j = taken.1.0 in let here = taken.1.2 in
              elim (cases_lt j i) as (λ _. ⊥) [
                | inl before ↦ not_passed n j q from before (subst (λ (r : Run). RunHolds r n) (sym here) taken.2)
                | inr after ↦ (let order = sorted i j q after taken.1.1 in
                    let one = ap (λ (r : Run). r.first) (at.is q) in
                    let two = ap (λ (r : Run). r.first) here in
                    omega (arith, taken.2.0))
              ]),
        )

    gap_block : first < run.first → IsBlock a (gap_of a first run)
    gap_block lt =
        let high = reached.high in
        let some = at.some in
        record {
          some = omega arith;
          free = λ n held. gap_free n held.0 (omega (arith, held.1)) (omega (arith, held.1));
          before = reached.edge;
          after = λ free. elim (cases_lt a.high run.first) as (λ _. ⊥) [
            | inl past ↦ omega (arith, free.0.1)
            | inr inside ↦ free.1 (run_taken (min (run.first - 1) a.high + 1) (omega arith, omega arith))
          ];
        }

    -- no block starts in the run
    pub none_in_run : (b : Run) → IsBlock a b → run.first ≤ b.first → b.first ≤ run.last → ⊥
    none_in_run b x low high = let some = x.some in (x.free b.first (omega arith, omega arith)).1 (run_taken b.first (low, high))

    pub one_gap : (new : ℕ) → first < run.first → first < new → new ≤ run.last + 1 → OneMore a first new (gap_of a first run)
    one_gap new lt below past = record {
      is_block = gap_block lt;
      above = omega arith;
      below = below;
      only = λ b x from under. elim (cases_lt b.first run.first) as (λ _. b ≡ gap_of a first run) [
        | inl before ↦ (let some = x.some in let free = x.free b.first (omega arith, omega arith) in
            same_block a b (gap_of a first run) b.first x (gap_block lt) (omega arith, omega arith) (from, omega (arith, free.0.1)))
        | inr after ↦ absurd (none_in_run b x after (omega arith))
      ];
    }

    -- the run is passed, where sectors behind it are usable
    pub reached_more : run.last < a.high → Reached a (i + 1) (max first (run.last + 1))
    reached_more inside =
        let low = reached.low in
        let high = reached.high in
        let some = at.some in
        record {
          low = omega arith;
          high = omega arith;
          passed = λ j d lt has. elim (cases_lt j i) as (λ _. (get_or a.taken j d).last < max first (run.last + 1)) [
            | inl before ↦ (let past = reached.passed j d before has in omega arith)
            | inr after ↦ (let same : j ≡ i = omega arith in
                let here = ap (λ (r : Run). r.last) (ap (λ (k : ℕ). get_or a.taken k d) same ∙ at.is d) in
                omega arith)
          ];
          edge = λ n here free. elim (cases_lt run.last first) as (λ _. ⊥) [
            | inl past ↦ reached.edge n (omega arith) free
            | inr in_run ↦ free.1 (run_taken n (omega arith, omega arith))
          ];
        }

  -- a run of no sector is passed over
  pub reached_none : (items : List Run) → items ≡ a.taken → i < length items → (run_at items i).last < (run_at items i).first
      → Reached a (i + 1) first
  reached_none items list inside none =
      let at = any_default a items i list inside in record {
        low = reached.low;
        high = reached.high;
        passed = λ j d lt has. elim (cases_lt j i) as (λ _. (get_or a.taken j d).last < first) [
          | inl before ↦ reached.passed j d before has
          | inr after ↦ (let same : j ≡ i = omega arith in
              let here = ap (λ (k : ℕ). get_or a.taken k d) same ∙ at d in
              let one = ap (λ (r : Run). r.first) here in
              let two = ap (λ (r : Run). r.last) here in
              absurd (omega arith))
        ];
        edge = reached.edge;
      }

  -- after all of them, what is left is free
  last_block : length a.taken ≤ i → IsBlock a (record { first = first; last = a.high })
  last_block all = record {
    some = reached.high;
    free = λ n held. (let low = reached.low in (
      (omega (arith, held.0), held.1),
      λ taken.
          not_passed n taken.1.0 taken.0 held.0 (omega (arith, taken.1.1)) (subst (λ (r : Run). RunHolds r n) (sym taken.1.2) taken.2),
    ));
    before = reached.edge;
    after = λ free. omega (arith, free.0.1);
  }

  pub last_gap : length a.taken ≤ i → OneMore a first (a.high + 1) (record { first = first; last = a.high })
  last_gap all = record {
    is_block = last_block all;
    above = omega arith;
    below = (let high = reached.high in omega arith);
    only = λ b x from under. (let some = x.some in
        same_block a b (record { first = first; last = a.high }) b.first x (last_block all) (omega arith, omega arith) (from, omega arith));
  }
