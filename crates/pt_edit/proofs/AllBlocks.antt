-- The list of all blocks, as one more comes behind it.
use Rattle.std.proofs.Common.{◌≡◌, ◌<◌, ◌≤◌, ◌+◌, ◌-◌, ◌∙◌, ◌++◌, ℕ, List, [], ◌∷◌, length, get_or, min, max, refl, sym, ap, subst, arith}
use Rattle.std.proofs.Common.{inl, inr}
use Rattle.std.specs.Prelude.{Contains, Option, Some, None, IfSome, fold, ltb, Bool, true, false}
use Rattle.std.specs.List.Sorted.{IsNonDecreasingBy, IsPermutation}
use Rattle.std.proofs.lemmas.Bool.{cases_lt, cond-true, cond-false, lt-ltb, le-ltb}
use Rattle.std.proofs.lemmas.Grind.{common_steps, fold-append}
use Rattle.std.proofs.lemmas.List.{get_or_append_left, length-append}
use Rattle.std.proofs.Math.Seq.{get_or-append_seam}
use Rattle.std.proofs.lemmas.List.Elements.{Contains-append_left, Contains-get_or, Contains-push, Contains-push_cases}
use Rattle.pt_edit.specs.declared.space.Run.{Run}
use Rattle.pt_edit.specs.Space.{Area, AreBlocks, IsBlock, with_taken, longest, longer_of, part_of, blocks_of}
use Rattle.pt_edit.specs.inner.Space.{gap_of, best_past, with_gap}
use Rattle.pt_edit.proofs.AlikeLemmas.{are_alike, blocks_alike}
use Rattle.pt_edit.proofs.Gaps.{IsAt, OneMore, Reached, last_gap, none_below, none_in_run, one_gap, reached_more, reached_none}
use Rattle.pt_edit.proofs.Gaps.{reached_start, run_at}
use Rattle.pt_edit.proofs.Sets.{same_sectors}

-- those that begin below a bound
pub record BlocksBelow (a : Area) (bound : ℕ) (blocks : List Run) : Type 0 where
  pub each : (b : Run) → Contains blocks b → IsBlock a b
  pub below : (b : Run) → Contains blocks b → b.last < bound
  pub all : (b : Run) → IsBlock a b → b.first < bound → Contains blocks b
  pub ascending : (i j : ℕ) (d : Run) → i < j → j < length blocks → (get_or blocks i d).last < (get_or blocks j d).first

-- after the first i taken runs
pub record Listed (a : Area) (i first : ℕ) (blocks : List Run) : Type 0 where
  pub reached : Reached a i first
  pub blocks_are : BlocksBelow a first blocks

pub none_listed : (a : Area) → a.low ≤ a.high → Listed a 0 a.low []
none_listed a some = record {
  reached = reached_start a some;
  blocks_are = record {
    each = λ b is. absurd (omega (arith, is.1));
    below = λ b is. absurd (omega (arith, is.1));
    all = λ b x lt. absurd (none_below a b x lt);
    ascending = λ i j d lt inside. absurd (omega arith);
  };
}

-- where no sector is usable there is no block
pub none_usable : (a : Area) → a.high < a.low → AreBlocks a []
none_usable a none = record {
  each = λ b is. absurd (omega (arith, is.1));
  all = λ b x. (let some = x.some in let free = x.free b.first (omega arith, omega arith) in absurd (omega (arith, free.0.0, free.0.1)));
  ascending = λ i j d lt inside. absurd (omega arith);
}

module _ (a : Area) (old new : ℕ) (gap : Run) (blocks : List Run) (more : OneMore a old new gap) (is : BlocksBelow a old blocks) where
  above : (i j : ℕ) (d : Run) → i < j → j < length (blocks ++ gap ∷ [])
      → (get_or (blocks ++ gap ∷ []) i d).last < (get_or (blocks ++ gap ∷ []) j d).first
  above i j d lt inside =
      let size = length-append blocks (gap ∷ []) in
      let left : i < length blocks = omega arith in
      let front = ap (λ (r : Run). r.last) (get_or_append_left blocks (gap ∷ []) d i left) in
      elim (cases_lt j (length blocks))
      as (λ _. (get_or (blocks ++ gap ∷ []) i d).last < (get_or (blocks ++ gap ∷ []) j d).first) [
        | inl low ↦ (let here = ap (λ (r : Run). r.first) (get_or_append_left blocks (gap ∷ []) d j low) in
            let order = is.ascending i j d lt low in
            omega arith)
        | inr high ↦ (let same : j ≡ length blocks = omega arith in
            let here = ap (λ (r : Run). r.first)
            (ap (λ (k : ℕ). get_or (blocks ++ gap ∷ []) k d) same ∙ get_or-append_seam blocks gap [] d) in
            let low = is.below (get_or blocks i d) (Contains-get_or blocks i d left) in
            let up = more.above in
            omega arith)
      ]

  pub pushed : gap.last < new → BlocksBelow a new (blocks ++ gap ∷ [])
  pushed lt =
      let up = more.above in
      let down = more.below in
      record {
        each = λ b c. elim (Contains-push_cases blocks gap b c) as (λ _. IsBlock a b) [
          | inl there ↦ is.each b there
          | inr same ↦ subst (λ (r : Run). IsBlock a r) same more.is_block
        ];
        below = λ b c. elim (Contains-push_cases blocks gap b c) as (λ _. b.last < new) [
          | inl there ↦ (let low = is.below b there in omega arith)
          | inr same ↦ (let here = ap (λ (r : Run). r.last) same in omega arith)
        ];
        all = λ b x low. elim (cases_lt b.first old) as (λ _. Contains (blocks ++ gap ∷ []) b) [
          | inl before ↦ Contains-append_left blocks (gap ∷ []) b (is.all b x before)
          | inr after ↦ subst (λ (r : Run). Contains (blocks ++ gap ∷ []) r) (sym (more.only b x after low)) (Contains-push blocks gap)
        ];
        ascending = above;
      }

-- the same below a higher bound with no block between
none_more : (a : Area) (old new : ℕ) (blocks : List Run) → old ≤ new
    → ((b : Run) → IsBlock a b → old ≤ b.first → b.first < new → ⊥) → BlocksBelow a old blocks → BlocksBelow a new blocks
none_more a old new blocks le none is = record {
  each = is.each;
  below = λ b c. (let low = is.below b c in omega arith);
  all = λ b x lt. elim (cases_lt b.first old) as (λ _. Contains blocks b) [
    | inl low ↦ is.all b x low
    | inr high ↦ absurd (none b x high lt)
  ];
  ascending = is.ascending;
}

-- every block starts at a usable sector
all_below : (a : Area) (blocks : List Run) → BlocksBelow a (a.high + 1) blocks → AreBlocks a blocks
all_below a blocks is = record {
  each = is.each;
  all = λ b x. (let some = x.some in let free = x.free b.first (omega arith, omega arith) in is.all b x (omega (arith, free.0.1)));
  ascending = is.ascending;
}

pub listed_same : (a : Area) (i f g : ℕ) (xs ys : List Run) → g ≡ f → ys ≡ xs → Listed a i f xs → Listed a i g ys
listed_same a i f g xs ys first list is =
    subst (λ (n : ℕ). Listed a i n ys) (sym first) (subst (λ (l : List Run). Listed a i f l) (sym list) is)

module _ (a : Area) (i first : ℕ) (blocks : List Run) (listed : Listed a i first blocks)
    (sorted : IsNonDecreasingBy (λ (r : Run). r.first) a.taken) where
  module _ (run : Run) (at : IsAt a i run) where
    -- up to any bound in the run that lies behind its gap
    after_run : (new : ℕ) → first ≤ new → (first < new → new ≤ run.last + 1) → (first < run.first → first < new)
        → (first < run.first → min (run.first - 1) a.high < new) → BlocksBelow a new (with_gap a blocks first run)
    after_run new le past some ends = elim (cases_lt first run.first) as (λ _. BlocksBelow a new (with_gap a blocks first run)) [
      | inl lt ↦ subst (λ (l : List Run). BlocksBelow a new l) (sym (cond-true _ _ _ (lt-ltb first run.first lt)))
          (pushed a first new (gap_of a first run) blocks
          (one_gap a i first listed.reached sorted run at new lt (some lt) (past (some lt))) listed.blocks_are (ends lt))
      | inr ge ↦ subst (λ (l : List Run). BlocksBelow a new l) (sym (cond-false _ _ _ (le-ltb first run.first ge)))
          (none_more a first new blocks le (λ b x from under.
          none_in_run a i first listed.reached sorted run at b x (omega arith) (let far = past (omega arith) in omega arith))
          listed.blocks_are)
    ]

    -- a run that reaches the end of what is usable ends the list
    pub listed_at_end : a.high ≤ run.last → AreBlocks a (with_gap a blocks first run)
    listed_at_end reaches =
        let high = listed.reached.high in
        all_below a (with_gap a blocks first run)
        (after_run (a.high + 1) (omega arith) (λ lt. omega arith) (λ lt. omega arith) (λ lt. omega arith))

    -- another is passed
    pub listed_more : run.last < a.high → Listed a (i + 1) (max first (run.last + 1)) (with_gap a blocks first run)
    listed_more inside =
        let some = at.some in
        record {
          reached = reached_more a i first listed.reached sorted run at inside;
          blocks_are =
              after_run (max first (run.last + 1)) (omega arith) (λ lt. omega arith) (λ lt. omega arith) (λ lt. omega arith);
        }

  -- a run of no sector is passed over
  pub listed_none : (items : List Run) → items ≡ a.taken → i < length items → (run_at items i).last < (run_at items i).first
      → Listed a (i + 1) first blocks
  listed_none items list inside none =
      record { reached = reached_none a i first listed.reached sorted items list inside none; blocks_are = listed.blocks_are }

  -- after all of them, what is left is the last block
  pub all_listed : length a.taken ≤ i → AreBlocks a (blocks ++ record { first = first; last = a.high } ∷ [])
  all_listed all =
      all_below a (blocks ++ record { first = first; last = a.high } ∷ [])
      (pushed a first (a.high + 1) (record { first = first; last = a.high }) blocks
      (last_gap a i first listed.reached sorted all) listed.blocks_are (omega arith))

-- the same where the taken runs stand in another order
pub blocks_back : (a : Area) (ys blocks : List Run) → IsPermutation a.taken ys → AreBlocks (with_taken a ys) blocks → AreBlocks a blocks
blocks_back a ys blocks moved = are_alike a ys blocks (same_sectors a.taken ys moved)

pub blocks_moved : (a : Area) (ys : List Run) → IsPermutation a.taken ys → blocks_of (with_taken a ys) ≡ blocks_of a
blocks_moved a ys moved = blocks_alike a ys (same_sectors a.taken ys moved)

-- ## The longest part of the blocks so far.

pub record Swept (a : Area) (alignment i first : ℕ) (best : Option Run) : Type 0 where
  pub blocks : List Run
  pub listed : Listed a i first blocks
  pub best_is : best ≡ longest a alignment blocks

pub longest_end : (a : Area) (alignment : ℕ) (blocks : List Run) (best : Option Run) (gap : Run) → best ≡ longest a alignment blocks
    → longer_of best (part_of a alignment gap) ≡ longest a alignment (blocks ++ gap ∷ [])
longest_end a alignment blocks best gap is = rw (is, fold-append)

pub longest_past : (a : Area) (alignment : ℕ) (blocks : List Run) (best : Option Run) (first : ℕ) (run : Run)
    → best ≡ longest a alignment blocks → best_past a alignment best first run ≡ longest a alignment (with_gap a blocks first run)
longest_past a alignment blocks best first run is = by_case (ltb first run.first) refl where
  by_case : (t : Bool) → ltb first run.first ≡ t
      → best_past a alignment best first run ≡ longest a alignment (with_gap a blocks first run)
  by_case true less = rw less (longest_end a alignment blocks best _ is)
  by_case false not = rw not is

part_some : (a : Area) (alignment : ℕ) (b : Run) → IfSome (part_of a alignment b) (λ r. r.first ≤ r.last)
part_some a alignment b = grind (arith, common_steps)

longer_some : (best other : Option Run) → IfSome best (λ (r : Run). r.first ≤ r.last) → IfSome other (λ (r : Run). r.first ≤ r.last)
    → IfSome (longer_of best other) (λ (r : Run). r.first ≤ r.last)
longer_some None None one two = tt
longer_some (Some b) None one two = one
longer_some None (Some r) one two = two
longer_some (Some b) (Some r) one two = grind (arith, common_steps)

longest_on : (a : Area) (alignment : ℕ) (best : Option Run) (blocks : List Run) → IfSome best (λ (r : Run). r.first ≤ r.last)
    → IfSome (fold (λ o b. longer_of o (part_of a alignment b)) best blocks) (λ (r : Run). r.first ≤ r.last)
longest_on a alignment best [] is = is
longest_on a alignment best (b ∷ bs) is =
    longest_on a alignment (longer_of best (part_of a alignment b)) bs (longer_some best _ is (part_some a alignment b))

pub longest_some : (a : Area) (alignment : ℕ) (blocks : List Run) → IfSome (longest a alignment blocks) (λ (r : Run). r.first ≤ r.last)
longest_some a alignment blocks = longest_on a alignment None blocks tt
