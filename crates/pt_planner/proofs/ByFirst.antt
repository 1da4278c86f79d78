-- Old slices by their first sectors, and what those of one first sector tell of all.
use Rattle.std.proofs.Common.{◌≡◌, ◌<◌, ◌≤◌, ◌+◌, ℕ, List, [], ◌∷◌, length, get_or, ltb, true, false, subst, inl, inr, ⊎_elim, arith}
use Rattle.std.specs.Prelude.{IsPermutation}
use Rattle.std.specs.List.{AllWithin, All}
use Rattle.std.specs.List.Sorted.{IsNonDecreasingBy, IsPartitionPoint}
use Rattle.std.proofs.lemmas.Bool.{cases_lt, ltb-true, ltb-false}
use Rattle.std.proofs.lemmas.List.Sorted.{Contains-permutation, IsPermutation-sym}
use Rattle.pt_bsd.specs.declared.label.Label.{Label}
use Rattle.pt_members.specs.declared.layout.Slice.{Slice}
use Rattle.pt_cases.specs.declared.targets.target.Target.{Target}
use Rattle.pt_planner.specs.declared.places.place.Place.{Place}
use Rattle.pt_planner.specs.declared.places.LabelTargets.{LabelTargets}
use Rattle.pt_planner.specs.declared.places.LabelTargets.TheVariants.{Misplaced, Foreign, Unreadable, Targets}
use Rattle.pt_planner.specs.inner.Places.{HadBytes, IsBytes, stood, other, fresh, IsTarget, keeps, changes, sets}
use Rattle.pt_planner.specs.inner.Places.{IsTargetOf, IsStuck, AreTargets, HasNone, AnswerOf}
use Rattle.pt_planner.proofs.Pieces.{NotHad}

abbrev pub no_slice : Slice
no_slice = record { number = 0; first = 0; len = 0 }

abbrev pub IsPoint : List Slice → ℕ → ℕ → Type 0
IsPoint ss f i = IsPartitionPoint (λ (s : Slice). ltb s.first f ≡ true) (λ (s : Slice). ltb s.first f ≡ false) ss i

-- a slice that starts elsewhere has no label there
pub elsewhere : (f : ℕ) (bytes : List ℕ) (s : Slice) → ¬ (s.first ≡ f) → NotHad f bytes s
elsewhere f bytes s unlike m is = unlike is.0

-- those below the first that may start there
pub none_below : (ss : List Slice) (f i : ℕ) (bytes : List ℕ) → IsPoint ss f i → AllWithin (NotHad f bytes) ss 0 i
none_below ss f i bytes point k d low lt =
    let less : (get_or ss k d).first < f = ltb-true (get_or ss k d).first f (point.0 k d (omega arith) lt) in
    elsewhere f bytes (get_or ss k d) (λ same. omega (arith, less, same))

pub none_next : (ss : List Slice) (f i : ℕ) (bytes : List ℕ) → ((d : Slice) → NotHad f bytes (get_or ss i d))
    → AllWithin (NotHad f bytes) ss 0 i → AllWithin (NotHad f bytes) ss 0 (i + 1)
none_next ss f i bytes here so_far k d low lt = ⊎_elim
    (λ less. so_far k d low less)
    (λ more. (let same : i ≡ k = omega (arith, lt, more) in subst (λ (j : ℕ). NotHad f bytes (get_or ss j d)) same (here d)))
    (cases_lt k i)

-- none from one on that starts behind
pub none_above : (ss : List Slice) (f begin i : ℕ) (bytes : List ℕ) → IsNonDecreasingBy (λ (s : Slice). s.first) ss → IsPoint ss f begin
    → begin ≤ i → i < length ss → ((d : Slice) → ¬ ((get_or ss i d).first ≡ f)) → AllWithin (NotHad f bytes) ss 0 i
    → All (NotHad f bytes) ss
none_above ss f begin i bytes up point low lt unlike so_far k d less = ⊎_elim
    (λ before. so_far k d (omega arith) before)
    (λ past. (let here : f ≤ (get_or ss i d).first = ltb-false (get_or ss i d).first f (point.1 i d low lt) in
    let rises : (get_or ss i d).first ≤ (get_or ss k d).first = up i k d past less in
    elsewhere f bytes (get_or ss k d) (λ same. unlike d (omega (arith, here, rises, same)))))
    (cases_lt k i)

module _ (xs ys : List Slice) (moved : IsPermutation xs ys) where
  had_there : (first : ℕ) (bytes : List ℕ) (m : Label) → HadBytes xs first bytes m → HadBytes ys first bytes m
  had_there first bytes m had = record {
    slice = had.slice;
    stands = Contains-permutation xs ys had.slice moved had.stands;
    start = had.start;
    label = had.label;
  }

  had_back : (first : ℕ) (bytes : List ℕ) (m : Label) → HadBytes ys first bytes m → HadBytes xs first bytes m
  had_back first bytes m had = record {
    slice = had.slice;
    stands = Contains-permutation ys xs had.slice (IsPermutation-sym xs ys moved) had.stands;
    start = had.start;
    label = had.label;
  }

  module _ {b : ℕ} (p : Place b) where
    bytes_there : (l : Label) (v : List ℕ) → IsBytes xs p l v → IsBytes ys p l v
    bytes_there l v (stood had reads is) = stood (had_there p.spot.slice.first p.bytes l had) reads is
    bytes_there l v (other m had unlike is) = other m (had_there p.spot.slice.first p.bytes m had) unlike is
    bytes_there l v (fresh none is) = fresh (λ m had. none m (had_back p.spot.slice.first p.bytes m had)) is

    bytes_back : (l : Label) (v : List ℕ) → IsBytes ys p l v → IsBytes xs p l v
    bytes_back l v (stood had reads is) = stood (had_back p.spot.slice.first p.bytes l had) reads is
    bytes_back l v (other m had unlike is) = other m (had_back p.spot.slice.first p.bytes m had) unlike is
    bytes_back l v (fresh none is) = fresh (λ m had. none m (had_there p.spot.slice.first p.bytes m had)) is

    target_back : (l : Label) (t : Target b) → IsTarget ys p l t → IsTarget xs p l t
    target_back l t (keeps stays had reads) = keeps stays (had_back p.spot.slice.first p.bytes l had) reads
    target_back l t (changes m had unlike is) = changes m (had_back p.spot.slice.first p.bytes m had) unlike is
    target_back l t (sets none is) = sets (λ m had. none m (had_there p.spot.slice.first p.bytes m had)) is

    target_of_back : (t : Target b) → IsTargetOf ys p t → IsTargetOf xs p t
    target_of_back t (inl is) = inl (is.0, is.1, target_back is.0 t is.2)
    target_of_back t (inr is) = inr is

    stuck_back : IsStuck ys p → IsStuck xs p
    stuck_back is = (
      is.0,
      is.1,
      record { none = λ v right. is.2.none v (bytes_there is.0 v right); unfit = is.2.unfit },
    )

  targets_back : {b : ℕ} (ps : List (Place b)) (ts : List (Target b)) → AreTargets ys ps ts → AreTargets xs ps ts
  targets_back [] [] are = are
  targets_back [] (t ∷ ts) are = are
  targets_back (p ∷ ps) [] are = are
  targets_back (p ∷ ps) (t ∷ ts) are = (target_of_back p t are.0, targets_back ps ts are.1)

  none_back : {b : ℕ} (ps : List (Place b)) → HasNone ys ps → HasNone xs ps
  none_back ps has = (has.0, has.1, stuck_back has.0 has.2)

  -- the answer by the slices in another order
  pub answer_back : {b : ℕ} (ps : List (Place b)) (a : LabelTargets b) → AnswerOf ys ps a → AnswerOf xs ps a
  answer_back ps Misplaced is = is
  answer_back ps (Foreign n) is = is
  answer_back ps Unreadable is = (is.0, none_back ps is.1)
  answer_back ps (Targets ts) is = (is.0, targets_back ps ts.items is.1)
