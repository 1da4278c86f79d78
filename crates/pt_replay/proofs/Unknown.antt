-- Sectors that are wanted, taken up one after the other.
use Rattle.std.proofs.Common.{◌≡◌, ◌<◌, ◌+◌, ◌++◌, ℕ, zero, suc, List, [], ◌∷◌, length, get_or, All, None, Some, sym, ap, subst, inl}
use Rattle.std.proofs.Common.{inr, arith, refl, true, false, length-append, Result, Ok, Err, IfOk}
use Rattle.std.specs.Prelude.{◌⊎◌, nat_eq, Bool, Contains, MatchResult}
use Rattle.std.specs.List.{IsDistinct, list_any}
use Rattle.std.proofs.Math.Nat.{eq-or-lt_of_le}
use Rattle.std.proofs.lemmas.Bool.Decides.{nat_tests}
use Rattle.std.proofs.lemmas.Cmp.{nat_eq_equiv}
use Rattle.std.proofs.lemmas.List.Elements.{All-append, All-cons, All-nil, Contains-append_left, Contains-push}
use Rattle.std.proofs.lemmas.Map.Keys.{IsDistinct-push}
use Rattle.pt_sector.specs.Sectors.{Sectors}
use Rattle.pt_sector.specs.declared.disk.Fault.{Fault}
use Rattle.pt_sector.specs.declared.disk.Fault.TheVariants as fault
use Rattle.pt_members.specs.Members.{IsPlace, place_of, places_of}
use Rattle.pt_members.specs.declared.layout.Body.{Body}
use Rattle.pt_members.specs.declared.layout.Slice.{Slice}
use Rattle.pt_recover.specs.Denotes.{TellsNothing, FailedInDisk, fault_in, BodyIs, BodyReads, Reads, body, label}
use Rattle.pt_recover.specs.declared.error.NoTable.{NoTable as Reason}
use Rattle.pt_recover.specs.declared.error.NoTable.TheVariants as reason
use Rattle.pt_replay.specs.Wanted.{known_of, IsNew, IsOfNew, sectors_in, IsSettled, WantsAll}
use Rattle.pt_replay.specs.inner.Wanted.{AreOf, AreUnknown, ListsWanted, IsAlone, TakesUp, GivesList}
use Rattle.pt_replay.specs.declared.answers.Status.{Status}
use Rattle.pt_replay.specs.declared.answers.Status.TheVariants as status
use Rattle.pt_replay.specs.declared.answers.Reply.{Reply}
use Rattle.pt_replay.specs.declared.view.View.{View}

-- the place of a slice among others
place_here : (ps : List Slice) (i : ℕ) (p : Slice) → i < length ps → IsPlace ps (place_of (get_or ps i p))
place_here [] i p lt = absurd (omega (arith, lt))
place_here (q ∷ ps) zero p lt = inl refl
place_here (q ∷ ps) (suc i) p lt = inr (place_here ps i p (omega (arith, lt)))

-- what holds of each place
places_all : (P : ℕ → Type 0) (ps : List Slice) → ((i : ℕ) (p : Slice) → i < length ps → P (place_of (get_or ps i p)))
    → (s : ℕ) → IsPlace ps s → P s
places_all P [] all s is = absurd is
places_all P (q ∷ ps) all s (inl same) = subst P (sym same) (all 0 q (omega arith))
places_all P (q ∷ ps) all s (inr is) = places_all P ps (λ i p lt. all (suc i) p (omega (arith, lt))) s is

other_way : (s : ℕ) (xs : List ℕ) → list_any (λ t. nat_eq t s) xs ≡ false → list_any (nat_eq s) xs ≡ false
other_way s [] none = refl
other_way s (x ∷ xs) none = let rest = other_way s xs in grind (arith, nat_tests, rest)

none_twice : IsDistinct nat_eq []
unfolding IsDistinct
none_twice = tt

one_once : (s : ℕ) → IsDistinct nat_eq (s ∷ [])
one_once s = IsDistinct-push nat_eq_equiv [] s none_twice refl

not_empty : (s : ℕ) (old : List ℕ) → old ++ s ∷ [] ≡ [] → ⊥
not_empty s old is = let len = length-append old (s ∷ []) in let e = ap (λ (t : List ℕ). length t) is in omega (arith, len, e)

same_at : (ps : List Slice) (k : ℕ) (p q : Slice) → k < length ps → get_or ps k p ≡ get_or ps k q
same_at [] k p q lt = absurd (omega (arith, lt))
same_at (x ∷ ps) zero p q lt = refl
same_at (x ∷ ps) (suc k) p q lt = same_at ps k p q (omega (arith, lt))

behind : (x s : ℕ) (xs : List ℕ) → Contains xs s → Contains (x ∷ xs) s
behind x s xs (k, lt, is) = let more : k < length xs = lt in (suc k, omega (arith, more), is)

-- a number for which a search finds one that is equal is there
has_any : (xs : List ℕ) (s : ℕ) → list_any (λ t. nat_eq t s) xs ≡ true → Contains xs s
has_any [] s some = absurd cc
has_any (x ∷ xs) s some = by (nat_eq x s) refl (has_any xs s) where
  by : (found : Bool) → nat_eq x s ≡ found → (list_any (λ t. nat_eq t s) xs ≡ true → Contains xs s) → Contains (x ∷ xs) s
  by true same rest = let is : x ≡ s = grind (arith, nat_tests, same) in subst (Contains (x ∷ xs)) is (0, omega arith, refl)
  by false differs rest = behind x s xs (rest (grind (arith, nat_tests, differs, some)))

empty_has : (s : ℕ) → Contains [] s → ⊥
empty_has s has = let lt = has.1 in omega (arith, lt)

module _ (count : ℕ) (ns : List ℕ) (ks : Sectors) (ps : List Slice) where
  -- what was taken up of the first k
  pub record TakenTo (k : ℕ) (list : List ℕ) : Type 0 where
    pub each : All (λ s. IsNew count ns ks s × IsPlace ps s) list
    pub once : IsDistinct nat_eq list
    pub all : (i : ℕ) (p : Slice) → i < k → known_of ns ks (place_of (get_or ps i p)) ≡ None → Contains list (place_of (get_or ps i p))

  pub none_taken : TakenTo 0 []
  none_taken = record {
    each = All-nil (λ s. IsNew count ns ks s × IsPlace ps s);
    once = none_twice;
    all = λ i p lt. absurd (omega (arith, lt));
  }

  module _ (k : ℕ) (z : Slice) (old : List ℕ) (lt : k < length ps) (within : All (λ q. place_of q < count) ps)
      (so_far : TakenTo k old) where
    abbrev IsHere : ℕ → Type 0
    IsHere s = IsNew count ns ks s × IsPlace ps s

    -- the one in this place, by any other default
    here : (new : List ℕ) → Contains new (place_of (get_or ps k z)) → (q : Slice) → Contains new (place_of (get_or ps k q))
    here new has q = subst (λ (p : Slice). Contains new (place_of p)) (same_at ps k z q lt) has

    -- what is there of the first k + 1, if all of the first k are, and the next one
    each_of : (new : List ℕ) → ((s : ℕ) → Contains old s → Contains new s)
        → ((q : Slice) → known_of ns ks (place_of (get_or ps k q)) ≡ None → Contains new (place_of (get_or ps k q)))
        → (i : ℕ) (q : Slice) → (suc i ≡ k + 1) ⊎ (suc i < k + 1) → known_of ns ks (place_of (get_or ps i q)) ≡ None
        → Contains new (place_of (get_or ps i q))
    each_of new keeps next i q (inl same) =
        let at : k ≡ i = omega (arith, same) in
        subst (λ (m : ℕ). known_of ns ks (place_of (get_or ps m q)) ≡ None → Contains new (place_of (get_or ps m q))) at (next q)
    each_of new keeps next i q (inr less) = λ unknown. keeps _ (so_far.all i q (omega (arith, less)) unknown)

    unknown_taken : known_of ns ks (place_of (get_or ps k z)) ≡ None → list_any (λ t. nat_eq t (place_of (get_or ps k z))) old ≡ false
        → TakenTo (k + 1) (old ++ place_of (get_or ps k z) ∷ [])
    unknown_taken unknown fresh = record {
      each = All-append IsHere old (place_of (get_or ps k z) ∷ []) so_far.each
          (All-cons IsHere (place_of (get_or ps k z)) []
          (record { within = within k z lt; unknown = unknown }, place_here ps k z lt) (All-nil IsHere));
      once = IsDistinct-push nat_eq_equiv old (place_of (get_or ps k z)) so_far.once (other_way (place_of (get_or ps k z)) old fresh);
      all = λ i q less. each_of (old ++ place_of (get_or ps k z) ∷ []) (λ s. Contains-append_left old _ s)
          (λ q' none. here _ (Contains-push old (place_of (get_or ps k z))) q') i q (eq-or-lt_of_le less);
    }

    known_here : (¬ (known_of ns ks (place_of (get_or ps k z)) ≡ None)) ⊎ (list_any (λ t. nat_eq t (place_of (get_or ps k z))) old ≡ true)
        → (q : Slice) → known_of ns ks (place_of (get_or ps k q)) ≡ None → Contains old (place_of (get_or ps k q))
    known_here (inl not) q unknown =
        absurd (not (subst (λ (p : Slice). known_of ns ks (place_of p) ≡ None) (same_at ps k q z lt) unknown))
    known_here (inr some) q unknown = here old (has_any old (place_of (get_or ps k z)) some) q

    known_taken : (¬ (known_of ns ks (place_of (get_or ps k z)) ≡ None)) ⊎ (list_any (λ t. nat_eq t (place_of (get_or ps k z))) old ≡ true)
        → TakenTo (k + 1) old
    known_taken known = record {
      each = so_far.each;
      once = so_far.once;
      all = λ i q less. each_of old (λ s has. has) (known_here known) i q (eq-or-lt_of_le less);
    }

    pub one_taken : (new : List ℕ)
        → TakesUp (known_of ns ks (place_of (get_or ps k z)) ≡ None) (place_of (get_or ps k z)) old new → TakenTo (k + 1) new
    one_taken new (inl (grown, unknown, fresh)) = subst (TakenTo (k + 1)) (sym grown) (unknown_taken unknown fresh)
    one_taken new (inr (same, known)) = subst (TakenTo (k + 1)) (sym same) (known_taken known)

  pub all_taken : (list : List ℕ) → TakenTo (length ps) list → AreUnknown count ns ks ps list
  all_taken list so_far = record {
    each = so_far.each;
    once = so_far.once;
    all = λ s is new. places_all (λ t. known_of ns ks t ≡ None → Contains list t) ps (λ i p lt. so_far.all i p lt) s is new.unknown;
  }

module _ (b count : ℕ) (ns : List ℕ) (ks d : Sectors) where
  -- the label places of a body
  pub lists_places : (y : Body) (list : List ℕ) → length d ≡ count → BodyIs b d y → AreUnknown count ns ks (places_of b count y) list
      → ListsWanted b count ns ks d list
  lists_places y list many is are = record {
    wanted = record {
      each = λ k z lt. (
        (are.each k z lt).0,
        label y is (subst (λ (n : ℕ). IsPlace (places_of b n y) (get_or list k z)) (sym many) (are.each k z lt).1),
      );
      once = are.once;
      all = λ some. inr (y, is, here);
    };
    settled = λ empty. inr (y, is, λ s at new. empty_has s (subst (λ (l : List ℕ). Contains l s) empty (here s at new)));
  } where
    here : (s : ℕ) → IsPlace (places_of b (length d) y) s → IsNew count ns ks s → Contains list s
    here s at new = are.all s (subst (λ (n : ℕ). IsPlace (places_of b n y) s) many at) new

  -- the same, where the sectors that are known were told of a disk that was read since
  pub lists_after : (count' : ℕ) (ns' : List ℕ) (ks' : Sectors) (y : Body) (list : List ℕ) → count' ≡ count → ns' ≡ ns → ks' ≡ ks
      → length d ≡ count → BodyIs b d y → AreUnknown count' ns' ks' (places_of b count' y) list → ListsWanted b count ns ks d list
  lists_after count' ns' ks' y list same_count same_ns same_ks many is are =
      lists_places y list many is
      (subst (λ (x : Sectors). AreUnknown count ns x (places_of b count y) list) same_ks
      (subst (λ (x : List ℕ). AreUnknown count x ks' (places_of b count y) list) same_ns
      (subst (λ (x : ℕ). AreUnknown x ns' ks' (places_of b x y) list) same_count are)))

  nothing_wanted : (list : List ℕ) → list ≡ [] → IsSettled b count ns ks d → ListsWanted b count ns ks d list
  nothing_wanted list is settled = subst (ListsWanted b count ns ks d) (sym is) (record {
    wanted = record {
      each = All-nil (λ s. IsNew count ns ks s × Reads b d s);
      once = none_twice;
      all = λ some. absurd (some refl);
    };
    settled = λ empty. settled;
  })

  told_nothing : {P Q : Type 0} → (P → ⊥) → P ⊎ Q → Q
  told_nothing not (inl p) = absurd (not p)
  told_nothing not (inr q) = q

  -- what recovery wants
  pub lists_alone : (why : Reason) (list : List ℕ) → IsAlone why list → TellsNothing b d why
      → ((f : Fault) → fault_in why ≡ Some f → IsOfNew count ns ks f) → FailedInDisk (BodyReads b d) why → ListsWanted b count ns ks d list
  lists_alone (reason.Device at) list is told asked failed = subst (ListsWanted b count ns ks d) (sym is) (record {
    wanted = record {
      each = All-cons (λ s. IsNew count ns ks s × Reads b d s) at.0 [] (asked (fault.Read at) refl, body failed)
          (All-nil (λ s. IsNew count ns ks s × Reads b d s));
      once = one_once at.0;
      all = λ some. inl (at.0, refl, failed);
    };
    settled = λ empty. absurd (not_empty at.0 [] empty);
  })
  lists_alone reason.Memory list is told asked failed = absurd is
  lists_alone (reason.NoCopy e f) list is told asked failed = nothing_wanted list is (inl (told_nothing (λ p. p) told).0)
  lists_alone (reason.Chain e) list is told asked failed = nothing_wanted list is (inl (told_nothing (λ p. p) told).0)
  lists_alone reason.TwoExtended list is told asked failed = nothing_wanted list is (inl (told_nothing (λ p. p) told).0)
  lists_alone reason.TooSmall list is told asked failed = nothing_wanted list is (inl (told_nothing (λ p. p) told).0)

-- what holds of what is reported of a call to which memory may be refused
pub if_told : {X E A : Type 0} (P : X → Type 0) (a : A) (w : Result X E) (r : Result X A) → MatchResult w (λ x. r ≡ Ok x) (λ e. r ≡ Err a)
    → IfOk w P → IfOk r P
if_told P a (Ok x) r is holds = subst (λ (z : Result _ _). IfOk z P) (sym is) holds
if_told P a (Err e) r is holds = subst (λ (z : Result _ _). IfOk z P) (sym is) tt

module _ (b : ℕ) (v : View) (d : Sectors) where
  -- the sectors that are known are those of a view
  pub lists_in_view : (count : ℕ) (ns : List ℕ) (ks seen : Sectors) (list : List ℕ) → AreOf b v count ns ks → seen ≡ d
      → ListsWanted b count ns ks seen list → ListsWanted b v.sectors v.numbers.now (sectors_in b v) d list
  lists_in_view count ns ks seen list are same lists =
      subst (λ (x : Sectors). ListsWanted b v.sectors v.numbers.now (sectors_in b v) x list) same
      (subst (λ (x : Sectors). ListsWanted b v.sectors v.numbers.now x seen list) are.sectors_are
      (subst (λ (x : List ℕ). ListsWanted b v.sectors x ks seen list) are.numbers_are
      (subst (λ (x : ℕ). ListsWanted b x ns ks seen list) are.count_is lists)))

  -- they are given
  pub gives_wanted : (list old new : List ℕ) (s : Status) (r : Reply)
      → ListsWanted b v.sectors v.numbers.now (sectors_in b v) d list → GivesList list old new s r → WantsAll b v d old new s r
  gives_wanted list old new status.Done r lists (empty, is, same) = (lists.settled empty, is, same)
  gives_wanted list old new status.No r lists given = given
  gives_wanted list old new status.Usage r lists given = given
  gives_wanted list old new status.Refused r lists given = given
  gives_wanted list old new status.NoTable r lists given = given
  gives_wanted list old new status.Device r lists given = given
  gives_wanted list old new status.Memory r lists given = absurd given
  gives_wanted list old new status.Want r lists given = (list, lists.wanted, given)
  gives_wanted list old new status.Room r lists given = (list, lists.wanted, given)
  gives_wanted list old new status.WantOther r lists given = given
