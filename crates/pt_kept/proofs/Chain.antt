-- The slices of a chain's logical partitions, when one of these goes or comes.
use Rattle.std.specs.Prelude.{◌≡◌, ◌<◌, ◌≤◌, ◌+◌, ◌-◌, ◌++◌, ◌∷◌, [], ℕ, zero, suc, Bool, true, false, List, map, length, slice_index_or}
use Rattle.std.specs.Prelude.{slice_set, Option, Some, None, is_some, if◌then◌else◌, nat_eq, nat_lt}
use Rattle.std.proofs.Common.{subst, refl, sym, ap, ◌∙◌, arith}
use Rattle.std.proofs.lemmas.Bool.{lt-ltb, le-ltb}
use Rattle.std.proofs.lemmas.List.{map-append}
use Rattle.std.proofs.lemmas.List.Elements.{filter-append}
use Rattle.pt_mbr.specs.declared.record.Record.{Record}
use Rattle.pt_mbr.specs.declared.ebr.Ebr.{Ebr}
use Rattle.pt_members.specs.Members.{records_as, logicals_as, slice_from}
use Rattle.pt_members.proofs.SliceLists.{primary_some, logical_none, logical_some, next_is, record_slice, primary_slice, primary_slices}
use Rattle.pt_members.proofs.SliceLists.{logical_slice, logical_slices}
use Rattle.pt_members.proofs.SliceListsLemmas.{next_number}
use Rattle.pt_members.specs.declared.layout.Slice.{Slice}
use Rattle.pt_kept.proofs.Lists.{slices_by, filter_in, filter_out}
use Rattle.pt_kept.proofs.Entries.{is_not, is_not_true, is_not_false}
use Rattle.pt_cases.specs.Writes.{NumbersAscend}
use Rattle.pt_cases.proofs.Ascending.{logicals_ascend}

-- all numbers pass a test, or none does
pub ascending_kept : (f : ℕ → Bool) (n : ℕ) (ss : List Slice) → ((m : ℕ) → n ≤ m → f m ≡ true) → NumbersAscend n ss → slices_by f ss ≡ ss
ascending_kept f n [] all up = refl
ascending_kept f n (s ∷ ss) all up =
    filter_in (λ (x : Slice). f x.number) s ss (all s.number up.0)
    ∙ ap (λ (l : List Slice). s ∷ l) (ascending_kept f (s.number + 1) ss (λ m le. all m (omega (arith, le, up.0))) up.1)

pub ascending_gone : (f : ℕ → Bool) (n : ℕ) (ss : List Slice) → ((m : ℕ) → n ≤ m → f m ≡ false) → NumbersAscend n ss → slices_by f ss ≡ []
ascending_gone f n [] all up = refl
ascending_gone f n (s ∷ ss) all up =
    filter_out (λ (x : Slice). f x.number) s ss (all s.number up.0)
    ∙ ascending_gone f (s.number + 1) ss (λ m le. all m (omega (arith, le, up.0))) up.1

-- all numbers are below a bound
abbrev pub AreBelow : ℕ → List Slice → Type 0
AreBelow top [] = Unit {0}
AreBelow top (s ∷ ss) = (s.number < top) × AreBelow top ss

pub below_more : (top more : ℕ) (ss : List Slice) → top ≤ more → AreBelow top ss → AreBelow more ss
below_more top more [] le are = tt
below_more top more (s ∷ ss) le are = (omega (arith, are.0, le), below_more top more ss le are.1)

pub below_append : (top : ℕ) (ss ts : List Slice) → AreBelow top ss → AreBelow top ts → AreBelow top (ss ++ ts)
below_append top [] ts are also = also
below_append top (s ∷ ss) ts are also = (are.0, below_append top ss ts are.1 also)

below_one : (n at : ℕ) (r : Record) (c : Bool) → nat_eq r.kind 0xA5 ≡ c → AreBelow (n + 1) (record_slice n at r)
unfolding record_slice
below_one n at r true is = rw is (omega arith, tt)
below_one n at r false is = rw is tt

below_primary : (n : ℕ) (r : Option Record) → AreBelow (n + 1) (primary_slice n r)
unfolding primary_slice
below_primary n None = tt
below_primary n (Some r) = subst (AreBelow (n + 1)) (sym (primary_some n r)) (below_one n 0 r (nat_eq r.kind 0xA5) refl)

pub primaries_below : (n top : ℕ) (rs : List (Option Record)) → n + length rs ≤ top → AreBelow top (primary_slices n rs)
unfolding primary_slices primary_slice records_as
primaries_below n top [] le = tt
primaries_below n top (r ∷ rs) le =
    below_append top (primary_slice n r) (primary_slices (n + 1) rs)
    (below_more (n + 1) top (primary_slice n r) (omega (arith, le)) (below_primary n r))
    (primaries_below (n + 1) top rs (omega (arith, le)))

pub below_logical : (n : ℕ) (e : Ebr) (o : Option Record) → e.logical ≡ o → AreBelow (n + 1) (logical_slice n e)
below_logical n e None is = subst (AreBelow (n + 1)) (sym (logical_none n e is)) tt
below_logical n e (Some r) is =
    subst (AreBelow (n + 1)) (sym (logical_some n e r is)) (below_one n e.at.0 r (nat_eq r.kind 0xA5) refl)

pub next_of : (n : ℕ) (e : Ebr) (o : Option Record) → e.logical ≡ o → next_number n e ≡ (if is_some o then n + 1 else n)
next_of = next_is

pub next_most : (n : ℕ) (e : Ebr) (o : Option Record) → e.logical ≡ o → (n ≤ next_number n e) × (next_number n e ≤ n + 1)
next_most n e None is = let at = next_of n e None is in (omega (arith, at), omega (arith, at))
next_most n e (Some r) is = let at = next_of n e (Some r) is in (omega (arith, at), omega (arith, at))

pub logicals_below : (n top : ℕ) (es : List Ebr) → n + length es ≤ top → AreBelow top (logical_slices n es)
unfolding logical_slices logical_slice logicals_as next_number
logicals_below n top [] le = tt
logicals_below n top (e ∷ es) le =
    let next = next_most n e e.logical refl in
    below_append top (logical_slice n e) (logical_slices (next_number n e) es)
    (below_more (n + 1) top (logical_slice n e) (omega (arith, le)) (below_logical n e e.logical refl))
    (logicals_below (next_number n e) top es (omega (arith, le, next.1)))

-- a slice under another number
abbrev pub renumbered : (ℕ → ℕ) → Slice → Slice
renumbered h s = record { number = h s.number; first = s.first; len = s.len }

pub map_below : (h : ℕ → ℕ) (top : ℕ) (ss : List Slice) → ((m : ℕ) → m < top → h m ≡ m) → AreBelow top ss → map (renumbered h) ss ≡ ss
map_below h top [] same are = refl
map_below h top (s ∷ ss) same are =
    ap (λ (n : ℕ). record { number = n; first = s.first; len = s.len } ∷ map (renumbered h) ss) (same s.number are.0)
    ∙ ap (λ (l : List Slice). s ∷ l) (map_below h top ss same are.1)

kept_below : (f : ℕ → Bool) (top : ℕ) (ss : List Slice) → ((m : ℕ) → m < top → f m ≡ true) → AreBelow top ss → slices_by f ss ≡ ss
kept_below f top [] all are = refl
kept_below f top (s ∷ ss) all are =
    filter_in (λ (x : Slice). f x.number) s ss (all s.number are.0) ∙ ap (λ (l : List Slice). s ∷ l) (kept_below f top ss all are.1)

pub by_below : (f : ℕ → Bool) (top : ℕ) (ss : List Slice) → ((m : ℕ) → m < top → f m ≡ true) → AreBelow top ss → slices_by f ss ≡ ss
by_below = kept_below

gone_below : (f : ℕ → Bool) (top : ℕ) (ss : List Slice) → ((m : ℕ) → m < top → f m ≡ false) → AreBelow top ss → slices_by f ss ≡ []
gone_below f top [] all are = refl
gone_below f top (s ∷ ss) all are = filter_out (λ (x : Slice). f x.number) s ss (all s.number are.0) ∙ gone_below f top ss all are.1

pub none_below : (f : ℕ → Bool) (top : ℕ) (ss : List Slice) → ((m : ℕ) → m < top → f m ≡ false) → AreBelow top ss → slices_by f ss ≡ []
none_below = gone_below

-- the number that the next logical partition would have at a place
abbrev pub number_by : ℕ → ℕ → List Ebr → ℕ
number_by n zero chain = n
number_by n (suc k) [] = n
number_by n (suc k) (e ∷ es) = number_by (next_number n e) k es

pub number_least : (n k : ℕ) (chain : List Ebr) → n ≤ number_by n k chain
number_least n zero chain = omega arith
number_least n (suc k) [] = omega arith
number_least n (suc k) (e ∷ es) =
    let next = next_most n e e.logical refl in
    let more = number_least (next_number n e) k es in
    omega (arith, next.0, more)

-- a record's slice under another number
slice_moved : (h : ℕ → ℕ) (n m at : ℕ) (r : Record) (c : Bool) → nat_eq r.kind 0xA5 ≡ c → h n ≡ m
    → map (renumbered h) (record_slice n at r) ≡ record_slice m at r
unfolding record_slice
slice_moved h n m at r true is to = rw is (ap (λ (k : ℕ). slice_from k (at + r.start) (at + r.start + r.size - 1) ∷ []) to)
slice_moved h n m at r false is to = rw is refl

logical_moved : (h : ℕ → ℕ) (n m : ℕ) (e : Ebr) (o : Option Record) → e.logical ≡ o → h n ≡ m
    → map (renumbered h) (logical_slice n e) ≡ logical_slice m e
logical_moved h n m e None is to = ap (map (renumbered h)) (logical_none n e is) ∙ sym (logical_none m e is)
logical_moved h n m e (Some r) is to =
    ap (map (renumbered h)) (logical_some n e r is) ∙ (slice_moved h n m e.at.0 r (nat_eq r.kind 0xA5) refl to
    ∙ sym (logical_some m e r is))

-- what moves numbers from n on to m on, below a bound
abbrev pub Moves : (ℕ → ℕ) → ℕ → ℕ → ℕ → Type 0
Moves h n m top = (i : ℕ) → n + i < top → h (n + i) ≡ m + i

moves_here : (h : ℕ → ℕ) (n m top : ℕ) → Moves h n m top → n < top → h n ≡ m
moves_here h n m top to lt =
    let at : n ≡ n + 0 = omega arith in
    let back : m + 0 ≡ m = omega arith in
    ap h at ∙ (to 0 (omega (arith, lt)) ∙ back)

moves_next : (h : ℕ → ℕ) (n m top : ℕ) → Moves h n m top → Moves h (n + 1) (m + 1) top
moves_next h n m top to i lt =
    let at : (n + 1) + i ≡ n + (1 + i) = omega arith in
    let back : m + (1 + i) ≡ (m + 1) + i = omega arith in
    ap h at ∙ (to (1 + i) (omega (arith, lt)) ∙ back)

moved_behind : (h : ℕ → ℕ) (n m top : ℕ) (e : Ebr) (es : List Ebr)
    → ((i j : ℕ) → Moves h i j top → i + length es ≤ top → map (renumbered h) (logical_slices i es) ≡ logical_slices j es)
    → Moves h n m top → n + length (e ∷ es) ≤ top → (o : Option Record) → e.logical ≡ o
    → map (renumbered h) (logical_slices (next_number n e) es) ≡ logical_slices (next_number m e) es
moved_behind h n m top e es more to le None is =
    ap (λ (k : ℕ). map (renumbered h) (logical_slices k es)) (next_of n e None is)
    ∙ (more n m to (omega (arith, le)) ∙ ap (λ (k : ℕ). logical_slices k es) (sym (next_of m e None is)))
moved_behind h n m top e es more to le (Some r) is =
    ap (λ (k : ℕ). map (renumbered h) (logical_slices k es)) (next_of n e (Some r) is)
    ∙ (more (n + 1) (m + 1) (moves_next h n m top to) (omega (arith, le))
    ∙ ap (λ (k : ℕ). logical_slices k es) (sym (next_of m e (Some r) is)))

-- all the numbers of a chain move together
pub chain_moved : (h : ℕ → ℕ) (n m top : ℕ) (es : List Ebr) → Moves h n m top → n + length es ≤ top
    → map (renumbered h) (logical_slices n es) ≡ logical_slices m es
unfolding logical_slices logical_slice logicals_as next_number
chain_moved h n m top [] to le = refl
chain_moved h n m top (e ∷ es) to le =
    map-append (renumbered h) (logical_slice n e) (logical_slices (next_number n e) es)
    ∙ (ap (λ (l : List Slice). l ++ map (renumbered h) (logical_slices (next_number n e) es))
    (logical_moved h n m e e.logical refl (moves_here h n m top to (omega (arith, le))))
    ∙ ap (λ (l : List Slice). logical_slice m e ++ l) (moved_behind h n m top e es (λ i j. chain_moved h i j top es) to le e.logical refl))

-- a chain with another extended boot record at a place, whose logical partition is no other slice
pub chain_same : (n k : ℕ) (x : Ebr) (chain : List Ebr) → k < length chain
    → ((m : ℕ) (d : Ebr) → logical_slice m x ≡ logical_slice m (slice_index_or chain k d))
    → ((m : ℕ) (d : Ebr) → next_number m x ≡ next_number m (slice_index_or chain k d))
    → logical_slices n (slice_set chain k x) ≡ logical_slices n chain
unfolding logical_slices logical_slice logicals_as next_number
chain_same n k x [] lt same next = absurd (omega (arith, lt))
chain_same n zero x (e ∷ es) lt same next =
    ap (λ (l : List Slice). l ++ logical_slices (next_number n x) es) (same n e)
    ∙ ap (λ (m : ℕ). logical_slice n e ++ logical_slices m es) (next n e)
chain_same n (suc k) x (e ∷ es) lt same next =
    ap (λ (l : List Slice). logical_slice n e ++ l) (chain_same (next_number n e) k x es (omega (arith, lt)) same next)

-- a number after the logical partition of number k went
abbrev pub lower : ℕ → ℕ → ℕ
lower k m = if nat_lt k m then m - 1 else m

pub lower_above : (k m : ℕ) → k < m → lower k m ≡ m - 1
lower_above k m lt = rw (lt-ltb k m lt) refl

pub lower_below : (k m : ℕ) → m ≤ k → lower k m ≡ m
lower_below k m le = rw (le-ltb k m le) refl

-- the slices without that of number k, and those above it one lower
abbrev pub slices_lowered : ℕ → List Slice → List Slice
slices_lowered k ss = map (renumbered (lower k)) (slices_by (is_not k) ss)

pub lowered_append : (k : ℕ) (ss ts : List Slice) → slices_lowered k (ss ++ ts) ≡ slices_lowered k ss ++ slices_lowered k ts
lowered_append k ss ts =
    ap (map (renumbered (lower k))) (filter-append (λ (s : Slice). is_not k s.number) ss ts)
    ∙ map-append (renumbered (lower k)) (slices_by (is_not k) ss) (slices_by (is_not k) ts)

-- slices of lower numbers stay
pub lowered_low : (k top : ℕ) (ss : List Slice) → top ≤ k → AreBelow top ss → slices_lowered k ss ≡ ss
lowered_low k top ss le are =
    ap (map (renumbered (lower k))) (by_below (is_not k) top ss (λ m lt. is_not_true k m (omega (arith, lt, le))) are)
    ∙ map_below (lower k) top ss (λ m lt. lower_below k m (omega (arith, lt, le))) are

-- those behind it move down
lowered_high : (k : ℕ) (es : List Ebr) → slices_lowered k (logical_slices (k + 1) es) ≡ logical_slices k es
lowered_high k es =
    ap (map (renumbered (lower k))) (ascending_kept (is_not k) (k + 1) (logical_slices (k + 1) es)
    (λ m le. is_not_true k m (omega (arith, le))) (logicals_ascend (k + 1) es))
    ∙ chain_moved (lower k) (k + 1) k ((k + 1) + length es) es (λ i lt. moved i) (omega arith) where
      moved : (i : ℕ) → lower k ((k + 1) + i) ≡ k + i
      moved i = let at = lower_above k ((k + 1) + i) (omega arith) in omega (arith, at)

lowered_here : (k at : ℕ) (r : Record) (c : Bool) → nat_eq r.kind 0xA5 ≡ c → slices_lowered k (record_slice k at r) ≡ []
unfolding record_slice
lowered_here k at r true is =
    rw is (ap (map (renumbered (lower k))) (filter_out (λ (s : Slice). is_not k s.number)
    (slice_from k (at + r.start) (at + r.start + r.size - 1)) [] (is_not_false k k refl)))
lowered_here k at r false is = rw is refl

logical_gone : (k : ℕ) (e : Ebr) (r : Record) → e.logical ≡ Some r → slices_lowered k (logical_slice k e) ≡ []
logical_gone k e r is = ap (slices_lowered k) (logical_some k e r is) ∙ lowered_here k e.at.0 r (nat_eq r.kind 0xA5) refl

pub emptied : (n : ℕ) (x : Ebr) → x.logical ≡ None → logical_slice n x ≡ []
emptied n x none = logical_none n x none

-- without the logical partition at a place its number is free, and each above is one lower
pub chain_lowered : (n k : ℕ) (x : Ebr) (r : Record) (chain : List Ebr) → k < length chain
    → ((d : Ebr) → (slice_index_or chain k d).logical ≡ Some r) → x.logical ≡ None
    → logical_slices n (slice_set chain k x) ≡ slices_lowered (number_by n k chain) (logical_slices n chain)
unfolding logical_slices logical_slice logicals_as next_number
chain_lowered n k x r [] lt has none = absurd (omega (arith, lt))
chain_lowered n zero x r (e ∷ es) lt has none =
    let next : next_number n e ≡ n + 1 = next_of n e (Some r) (has e) in
    ap (λ (l : List Slice). l ++ logical_slices (next_number n x) es) (emptied n x none)
    ∙ (ap (λ (m : ℕ). logical_slices m es) (next_of n x None none)
    ∙ sym (lowered_append n (logical_slice n e) (logical_slices (next_number n e) es)
    ∙ (ap (λ (l : List Slice). l ++ slices_lowered n (logical_slices (next_number n e) es)) (logical_gone n e r (has e))
    ∙ (ap (λ (m : ℕ). slices_lowered n (logical_slices m es)) next ∙ lowered_high n es))))
chain_lowered n (suc k) x r (e ∷ es) lt has none =
    let top = number_by (next_number n e) k es in
    let least = number_least (next_number n e) k es in
    let more = chain_lowered (next_number n e) k x r es (omega (arith, lt)) has none in
    ap (λ (l : List Slice). logical_slice n e ++ l) more
    ∙ sym (lowered_append top (logical_slice n e) (logical_slices (next_number n e) es)
    ∙ ap (λ (l : List Slice). l ++ slices_lowered top (logical_slices (next_number n e) es)) (low_here n top e e.logical refl least)) where
      low_here : (n top : ℕ) (e : Ebr) (o : Option Record) → e.logical ≡ o → next_number n e ≤ top
          → slices_lowered top (logical_slice n e) ≡ logical_slice n e
      low_here n top e None is le = ap (slices_lowered top) (emptied n e is) ∙ sym (emptied n e is)
      low_here n top e (Some r) is le = let next = next_of n e (Some r) is in
          lowered_low top (n + 1) (logical_slice n e) (omega (arith, next, le)) (below_logical n e (Some r) is)
