-- Where there is room, partitions find their places: their numbers rise from 1 to 128 at most, and their sectors are the disk's.
use Rattle.std.proofs.Common.{◌≡◌, ◌<◌, ◌≤◌, ◌+◌, ◌-◌, ◌*◌, ℕ, zero, suc, Bool, true, false, List, [], ◌∷◌, ◌++◌, length}
use Rattle.std.proofs.Common.{length-append, map, Option, Some, None, refl, sym, ap, ◌∙◌, subst, arith, inl, inr}
use Rattle.std.specs.Prelude.{Contains, filter, cond, nat_lt}
use Rattle.std.specs.List.{list_any}
use Rattle.std.proofs.lemmas.Bool.{and_cases, both_ways, ltb-false, or_parts}
use Rattle.pt_gpt.specs.Copies.{array_len, HasRoom, edge}
use Rattle.pt_mbr.specs.declared.record.Record.{Record}
use Rattle.pt_mbr.specs.declared.ebr.Ebr.{Ebr}
use Rattle.pt_mbr.specs.Records.{is_extended}
use Rattle.pt_members.proofs.SliceListsLemmas.{next_number}
use Rattle.pt_members.specs.declared.layout.Labelled.{Labelled}
use Rattle.pt_members.specs.declared.layout.Layout.{Layout}
use Rattle.pt_members.specs.declared.layout.Body.{Body}
use Rattle.pt_members.specs.declared.layout.Body.TheVariants.{Mbr, Gpt}
use Rattle.pt_members.specs.declared.member.Member.{Member}
use Rattle.pt_members.specs.Members.{present, slots, logicals, logicals_as}
use Rattle.pt_members.specs.Rows.{IsMember, members_of}
use Rattle.pt_members.specs.Tables.{HasFour}
use Rattle.pt_members.proofs.ByRows.{place_member}
use Rattle.pt_members.proofs.Grouped.{from_present}
use Rattle.pt_edit.specs.Entries.{partitions, is_outsider, is_chain_in_way, no_room, member_of, is_kept}
use Rattle.pt_edit.specs.inner.Entries.{IsItemAt, Placeable}
use Rattle.pt_edit.proofs.Kept.{kept_lem, logicals_same}
use Rattle.pt_edit.proofs.PartsLemmas.{partition_of, primary, primaries, logical, logicals_from, partitions_mbr, partitions_gpt}
use Rattle.pt_edit.specs.declared.partitions.Partition.{Partition}

-- their numbers rise, from low on and below high, and none begins more than one sector past its end
abbrev pub Rising : ℕ → ℕ → List Partition → Type 0
Rising low high [] = Unit {0}
Rising low high (p ∷ ps) = (low ≤ p.number) × (p.number < high) × (p.first ≤ p.last + 1) × Rising (p.number + 1) high ps

weaker : (a b c d : ℕ) (ps : List Partition) → a ≤ b → c ≤ d → Rising b c ps → Rising a d ps
weaker a b c d [] low high rising = tt
weaker a b c d (p ∷ ps) low high rising =
    (omega (arith, rising.0), omega (arith, rising.1), rising.2, weaker (p.number + 1) (p.number + 1) c d ps (omega arith) high rising.3)

joined : (a b c : ℕ) (ps qs : List Partition) → a ≤ b → b ≤ c → Rising a b ps → Rising b c qs → Rising a c (ps ++ qs)
joined a b c [] qs low high one two = weaker a b c c qs low (omega arith) two
joined a b c (p ∷ ps) qs low high one two =
    (one.0, omega (arith, one.1), one.2, joined (p.number + 1) b c ps qs (omega (arith, one.1)) high one.3 two)

one_rising : (n at : ℕ) (r : Record) → Rising n (n + 1) (partition_of n at r ∷ [])
one_rising n at r = (omega arith, omega arith, omega arith, tt)

primary_rising : (n : ℕ) (r : Option Record) → Rising n (n + 1) (primary n r)
unfolding primary
primary_rising n None = tt
primary_rising n (Some r) = by_case (is_extended r.kind) refl where
  by_case : (c : Bool) → is_extended r.kind ≡ c → Rising n (n + 1) (primary n (Some r))
  by_case true is = rw is tt
  by_case false is = rw is (one_rising n 0 r)

primaries_rising : (n : ℕ) (rs : List (Option Record)) → Rising n (n + length rs) (primaries n rs)
unfolding primaries
primaries_rising n [] = tt
primaries_rising n (r ∷ rs) =
    let e : (n + 1) + length rs ≡ n + length (r ∷ rs) = omega arith in
    joined n (n + 1) (n + length (r ∷ rs)) (primary n r) (primaries (n + 1) rs) (omega arith) (omega arith) (primary_rising n r)
    (subst (λ (h : ℕ). Rising (n + 1) h (primaries (n + 1) rs)) e (primaries_rising (n + 1) rs))

logical_rising : (n : ℕ) (e : Ebr) → Rising n (next_number n e) (logical n e) × (next_number n e ≡ n + length (logical n e))
unfolding logical next_number
logical_rising n e = by_case e.logical refl where
  by_case : (o : Option Record) → e.logical ≡ o → Rising n (next_number n e) (logical n e) × (next_number n e ≡ n + length (logical n e))
  by_case None is = rw is (tt, omega arith)
  by_case (Some r) is = rw is (one_rising n e.at.0 r, refl)

logicals_rising : (n : ℕ) (es : List Ebr) → Rising n (n + length (logicals_from n es)) (logicals_from n es)
unfolding logicals_from
logicals_rising n [] = tt
logicals_rising n (e ∷ es) =
    let one = logical_rising n e in
    let m = next_number n e in
    let count = length-append (logical n e) (logicals_from m es) in
    let h : m + length (logicals_from m es) ≡ n + length (logical n e ++ logicals_from m es) = omega (arith, one.1, count) in
    joined n m (n + length (logical n e ++ logicals_from m es)) (logical n e) (logicals_from m es) (omega (arith, one.1))
    (omega (arith, h)) one.0
    (subst (λ (k : ℕ). Rising m k (logicals_from m es)) h (logicals_rising m es))

all_rising : (rs : List (Option Record)) (chain : List Ebr) → length rs ≡ 4 → length (logicals_from 5 chain) ≤ 124
    → Rising 1 129 (partitions (Mbr rs chain))
all_rising rs chain four few =
    subst (Rising 1 129) (sym (partitions_mbr rs chain))
    (joined 1 5 129 (primaries 1 rs) (logicals_from 5 chain) (omega arith) (omega arith)
    (weaker 1 1 (1 + length rs) 5 (primaries 1 rs) (omega arith) (omega (arith, four)) (primaries_rising 1 rs))
    (weaker 5 5 (5 + length (logicals_from 5 chain)) 129 (logicals_from 5 chain) (omega arith) (omega arith) (logicals_rising 5 chain)))

-- so at each place
rising_at : (low high : ℕ) (ps : List Partition) (k : ℕ) (p : Partition) → Rising low high ps → IsItemAt ps k p
    → (low ≤ p.number) × (p.number < high) × (p.first ≤ p.last + 1)
rising_at low high [] k p rising at = absurd (omega (arith, at.0))
rising_at low high (q ∷ qs) zero p rising at =
    subst (λ (x : Partition). (low ≤ x.number) × (x.number < high) × (x.first ≤ x.last + 1)) at.1 (rising.0, rising.1, rising.2)
rising_at low high (q ∷ qs) (suc k) p rising at =
    let h = rising_at (q.number + 1) high qs k p rising.3 (omega (arith, at.0), at.1) in (omega (arith, rising.0, h.0), h.1, h.2)

rising_on : (low high : ℕ) (ps : List Partition) (i j : ℕ) (p q : Partition) → Rising low high ps → i < j → IsItemAt ps i p
    → IsItemAt ps j q → p.number < q.number
rising_on low high [] i j p q rising lt one two = absurd (omega (arith, one.0))
rising_on low high (r ∷ rs) i zero p q rising lt one two = absurd (omega arith)
rising_on low high (r ∷ rs) zero (suc j) p q rising lt one two =
    let h = rising_at (r.number + 1) high rs j q rising.3 (omega (arith, two.0), two.1) in
    subst (λ (x : Partition). x.number < q.number) one.1 (omega (arith, h.0))
rising_on low high (r ∷ rs) (suc i) (suc j) p q rising lt one two =
    rising_on (r.number + 1) high rs i j p q rising.3 (omega arith) (omega (arith, one.0), one.1) (omega (arith, two.0), two.1)

-- a partition is a member
mapped : {X Y : Type 0} (f : X → Y) (xs : List X) (x : X) → Contains xs x → Contains (map f xs) (f x)
mapped f [] x in_xs = absurd (omega (arith, in_xs.1))
mapped f (y ∷ ys) x (zero, lt, at) = (0, omega arith, ap f at)
mapped f (y ∷ ys) x (suc k, lt, at) = let h = mapped f ys x (k, omega arith, at) in (suc h.0, omega (arith, h.1), h.2)

unfiltered : {X : Type 0} (test : X → Bool) (xs : List X) (x : X) → Contains (filter test xs) x → Contains xs x × (test x ≡ true)
unfiltered test [] x in_xs = absurd (omega (arith, in_xs.1))
unfiltered {X} test (y ∷ ys) x in_xs = by_case (test y) refl (unfiltered test ys x) where
  by_case : (c : Bool) → test y ≡ c → (Contains (filter test ys) x → Contains ys x × (test x ≡ true))
      → Contains (y ∷ ys) x × (test x ≡ true)
  by_case true is more = at_head (subst (λ (l : List X). Contains l x)
      (ap (λ (c : Bool). cond c (y ∷ filter test ys) (filter test ys)) is) in_xs) where
        at_head : Contains (y ∷ filter test ys) x → Contains (y ∷ ys) x × (test x ≡ true)
        at_head (zero, lt, at) = ((0, omega arith, at), ap test (sym at) ∙ is)
        at_head (suc k, lt, at) = let h = more (k, omega arith, at) in ((suc h.0.0, omega (arith, h.0.1), h.0.2), h.1)
  by_case false is more =
      let h = more (subst (λ (l : List X). Contains l x) (ap (λ (c : Bool). cond c (y ∷ filter test ys) (filter test ys)) is) in_xs) in
      ((suc h.0.0, omega (arith, h.0.1), h.0.2), h.1)

-- what stands in a place is a member
stands : (b : ℕ) (o : Layout) (x : Member) → Contains (present (slots b o.body)) x → IsMember b o x
stands b o x is = place_member b o x (x, from_present (slots b o.body) x is, inl refl)

none_of : {X : Type 0} (p : X → Bool) (xs : List X) (x : X) → list_any p xs ≡ false → Contains xs x → p x ≡ false
none_of p [] x none is = absurd (omega (arith, is.1))
none_of p (y ∷ ys) x none (zero, lt, at) = ap p (sym at) ∙ (or_parts (p y) (list_any p ys) none).0
none_of p (y ∷ ys) x none (suc k, lt, at) = none_of p ys x (or_parts (p y) (list_any p ys) none).1 (k, omega arith, at)

module _ (b n : ℕ) (rs : List (Option Record)) (chain : List Ebr) (labels : List Labelled)
    (room : no_room b (record { sectors = n; body = Mbr rs chain; labels = labels }) ≡ false) where
  ways : (nat_lt n (2 * array_len b + 4) ≡ false)
      × (list_any (is_outsider b n) (members_of b (record { sectors = n; body = Mbr rs chain; labels = labels })) ≡ false)
      × (is_chain_in_way b n (Mbr rs chain) ≡ false)
  unfolding no_room
  ways = let (small, rest) = or_parts _ _ room in let (outside, way) = or_parts _ _ rest in (small, outside, way)

  -- and so inside, where there is room
  inside : (p : Partition) → Contains (partitions (Mbr rs chain)) p → p.last ≤ n - edge b
  inside p in_ps =
      let kept = subst (λ (l : List Member). Contains l (member_of b p)) (sym (kept_lem b rs chain))
      (mapped (member_of b) (partitions (Mbr rs chain)) p in_ps) in
      let there = unfiltered is_kept (present (slots b (Mbr rs chain))) (member_of b p) kept in
      let none = none_of (is_outsider b n) _ (member_of b p) ways.1
      (stands b (record { sectors = n; body = Mbr rs chain; labels = labels }) (member_of b p) there.0) in
      elim (and_cases (is_kept (member_of b p)) _ none) as (λ _. p.last ≤ n - edge b) [
        | inl other ↦ absurd (both_ways (is_kept (member_of b p)) other there.1)
        | inr not ↦ ltb-false (n - edge b) p.last (or_parts (nat_lt p.first (edge b)) (nat_lt (n - edge b) p.last) not).1
      ]

  few_logicals : length (logicals_from 5 chain) ≤ 124
  unfolding logicals
  few_logicals =
      let same = logicals_same b 5 chain in
      let few = ltb-false 124 (length (present (logicals_as b 5 chain))) (or_parts _ _ ways.2).1 in
      omega (arith, same)

  enough_room : HasRoom b n
  enough_room = ltb-false n (2 * array_len b + 4) ways.0

pub room_for : (b : ℕ) (o : Layout) → no_room b o ≡ false → HasRoom b o.sectors
unfolding no_room
room_for b o room = ltb-false o.sectors (2 * array_len b + 4) (or_parts _ _ room).0

placed_mbr : (b n : ℕ) (rs : List (Option Record)) (chain : List Ebr) (labels : List Labelled) → length rs ≡ 4
    → no_room b (record { sectors = n; body = Mbr rs chain; labels = labels }) ≡ false → Placeable n (partitions (Mbr rs chain))
placed_mbr b n rs chain labels four room =
    let ps = partitions (Mbr rs chain) in
    let enough : HasRoom b n = enough_room b n rs chain labels room in
    let rising : Rising 1 129 ps = all_rising rs chain four (few_logicals b n rs chain labels room) in
    let last : (k : ℕ) (p : Partition) → IsItemAt ps k p → p.last ≤ n - edge b =
    λ k p at. inside b n rs chain labels room p (k, at.0, at.1) in
    record {
      low = λ k p at. (rising_at 1 129 ps k p rising at).0;
      high = λ k p at. let h = (rising_at 1 129 ps k p rising at).1 in omega arith;
      fits_first = λ k p at. let h = (rising_at 1 129 ps k p rising at).2 in let l = last k p at in omega arith;
      fits_last = λ k p at. let l = last k p at in omega arith;
      rising = λ i j p q lt one two. rising_on 1 129 ps i j p q rising lt one two;
    }

none_placeable : (n : ℕ) → Placeable n []
none_placeable n = record {
  low = λ k p at. absurd (omega (arith, at.0));
  high = λ k p at. absurd (omega (arith, at.0));
  fits_first = λ k p at. absurd (omega (arith, at.0));
  fits_last = λ k p at. absurd (omega (arith, at.0));
  rising = λ i j p q lt one two. absurd (omega (arith, one.0));
}

pub placed : (b : ℕ) (o : Layout) → HasFour o.body → no_room b o ≡ false → Placeable o.sectors (partitions o.body)
placed b o four room = by_body o.body refl where
  by_body : (y : Body) → o.body ≡ y → Placeable o.sectors (partitions o.body)
  by_body (Mbr rs chain) is =
      let same : o ≡ record { sectors = o.sectors; body = Mbr rs chain; labels = o.labels } =
      ap (λ (y : Body). record { sectors = o.sectors; body = y; labels = o.labels }) is in
      subst (λ (y : Body). Placeable o.sectors (partitions y)) (sym is)
      (placed_mbr b o.sectors rs chain o.labels (subst HasFour is four) (subst (λ (x : Layout). no_room b x ≡ false) same room))
  by_body (Gpt t) is =
      subst (λ (y : Body). Placeable o.sectors (partitions y)) (sym is)
      (subst (Placeable o.sectors) (sym (partitions_gpt t)) (none_placeable o.sectors))
