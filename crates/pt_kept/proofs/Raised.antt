-- The slices of a chain's logical partitions, when one more comes.
use Rattle.std.specs.Prelude.{◌≡◌, ◌<◌, ◌≤◌, ◌+◌, ◌-◌, ◌^◌, ◌++◌, ◌∷◌, [], ℕ, zero, suc, List, map, length, slice_index_or, slice_set}
use Rattle.std.specs.Prelude.{Option, Some, None, if◌then◌else◌, nat_lt}
use Rattle.std.specs.List.{insert}
use Rattle.std.proofs.Common.{refl, sym, ap, ◌∙◌, arith, append_assoc}
use Rattle.std.proofs.lemmas.Bool.{lt-ltb, le-ltb}
use Rattle.std.proofs.lemmas.List.{map-append}
use Rattle.std.proofs.lemmas.List.Elements.{filter-append}
use Rattle.pt_mbr.specs.declared.record.Record.{Record}
use Rattle.pt_mbr.specs.declared.ebr.Ebr.{Ebr}
use Rattle.pt_members.specs.Members.{logicals_as}
use Rattle.pt_members.proofs.SliceListsLemmas.{next_number}
use Rattle.pt_members.proofs.SliceLists.{logical_slice, logical_slices}
use Rattle.pt_members.specs.declared.layout.Slice.{Slice}
use Rattle.pt_kept.proofs.Lists.{slices_by}
use Rattle.pt_kept.proofs.Entries.{is_below, is_above, around}
use Rattle.pt_cases.proofs.Ascending.{logicals_ascend}
use Rattle.pt_kept.proofs.Chain.{AreBelow, below_logical, ascending_kept, ascending_gone, by_below, none_below, renumbered, map_below}
use Rattle.pt_kept.proofs.Chain.{Moves, chain_moved, number_by, number_least, next_of, next_most, emptied}

-- the greatest number of 64 bits
abbrev pub greatest : ℕ
greatest = 2 ^ 64 - 1

-- a number before a logical partition of number k comes
abbrev pub raise : ℕ → ℕ → ℕ
raise k m = if nat_lt m k then m else (if nat_lt m greatest then m + 1 else m)

pub raise_below : (k m : ℕ) → m < k → raise k m ≡ m
raise_below k m lt = rw (lt-ltb m k lt) refl

pub raise_above : (k m : ℕ) → k ≤ m → m < greatest → raise k m ≡ m + 1
raise_above k m le lt = rw (le-ltb m k le, lt-ltb m greatest lt) refl

-- the slices before one of number k comes
abbrev pub slices_raised : ℕ → List Slice → List Slice
slices_raised k ss = map (renumbered (raise k)) ss

-- lower slices stand in front
pub around_low : (k top : ℕ) (new ss ts : List Slice) → top ≤ k → AreBelow top ss → around k new (ss ++ ts) ≡ ss ++ around k new ts
around_low k top new ss ts le are =
    let low : slices_by (is_below k) (ss ++ ts) ≡ ss ++ slices_by (is_below k) ts =
    filter-append (λ (s : Slice). is_below k s.number) ss ts
    ∙ ap (λ (l : List Slice). l ++ slices_by (is_below k) ts)
    (by_below (is_below k) top ss (λ m lt. lt-ltb m k (omega (arith, lt, le))) are) in
    let high : slices_by (is_above k) (ss ++ ts) ≡ slices_by (is_above k) ts =
    filter-append (λ (s : Slice). is_above k s.number) ss ts
    ∙ ap (λ (l : List Slice). l ++ slices_by (is_above k) ts)
    (none_below (is_above k) top ss (λ m lt. le-ltb k m (omega (arith, lt, le))) are) in
    ap (λ (l : List Slice). l ++ (new ++ slices_by (is_above k) (ss ++ ts))) low
    ∙ (ap (λ (l : List Slice). (ss ++ slices_by (is_below k) ts) ++ (new ++ l)) high
    ∙ append_assoc ss (slices_by (is_below k) ts) (new ++ slices_by (is_above k) ts))

-- and in front of the raised ones
pub raised_low : (k top : ℕ) (new ss ts : List Slice) → top ≤ k → AreBelow top ss
    → around k new (slices_raised k (ss ++ ts)) ≡ ss ++ around k new (slices_raised k ts)
raised_low k top new ss ts le are =
    let same : slices_raised k (ss ++ ts) ≡ ss ++ slices_raised k ts =
    map-append (renumbered (raise k)) ss ts
    ∙ ap (λ (l : List Slice). l ++ slices_raised k ts) (map_below (raise k) top ss (λ m lt. raise_below k m (omega (arith, lt, le))) are) in
    ap (around k new) same ∙ around_low k top new ss (slices_raised k ts) le are

-- those behind it move up
raised_high : (k : ℕ) (new : List Slice) (es : List Ebr) → k + length es < greatest
    → around k new (slices_raised k (logical_slices k es)) ≡ new ++ logical_slices (k + 1) es
raised_high k new es few =
    let up : slices_raised k (logical_slices k es) ≡ logical_slices (k + 1) es =
    chain_moved (raise k) k (k + 1) greatest es moved (omega (arith, few)) in
    let order = logicals_ascend (k + 1) es in
    let low : slices_by (is_below k) (logical_slices (k + 1) es) ≡ [] =
    ascending_gone (is_below k) (k + 1) (logical_slices (k + 1) es) (λ m le. le-ltb m k (omega (arith, le))) order in
    let high : slices_by (is_above k) (logical_slices (k + 1) es) ≡ logical_slices (k + 1) es =
    ascending_kept (is_above k) (k + 1) (logical_slices (k + 1) es) (λ m le. lt-ltb k m (omega (arith, le))) order in
    ap (around k new) up
    ∙ (ap (λ (l : List Slice). l ++ (new ++ slices_by (is_above k) (logical_slices (k + 1) es))) low
    ∙ ap (λ (l : List Slice). new ++ l) high) where
      moved : Moves (raise k) k (k + 1) greatest
      moved i lt = let at = raise_above k (k + i) (omega arith) lt in omega (arith, at)

-- one more behind an extended boot record, which has a number below it or none
past_one : (n k : ℕ) (new : List Slice) (e : Ebr) (ts : List Slice) (o : Option Record) → e.logical ≡ o → next_number n e ≤ k
    → around k new (slices_raised k (logical_slice n e ++ ts)) ≡ logical_slice n e ++ around k new (slices_raised k ts)
past_one n k new e ts None is le =
    ap (λ (l : List Slice). around k new (slices_raised k (l ++ ts))) (emptied n e is)
    ∙ ap (λ (l : List Slice). l ++ around k new (slices_raised k ts)) (sym (emptied n e is))
past_one n k new e ts (Some r) is le =
    let next = next_of n e (Some r) is in
    raised_low k (n + 1) new (logical_slice n e) ts (omega (arith, next, le)) (below_logical n e (Some r) is)

-- an empty extended boot record gets a logical partition: it has the number of its place, and each from there on is one higher
pub chain_filled : (n k : ℕ) (x : Ebr) (r : Record) (chain : List Ebr) → k < length chain → n + length chain < greatest
    → ((d : Ebr) → (slice_index_or chain k d).logical ≡ None) → x.logical ≡ Some r
    → logical_slices n (slice_set chain k x) ≡ around (number_by n k chain) (logical_slice (number_by n k chain) x)
    (slices_raised (number_by n k chain) (logical_slices n chain))
unfolding logical_slices logical_slice logicals_as next_number
chain_filled n k x r [] lt few none has = absurd (omega (arith, lt))
chain_filled n zero x r (e ∷ es) lt few none has =
    let next : next_number n x ≡ n + 1 = next_of n x (Some r) has in
    let old : logical_slice n e ++ logical_slices (next_number n e) es ≡ logical_slices n es =
    ap (λ (l : List Slice). l ++ logical_slices (next_number n e) es) (emptied n e (none e))
    ∙ ap (λ (m : ℕ). logical_slices m es) (next_of n e None (none e)) in
    ap (λ (m : ℕ). logical_slice n x ++ logical_slices m es) next
    ∙ sym (ap (λ (l : List Slice). around n (logical_slice n x) (slices_raised n l)) old
    ∙ raised_high n (logical_slice n x) es (omega (arith, few)))
chain_filled n (suc k) x r (e ∷ es) lt few none has =
    let m = next_number n e in
    let next = next_most n e e.logical refl in
    let top = number_by m k es in
    let more = chain_filled m k x r es (omega (arith, lt)) (omega (arith, few, next.1)) none has in
    ap (λ (l : List Slice). logical_slice n e ++ l) more
    ∙ sym (past_one n top (logical_slice top x) e (logical_slices m es) e.logical refl (number_least m k es))

insert_first : (x : Ebr) (es : List Ebr) → insert es 0 x ≡ x ∷ es
insert_first x es = refl

insert_later : (k : ℕ) (x e : Ebr) (es : List Ebr) → insert (e ∷ es) (suc k) x ≡ e ∷ insert es k x
insert_later k x e es = refl

-- one more extended boot record with a logical partition
pub chain_inserted : (n k : ℕ) (x : Ebr) (r : Record) (chain : List Ebr) → k ≤ length chain → n + length chain < greatest
    → x.logical ≡ Some r
    → logical_slices n (insert chain k x) ≡ around (number_by n k chain) (logical_slice (number_by n k chain) x)
    (slices_raised (number_by n k chain) (logical_slices n chain))
unfolding logical_slices logical_slice logicals_as next_number
chain_inserted n zero x r chain le few has =
    ap (λ (m : ℕ). logical_slice n x ++ logical_slices m chain) (next_of n x (Some r) has)
    ∙ sym (raised_high n (logical_slice n x) chain few)
chain_inserted n (suc k) x r [] le few has = absurd (omega (arith, le))
chain_inserted n (suc k) x r (e ∷ es) le few has =
    let m = next_number n e in
    let next = next_most n e e.logical refl in
    let top = number_by m k es in
    let more = chain_inserted m k x r es (omega (arith, le)) (omega (arith, few, next.1)) has in
    ap (λ (l : List Slice). logical_slice n e ++ l) more
    ∙ sym (past_one n top (logical_slice top x) e (logical_slices m es) e.logical refl (number_least m k es))
