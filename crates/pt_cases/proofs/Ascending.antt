-- Lemmas on specs/Writes.antt: slices stand in the order of their numbers.
use Rattle.std.specs.Prelude.{◌≡◌, ◌≤◌, ◌+◌, ◌-◌, ◌++◌, ◌∷◌, [], ℕ, Bool, true, false, List, filter, length, Option, Some, None}
use Rattle.std.specs.Prelude.{if◌then◌else◌, nat_eq}
use Rattle.std.proofs.Common.{refl, sym, subst, arith, append_assoc}
use Rattle.pt_gpt.specs.declared.entry.Entry.{Entry}
use Rattle.pt_mbr.specs.declared.record.Record.{Record}
use Rattle.pt_mbr.specs.declared.ebr.Ebr.{Ebr}
use Rattle.pt_members.specs.Members.{records_as, entries_as, logicals_as, is_slice_kind, slice_from, slices_of, has_place, places_of}
use Rattle.pt_members.proofs.SliceListsLemmas.{next_number}
use Rattle.pt_members.proofs.SliceLists.{record_slice, primary_slice, primary_slices, logical_slice, logical_slices, entry_slice}
use Rattle.pt_members.proofs.SliceLists.{entry_slices, primary_some, logical_none, logical_some, entry_some, next_is, slices_mbr}
use Rattle.pt_members.proofs.SliceLists.{slices_gpt}
use Rattle.pt_members.specs.declared.layout.Body.{Body}
use Rattle.pt_members.specs.declared.layout.Body.TheVariants.{Mbr, Gpt}
use Rattle.pt_members.specs.declared.layout.Layout.{Layout}
use Rattle.pt_members.specs.declared.layout.Slice.{Slice}
use Rattle.pt_members.specs.Tables.{HasFour}
use Rattle.pt_cases.specs.Writes.{FitsBody, Shaped, NumbersAscend}

pub ascend_from : (low more : ℕ) (ss : List Slice) → low ≤ more → NumbersAscend more ss → NumbersAscend low ss
ascend_from low more [] le is = tt
ascend_from low more (s ∷ ss) le is = (omega (arith, le, is.0), is.1)

filter_one : (p : Slice → Bool) (low : ℕ) (s : Slice) (ss : List Slice) → low ≤ s.number → NumbersAscend (s.number + 1) (filter p ss)
    → (t : Bool) → p s ≡ t → NumbersAscend low (filter p (s ∷ ss))
filter_one p low s ss le more true so =
    (let kept : filter p (s ∷ ss) ≡ s ∷ filter p ss = rw (so, filter) refl in subst (NumbersAscend low) (sym kept) (le, more))
filter_one p low s ss le more false so =
    (let left : filter p (s ∷ ss) ≡ filter p ss = rw (so, filter) refl in
    subst (NumbersAscend low) (sym left) (ascend_from low (s.number + 1) (filter p ss) (omega (arith, le)) more))

ascend_filter : (p : Slice → Bool) (low : ℕ) (ss : List Slice) → NumbersAscend low ss → NumbersAscend low (filter p ss)
ascend_filter p low [] is = tt
ascend_filter p low (s ∷ ss) is = filter_one p low s ss is.0 (ascend_filter p (s.number + 1) ss is.1) (p s) refl

-- none, or one of this number, and then higher ones
one_kind : (n first last : ℕ) (c : Bool) (ss : List Slice) → NumbersAscend (n + 1) ss
    → NumbersAscend n ((if c then slice_from n first last ∷ [] else []) ++ ss)
one_kind n first last true ss is = (omega arith, is)
one_kind n first last false ss is = ascend_from n (n + 1) ss (omega arith) is

entry_then : (n : ℕ) (e : Option Entry) (ss : List Slice) → NumbersAscend (n + 1) ss → NumbersAscend n (entry_slice n e ++ ss)
unfolding entry_slice
entry_then n None ss is = ascend_from n (n + 1) ss (omega arith) is
entry_then n (Some e) ss is =
    subst (λ (l : List Slice). NumbersAscend n (l ++ ss)) (sym (entry_some n e)) (one_kind n e.first e.last (is_slice_kind e.kind.0) ss is)

entries_ascend : (n : ℕ) (es : List (Option Entry)) → NumbersAscend n (entry_slices n es)
unfolding entry_slices entry_slice entries_as
entries_ascend n [] = tt
entries_ascend n (e ∷ es) = entry_then n e (entry_slices (n + 1) es) (entries_ascend (n + 1) es)

record_then : (n at : ℕ) (r : Record) (ss : List Slice) → NumbersAscend (n + 1) ss → NumbersAscend n (record_slice n at r ++ ss)
unfolding record_slice
record_then n at r ss is = one_kind n (at + r.start) (at + r.start + r.size - 1) (nat_eq r.kind 0xA5) ss is

primary_then : (n : ℕ) (r : Option Record) (ss : List Slice) → NumbersAscend (n + 1) ss → NumbersAscend n (primary_slice n r ++ ss)
unfolding primary_slice
primary_then n None ss is = ascend_from n (n + 1) ss (omega arith) is
primary_then n (Some r) ss is =
    subst (λ (l : List Slice). NumbersAscend n (l ++ ss)) (sym (primary_some n r)) (record_then n 0 r ss is)

-- the primary ones, and behind them higher ones
primaries_then : (n : ℕ) (rs : List (Option Record)) (ss : List Slice) → NumbersAscend (n + length rs) ss
    → NumbersAscend n (primary_slices n rs ++ ss)
unfolding primary_slices primary_slice records_as
primaries_then n [] ss is = ascend_from n (n + 0) ss (omega arith) is
primaries_then n (r ∷ rs) ss is =
    let at : n + length (r ∷ rs) ≡ (n + 1) + length rs = omega arith in
    let more = primaries_then (n + 1) rs ss (subst (λ (k : ℕ). NumbersAscend k ss) at is) in
    subst (NumbersAscend n) (sym (append_assoc (primary_slice n r) (primary_slices (n + 1) rs) ss))
    (primary_then n r (primary_slices (n + 1) rs ++ ss) more)

logical_then : (n : ℕ) (e : Ebr) (o : Option Record) (ss : List Slice) → e.logical ≡ o → NumbersAscend (next_number n e) ss
    → NumbersAscend n (logical_slice n e ++ ss)
logical_then n e None ss so is =
    let at : next_number n e ≡ n = next_is n e None so in
    let none : logical_slice n e ≡ [] = logical_none n e so in
    subst (λ (l : List Slice). NumbersAscend n (l ++ ss)) (sym none) (subst (λ (k : ℕ). NumbersAscend k ss) at is)
logical_then n e (Some r) ss so is =
    let at : next_number n e ≡ n + 1 = next_is n e (Some r) so in
    let one : logical_slice n e ≡ record_slice n e.at.0 r = logical_some n e r so in
    subst (λ (l : List Slice). NumbersAscend n (l ++ ss)) (sym one) (record_then n e.at.0 r ss (subst (λ
    (k : ℕ). NumbersAscend k ss) at is))

pub logicals_ascend : (n : ℕ) (chain : List Ebr) → NumbersAscend n (logical_slices n chain)
unfolding logical_slices logical_slice logicals_as next_number
logicals_ascend n [] = tt
logicals_ascend n (e ∷ es) = logical_then n e e.logical (logical_slices (next_number n e) es) refl (logicals_ascend (next_number n e) es)

by_size : (ss : List Slice) (c : Bool) → NumbersAscend 1 ss → NumbersAscend 1 (if c then ss else [])
by_size ss true is = is
by_size ss false is = tt

-- the slices of a body ascend, where an MBR has four records
pub body_ascends_lem : (b : ℕ) (y : Body) → HasFour y → NumbersAscend 1 (slices_of b y)
body_ascends_lem b (Mbr rs chain) four =
    let at : 1 + length rs ≡ 5 = omega (arith, four) in
    subst (NumbersAscend 1) (sym (slices_mbr b rs chain (nat_eq b 512) refl))
    (by_size (primary_slices 1 rs ++ logical_slices 5 chain) (nat_eq b 512)
    (primaries_then 1 rs (logical_slices 5 chain)
    (subst (λ (k : ℕ). NumbersAscend k (logical_slices 5 chain)) (sym at) (logicals_ascend 5 chain))))
body_ascends_lem b (Gpt t) four =
    subst (NumbersAscend 1) (sym (slices_gpt b t (nat_eq b 512) refl))
    (by_size (entry_slices 1 t.entries) (nat_eq b 512) (entries_ascend 1 t.entries))

-- so do those with a label place
pub places_ascend_lem : (b n : ℕ) (y : Body) → HasFour y → NumbersAscend 1 (places_of b n y)
unfolding places_of
places_ascend_lem b n y four = ascend_filter (has_place n) 1 (slices_of b y) (body_ascends_lem b y four)

-- a shaped layout's body is such
pub fits_four : (b n : ℕ) (y : Body) → FitsBody b n y → HasFour y
fits_four b n (Mbr rs chain) fits = fits.four
fits_four b n (Gpt t) fits = tt

pub slices_ascend_lem : (b : ℕ) (o : Layout) → Shaped b o → NumbersAscend 1 (slices_of b o.body)
slices_ascend_lem b o shaped = body_ascends_lem b o.body (fits_four b o.sectors o.body shaped.body)
