-- How logical partitions are numbered along their chain.
use Rattle.std.proofs.Common.{◌≡◌, ◌<◌, ◌+◌, ℕ, true, false, List, length, Option, Some, None, ap, arith}
use Rattle.std.specs.Prelude.{is_some, nat_eq}
use Rattle.std.proofs.lemmas.Bool.{and_from, eq-eqb}
use Rattle.std.proofs.lemmas.List.Sums.{count_by_more_no, count_by_more_yes}
use Rattle.pt_mbr.specs.declared.record.Record.{Record}
use Rattle.pt_mbr.specs.declared.ebr.Ebr.{Ebr}
use Rattle.pt_members.specs.Members.{no_ebr}
use Rattle.pt_edit.specs.Chains.{ebr_at, number_at, is_numbered, place_of, logical_of}
use Rattle.pt_edit.proofs.Ranges.{found_in_range, none_in_range}

-- behind one that has a logical partition the numbers are one higher
pub number_behind : (chain : List Ebr) (k : ℕ) (r : Record) → k < length chain → (ebr_at chain k).logical ≡ Some r
    → number_at chain (k + 1) ≡ number_at chain k + 1
number_behind chain k r within has =
    let e = count_by_more_yes (λ (e : Ebr). is_some e.logical) chain k no_ebr within (ap (λ (o : Option Record). is_some o) has) in
    omega (arith, e)

-- and behind an empty one the same
pub number_kept : (chain : List Ebr) (k : ℕ) → k < length chain → (ebr_at chain k).logical ≡ None
    → number_at chain (k + 1) ≡ number_at chain k
number_kept chain k within has =
    let e = count_by_more_no (λ (e : Ebr). is_some e.logical) chain k no_ebr within (ap (λ (o : Option Record). is_some o) has) in
    omega (arith, e)

-- ## The search for the logical partition of a number.

pub logical_found : (chain : List Ebr) (number k : ℕ) (r : Record) → k < length chain → (ebr_at chain k).logical ≡ Some r
    → number_at chain k ≡ number → ((j : ℕ) → j < k → is_numbered chain number j ≡ false) → logical_of chain number ≡ Some (k, r)
unfolding logical_of
logical_found chain number k r within has counted below =
    let here : is_numbered chain number k ≡ true =
    and_from (is_some (ebr_at chain k).logical) (nat_eq (number_at chain k) number) (ap (λ (o : Option Record). is_some o) has)
    (eq-eqb (number_at chain k) number counted) in
    let place : place_of chain number ≡ Some k =
    found_in_range (is_numbered chain number) 0 (length chain) k (omega arith) (omega arith) (λ j low lt. below j lt) here in
    rw (place, has)

pub logical_none : (chain : List Ebr) (number : ℕ) → ((j : ℕ) → j < length chain → is_numbered chain number j ≡ false)
    → logical_of chain number ≡ None
unfolding logical_of
logical_none chain number all =
    let place : place_of chain number ≡ None =
    none_in_range (is_numbered chain number) 0 (length chain) (λ j low lt. all j (omega arith)) in
    rw place
