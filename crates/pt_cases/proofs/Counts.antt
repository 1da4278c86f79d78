-- How many label places a layout has.
use Rattle.std.proofs.Common.{◌≡◌, ℕ, ◌+◌, ◌≤◌, List, [], ◌∷◌, length, arith, length-append, Option, Some, None}
use Rattle.std.specs.Prelude.{flat_map}
use Rattle.std.proofs.lemmas.List.Sums.{length-filter, count_by-le-length}
use Rattle.pt_gpt.specs.declared.table.Table.{Table}
use Rattle.pt_mbr.specs.declared.ebr.Ebr.{Ebr}
use Rattle.pt_mbr.specs.declared.record.Record.{Record}
use Rattle.pt_members.specs.Members.{slots, slice_from, slice_as, slice_in, slices_of, has_place, places_of}
use Rattle.pt_members.specs.declared.layout.Body.{Body}
use Rattle.pt_members.specs.declared.layout.Body.TheVariants.{Mbr, Gpt}
use Rattle.pt_members.specs.declared.layout.Slice.{Slice}
use Rattle.pt_members.specs.declared.member.Kind.{Kind}
use Rattle.pt_members.specs.declared.member.Kind.TheVariants as kind
use Rattle.pt_members.specs.declared.member.Member.{Member}
use Rattle.pt_members.proofs.ByPlace.{mbr_len, gpt_len}

few_kind : (k : Kind) (s : Slice) → length (slice_as k s) ≤ 1
few_kind kind.Leaf s = omega arith
few_kind kind.Slice s = omega arith
few_kind kind.Extended s = omega arith

few_one : (o : Option Member) → length (slice_in o) ≤ 1
few_one None = omega arith
few_one (Some m) = few_kind m.kind (slice_from m.path.number m.first m.last)

few_slices : (os : List (Option Member)) → length (flat_map slice_in os) ≤ length os
few_slices [] = omega arith
few_slices (o ∷ os) =
    let one = few_one o in
    let later = few_slices os in
    omega (arith, one, later, length-append (slice_in o) (flat_map slice_in os))

few_places : (b n : ℕ) (y : Body) → length (places_of b n y) ≤ length (slots b y)
unfolding places_of slices_of
few_places b n y =
    let slices = flat_map slice_in (slots b y) in
    omega (arith, few_slices (slots b y), length-filter (has_place n) slices, count_by-le-length (has_place n) slices)

-- a GPT has no more than its entries
pub few_gpt_places : (b n : ℕ) (t : Table) → length (places_of b n (Gpt t)) ≤ length t.entries
few_gpt_places b n t = omega (arith, few_places b n (Gpt t), gpt_len b t)

-- an MBR no more than its records and its chain
pub few_mbr_places : (b n : ℕ) (records : List (Option Record)) (chain : List Ebr)
    → length (places_of b n (Mbr records chain)) ≤ length records + length chain
few_mbr_places b n records chain = omega (arith, few_places b n (Mbr records chain), mbr_len b records chain)

-- four records and a chain of at most 128
pub most_mbr_places : (b n : ℕ) (records : List (Option Record)) (chain : List Ebr) → length records ≡ 4 → length chain ≤ 128
    → length (places_of b n (Mbr records chain)) ≤ 132
most_mbr_places b n records chain four most = (let few = few_mbr_places b n records chain in omega (arith, few, four, most))
