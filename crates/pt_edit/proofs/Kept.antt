-- Lemmas on specs/Entries.antt: the partitions of an MBR are its members but the extended one.
use Rattle.std.specs.Prelude.{◌≡◌, ◌+◌, ◌-◌, ℕ, Bool, true, false, cond, List, [], ◌∷◌, ◌++◌, map, filter, option_map, option_to_list}
use Rattle.std.specs.Prelude.{length, is_some, Option, Some, None, if◌then◌else◌}
use Rattle.std.proofs.Common.{refl, sym, ap, ◌∙◌, arith}
use Rattle.std.proofs.lemmas.List.{map-append, length-map}
use Rattle.std.proofs.lemmas.List.Elements.{filter-append}
use Rattle.std.proofs.lemmas.Grind.{flat_map-append}
use Rattle.pt_mbr.specs.declared.record.Record.{Record}
use Rattle.pt_mbr.specs.declared.ebr.Ebr.{Ebr}
use Rattle.pt_mbr.specs.Records.{is_extended}
use Rattle.pt_members.proofs.SliceListsLemmas.{next_number}
use Rattle.pt_members.specs.declared.layout.Body.TheVariants.{Mbr}
use Rattle.pt_members.specs.declared.member.Kind.{Kind}
use Rattle.pt_members.specs.declared.member.Kind.TheVariants.{Extended}
use Rattle.pt_members.specs.declared.member.Member.{Member}
use Rattle.pt_members.specs.Members.{number_path, logical_kind, record_member, logical_member, records_as, logicals_as, present, slots}
use Rattle.pt_members.specs.Members.{tops, logicals}
use Rattle.pt_members.proofs.Grouped.{kind_extended}
use Rattle.pt_edit.specs.Entries.{partitions, member_of, is_kept_kind, is_kept}
use Rattle.pt_edit.specs.declared.partitions.Partition.{Partition}
use Rattle.pt_edit.proofs.PartsLemmas.{partition_of, primary, primaries, logical_in, logical, logicals_from, other_kind, logical_kept}
use Rattle.pt_edit.proofs.PartsLemmas.{next_same, partitions_mbr}

kept_list : (m : Member) → is_kept m ≡ true → filter is_kept (m ∷ []) ≡ m ∷ []
kept_list m is = ap (λ (c : Bool). cond c (m ∷ []) []) is

dropped_list : (m : Member) → m.kind ≡ Extended → filter is_kept (m ∷ []) ≡ []
dropped_list m is = ap (λ (k : Kind). cond (is_kept_kind k) (m ∷ []) []) is

same_member : (b n : ℕ) (r : Record) → is_extended r.kind ≡ false → record_member b n r ≡ member_of b (partition_of n 0 r)
same_member b n r is =
    let start : r.start ≡ 0 + r.start = omega arith in
    ap (λ (k : Kind). record { path = number_path n; kind = k; first = r.start; last = r.start + r.size - 1 }) (other_kind b r.kind is)
    ∙ ap (λ (s : ℕ). record { path = number_path n; kind = logical_kind b r.kind; first = s; last = s + r.size - 1 }) start

one_record : (b n : ℕ) (r : Option Record)
    → filter is_kept (option_to_list (option_map (record_member b n) r)) ≡ map (member_of b) (primary n r)
unfolding primary
one_record b n None = refl
one_record b n (Some r) = by_case (is_extended r.kind) refl where
  by_case : (c : Bool) → is_extended r.kind ≡ c
      → filter is_kept (option_to_list (option_map (record_member b n) (Some r))) ≡ map (member_of b) (primary n (Some r))
  by_case true is =
      dropped_list (record_member b n r) (kind_extended b r.kind is)
      ∙ sym (ap (λ (c : Bool). map (member_of b) (if c then [] else partition_of n 0 r ∷ [])) is)
  by_case false is =
      let kept : is_kept (record_member b n r) ≡ true = ap is_kept_kind (other_kind b r.kind is) ∙ logical_kept b r.kind in
      kept_list (record_member b n r) kept
      ∙ (ap (λ (m : Member). m ∷ []) (same_member b n r is)
      ∙ sym (ap (λ (c : Bool). map (member_of b) (if c then [] else partition_of n 0 r ∷ [])) is))

one_logical : (b n at : ℕ) (o : Option Record)
    → option_to_list (option_map (logical_member b n at) o) ≡ map (member_of b) (logical_in n at o)
one_logical b n at None = refl
one_logical b n at (Some r) = refl

one_ebr : (b n : ℕ) (e : Ebr) → option_to_list (option_map (logical_member b n e.at.0) e.logical) ≡ map (member_of b) (logical n e)
unfolding logical
one_ebr b n e = one_logical b n e.at.0 e.logical

records_kept : (b n : ℕ) (rs : List (Option Record)) → filter is_kept (present (records_as b n rs)) ≡ map (member_of b) (primaries n rs)
unfolding records_as primaries
records_kept b n [] = refl
records_kept b n (r ∷ rs) =
    filter-append is_kept (option_to_list (option_map (record_member b n) r)) (present (records_as b (n + 1) rs))
    ∙ (ap (λ (l : List Member). l ++ filter is_kept (present (records_as b (n + 1) rs))) (one_record b n r)
    ∙ (ap (λ (l : List Member). map (member_of b) (primary n r) ++ l) (records_kept b (n + 1) rs)
    ∙ sym (map-append (member_of b) (primary n r) (primaries (n + 1) rs))))

-- logical partitions are all kept
chain_present : (b n : ℕ) (es : List Ebr) → present (logicals_as b n es) ≡ map (member_of b) (logicals_from n es)
unfolding logicals_as logicals_from
chain_present b n [] = refl
chain_present b n (e ∷ es) =
    let m = if is_some e.logical then n + 1 else n in
    ap (λ (l : List Member). l ++ present (logicals_as b m es)) (one_ebr b n e)
    ∙ (ap (λ (l : List Member). map (member_of b) (logical n e) ++ l) (chain_present b m es)
    ∙ (ap (λ (k : ℕ). map (member_of b) (logical n e) ++ map (member_of b) (logicals_from k es)) (next_same n e)
    ∙ sym (map-append (member_of b) (logical n e) (logicals_from (next_number n e) es))))

all_kept : (b : ℕ) (ps : List Partition) → filter is_kept (map (member_of b) ps) ≡ map (member_of b) ps
all_kept b [] = refl
all_kept b (p ∷ ps) =
    let others = filter is_kept (map (member_of b) ps) in
    ap (λ (c : Bool). cond c (member_of b p ∷ others) others) (logical_kept b p.kind)
    ∙ ap (λ (l : List Member). member_of b p ∷ l) (all_kept b ps)

-- as many of them as of partitions
pub logicals_same : (b n : ℕ) (es : List Ebr) → length (present (logicals_as b n es)) ≡ length (logicals_from n es)
logicals_same b n es =
    ap (λ (l : List Member). length l) (chain_present b n es) ∙ length-map (logicals_from n es) (member_of b)

-- the members without a letter but the extended partition, in order
pub kept_lem : (b : ℕ) (rs : List (Option Record)) (chain : List Ebr)
    → filter is_kept (present (slots b (Mbr rs chain))) ≡ map (member_of b) (partitions (Mbr rs chain))
unfolding tops logicals
kept_lem b rs chain =
    ap (filter is_kept) (flat_map-append option_to_list (records_as b 1 rs) (logicals_as b 5 chain))
    ∙ (filter-append is_kept (present (records_as b 1 rs)) (present (logicals_as b 5 chain))
    ∙ (ap (λ (l : List Member). l ++ filter is_kept (present (logicals_as b 5 chain))) (records_kept b 1 rs)
    ∙ (ap (λ (l : List Member). map (member_of b) (primaries 1 rs) ++ l)
    (ap (filter is_kept) (chain_present b 5 chain) ∙ all_kept b (logicals_from 5 chain))
    ∙ (sym (map-append (member_of b) (primaries 1 rs) (logicals_from 5 chain))
    ∙ ap (map (member_of b)) (sym (partitions_mbr rs chain))))))
