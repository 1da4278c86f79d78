-- Members that are present: those of a label place by place, and of a table's places the records or entries in front.
use Rattle.std.proofs.Common.{◌≡◌, ◌<◌, ◌≤◌, ◌+◌, ℕ, List, [], ◌∷◌, ◌++◌, length, get_or, take, drop, Option, Some, None, refl, sym}
use Rattle.std.proofs.Common.{ap, ◌∙◌, arith, append-nil, length-append}
use Rattle.std.specs.Prelude.{cond, count_by, is_some, option_to_list}
use Rattle.std.proofs.Math.Seq.{drop-append_seam, take-append_seam}
use Rattle.std.proofs.lemmas.List as list
use Rattle.std.proofs.lemmas.List.{take_all}
use Rattle.std.proofs.lemmas.List.Sums.{sum_by-cons}
use Rattle.std.proofs.lemmas.Grind.{flat_map-append}
use Rattle.pt_bsd.specs.declared.label.Label.{Label}
use Rattle.pt_gpt.specs.declared.table.Table.{Table}
use Rattle.pt_mbr.specs.declared.ebr.Ebr.{Ebr}
use Rattle.pt_mbr.specs.declared.record.Record.{Record}
use Rattle.pt_members.specs.declared.layout.Body.{Body}
use Rattle.pt_members.specs.declared.layout.Body.TheVariants.{Mbr, Gpt}
use Rattle.pt_members.specs.declared.member.Member.{Member}
use Rattle.pt_members.specs.Members.{present, slots, tops, logicals, parts_in, records_as}
use Rattle.pt_members.proofs.ByPlace.{parts_len, parts_none}

-- ## The records or entries come first.

in_order : (b : ℕ) (y : Body) → present (slots b y) ≡ present (tops b y) ++ present (logicals b y)
in_order b y = flat_map-append option_to_list (tops b y) (logicals b y)

pub tops_first : (b : ℕ) (y : Body) (n : ℕ) (ms : List Member) → ms ≡ present (slots b y) → n ≡ length (present (tops b y))
    → take n ms ≡ present (tops b y)
tops_first b y n ms is all = rw (is, all, in_order b y) (take-append_seam (present (tops b y)) (present (logicals b y)))

pub logicals_behind : (b : ℕ) (y : Body) (n : ℕ) (ms : List Member) → ms ≡ present (slots b y) → n ≡ length (present (tops b y))
    → drop n ms ≡ present (logicals b y)
logicals_behind b y n ms is all = rw (is, all, in_order b y) (drop-append_seam (present (tops b y)) (present (logicals b y)))

pub tops_within : (b : ℕ) (y : Body) (ms : List Member) → ms ≡ present (slots b y) → length (present (tops b y)) ≤ length ms
tops_within b y ms is =
    rw (is, in_order b y) (omega (arith, length-append (present (tops b y)) (present (logicals b y))))

pub ruleset split = (tops_within, tops_first, logicals_behind)

used : (b n : ℕ) (rs : List (Option Record)) → length (present (records_as b n rs)) ≡ count_by is_some rs
unfolding records_as
used b n [] = refl
used b n (None ∷ rs) = used b (n + 1) rs
used b n (Some r ∷ rs) =
    omega (arith, used b (n + 1) rs, sum_by-cons (λ (o : Option Record). cond (is_some o) 1 0) (Some r) rs)

pub used_records : (b : ℕ) (rs : List (Option Record)) (chain : List Ebr)
    → length (present (tops b (Mbr rs chain))) ≡ count_by is_some rs
unfolding tops
used_records b rs chain = used b 1 rs

pub all_entries : (b : ℕ) (t : Table) → present (slots b (Gpt t)) ≡ present (tops b (Gpt t))
unfolding tops logicals
all_entries b t = in_order b (Gpt t) ∙ append-nil (present (tops b (Gpt t)))

-- ## The partitions of a label, one place more at a time.

take_more : (xs : List (Option Member)) (k : ℕ) → k < length xs
    → present (take k xs) ++ option_to_list (get_or xs k None) ≡ present (take (k + 1) xs)
take_more xs k lt =
    let o = get_or xs k None in
    ap (λ (l : List Member). present (take k xs) ++ l) (sym (append-nil (option_to_list o)))
    ∙ sym (flat_map-append option_to_list (take k xs) (o ∷ []))
    ∙ ap present (sym (list.take_more xs k None lt))

empty : {X : Type 0} (xs : List X) → length xs ≡ 0 → xs ≡ []
empty [] is = refl
empty (x ∷ xs) is = absurd (omega arith)

pub no_parts : (l : Option Label) (m : Member) → l ≡ None → present (parts_in l m) ≡ []
no_parts l m none = ap present (empty (parts_in l m) (parts_none l m none))

-- one part more of a label
pub part_more : (l : Label) (m : Member) (k : ℕ) → k < 8 → length l.entries ≡ 8
    → present (take k (parts_in (Some l) m)) ++ option_to_list (get_or (parts_in (Some l) m) k None)
    ≡ present (take (k + 1) (parts_in (Some l) m))
part_more l m k lt eight = take_more (parts_in (Some l) m) k (omega (arith, lt, eight, parts_len l m))

pub part_end : (l : Label) (m : Member) (k : ℕ) → 8 ≤ k → length l.entries ≡ 8
    → present (take k (parts_in (Some l) m)) ≡ present (parts_in (Some l) m)
part_end l m k past eight = ap present (take_all k (parts_in (Some l) m) (omega (arith, past, eight, parts_len l m)))
