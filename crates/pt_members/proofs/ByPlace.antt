-- Lists of members by place.
use Rattle.std.proofs.Common.{◌≡◌, ◌<◌, ◌≤◌, ◌+◌, ℕ, zero, suc, List, [], ◌∷◌, length, get_or, Option, Some, None, refl, sym, ap, subst}
use Rattle.std.proofs.Common.{◌∙◌, arith, true, false, length-append, drop, drop-cons}
use Rattle.std.specs.Prelude.{option_map, if◌then◌else◌, Bool, is_some, take, ◌-◌, cond, nat_eq}
use Rattle.std.proofs.lemmas.List.Sums.{sum_by-cons}
use Rattle.std.proofs.lemmas.List.{get_or_append_left, get_or-append_right, drop_all}
use Rattle.std.proofs.lemmas.Bool.{eq-eqb}
use Rattle.pt_members.specs.declared.layout.Labelled.{Labelled}
use Rattle.pt_members.specs.Members.{records_as, entries_as, logicals_as, record_member, entry_member, logical_member, slots, tops}
use Rattle.pt_members.specs.Members.{logicals, label_of, parts_as, parts_in, part_of, used_before, no_ebr, logical_at, number_at}
use Rattle.pt_bsd.specs.declared.label.Label.{Label}
use Rattle.pt_bsd.specs.declared.label.LabelEntry.{LabelEntry}
use Rattle.pt_mbr.specs.declared.ebr.Ebr.{Ebr}
use Rattle.pt_gpt.specs.declared.table.Table.{Table}
use Rattle.pt_members.specs.declared.layout.Body.{Body}
use Rattle.pt_members.specs.declared.layout.Body.TheVariants.{Mbr, Gpt}
use Rattle.pt_mbr.specs.declared.record.Record.{Record}
use Rattle.pt_gpt.specs.declared.entry.Entry.{Entry}
use Rattle.pt_members.specs.declared.member.Member.{Member}

pub record_at : (b n k : ℕ) (rs : List (Option Record)) → k < length rs
    → get_or (records_as b n rs) k None ≡ option_map (record_member b (n + k)) (get_or rs k None)
unfolding records_as
record_at b n k [] lt = absurd (omega arith)
record_at b n zero (r ∷ rs) lt = ap (λ (m : ℕ). option_map (record_member b m) r) (omega arith)
record_at b n (suc k) (r ∷ rs) lt =
    record_at b (n + 1) k rs (omega arith) ∙ ap (λ (m : ℕ). option_map (record_member b m) (get_or rs k None)) (omega arith)

pub records_len : (b n : ℕ) (rs : List (Option Record)) → length (records_as b n rs) ≡ length rs
unfolding records_as
records_len b n [] = refl
records_len b n (r ∷ rs) = ap (λ (m : ℕ). suc m) (records_len b (n + 1) rs)

pub entry_at : (b n k : ℕ) (es : List (Option Entry)) → k < length es
    → get_or (entries_as b n es) k None ≡ option_map (entry_member b (n + k)) (get_or es k None)
unfolding entries_as
entry_at b n k [] lt = absurd (omega arith)
entry_at b n zero (e ∷ es) lt = ap (λ (m : ℕ). option_map (entry_member b m) e) (omega arith)
entry_at b n (suc k) (e ∷ es) lt =
    entry_at b (n + 1) k es (omega arith) ∙ ap (λ (m : ℕ). option_map (entry_member b m) (get_or es k None)) (omega arith)

pub entries_len : (b n : ℕ) (es : List (Option Entry)) → length (entries_as b n es) ≡ length es
unfolding entries_as
entries_len b n [] = refl
entries_len b n (e ∷ es) = ap (λ (m : ℕ). suc m) (entries_len b (n + 1) es)

numbers : (c : Bool) (n u v : ℕ) → v ≡ (cond c 1 0) + u → (if c then n + 1 else n) + u ≡ n + v
numbers true n u v e = omega arith
numbers false n u v e = omega arith

-- a count up to a place and the one there
pub count_step : (e : Ebr) (k : ℕ) (es : List Ebr) → used_before (suc k) (e ∷ es) ≡ (cond (is_some e.logical) 1 0) + used_before k es
count_step e k es = sum_by-cons (λ (x : Ebr). cond (is_some x.logical) 1 0) e (take k es)

pub logical_at_from : (b n k : ℕ) (es : List Ebr) → k < length es
    → get_or (logicals_as b n es) k None ≡ option_map (logical_member b (n + used_before k es) (get_or es k no_ebr).at.0)
    (get_or es k no_ebr).logical
unfolding logicals_as
logical_at_from b n k [] lt = absurd (omega arith)
logical_at_from b n zero (e ∷ es) lt = ap (λ (m : ℕ). option_map (logical_member b m e.at.0) e.logical) (omega arith)
logical_at_from b n (suc k) (e ∷ es) lt =
    logical_at_from b (if is_some e.logical then n + 1 else n) k es (omega arith)
    ∙ ap (λ (m : ℕ). option_map (logical_member b m (get_or es k no_ebr).at.0) (get_or es k no_ebr).logical)
    (numbers (is_some e.logical) n (used_before k es) (used_before (suc k) (e ∷ es)) (count_step e k es))

pub logicals_len : (b n : ℕ) (es : List Ebr) → length (logicals_as b n es) ≡ length es
unfolding logicals_as
logicals_len b n [] = refl
logicals_len b n (e ∷ es) = ap (λ (m : ℕ). suc m) (logicals_len b (if is_some e.logical then n + 1 else n) es)

pub mbr_len : (b : ℕ) (rs : List (Option Record)) (chain : List Ebr) → length (slots b (Mbr rs chain)) ≡ length rs + length chain
unfolding tops logicals
mbr_len b rs chain = omega (arith, length-append (records_as b 1 rs) (logicals_as b 5 chain), records_len b 1 rs, logicals_len b 5 chain)

pub gpt_len : (b : ℕ) (t : Table) → length (slots b (Gpt t)) ≡ length t.entries
unfolding tops logicals
gpt_len b t = omega (arith, length-append (entries_as b 1 t.entries) [], entries_len b 1 t.entries)

pub mbr_low : (b : ℕ) (rs : List (Option Record)) (chain : List Ebr) (k : ℕ) → k < length rs
    → get_or (slots b (Mbr rs chain)) k None ≡ option_map (record_member b (1 + k)) (get_or rs k None)
unfolding tops logicals
mbr_low b rs chain k lt =
    get_or_append_left (records_as b 1 rs) (logicals_as b 5 chain) None k (omega (arith, records_len b 1 rs)) ∙ record_at b 1 k rs lt

pub mbr_high : (b : ℕ) (rs : List (Option Record)) (chain : List Ebr) (k : ℕ) → length rs ≡ 4 → 4 ≤ k → k < 4 + length chain
    → get_or (slots b (Mbr rs chain)) k None ≡ logical_at b (k - 4) chain
unfolding tops logicals
mbr_high b rs chain k four low high =
    get_or-append_right (records_as b 1 rs) (logicals_as b 5 chain) 4 k None (records_len b 1 rs ∙ four) low
    ∙ logical_at_from b 5 (k - 4) chain (omega arith)

pub gpt_at : (b : ℕ) (t : Table) (k : ℕ) → k < length t.entries
    → get_or (slots b (Gpt t)) k None ≡ option_map (entry_member b (1 + k)) (get_or t.entries k None)
unfolding tops logicals
gpt_at b t k lt =
    get_or_append_left (entries_as b 1 t.entries) [] None k (omega (arith, entries_len b 1 t.entries)) ∙ entry_at b 1 k t.entries lt

other_false : (a b : ℕ) → ¬ (a ≡ b) → nat_eq a b ≡ false
other_false a b ne = grind arith

label_cut : (ls : List Labelled) (k n : ℕ) (z : Labelled) → k < length ls
    → label_of (drop k ls) n ≡ (if nat_eq (get_or ls k z).number n then Some (get_or ls k z).label else label_of (drop (k + 1) ls) n)
unfolding label_of
label_cut ls k n z lt =
    let e : suc k ≡ k + 1 = omega arith in
    ap (λ (l : List Labelled). label_of l n) (drop-cons ls k z lt)
    ∙ ap (λ (m : ℕ). if nat_eq (get_or ls k z).number n then Some (get_or ls k z).label else label_of (drop m ls) n) e

pub label_here : (ls : List Labelled) (k n : ℕ) (z : Labelled) → k < length ls → (get_or ls k z).number ≡ n
    → label_of (drop k ls) n ≡ Some (get_or ls k z).label
label_here ls k n z lt same =
    label_cut ls k n z lt
    ∙ ap (λ (c : Bool). if c then Some (get_or ls k z).label else label_of (drop (k + 1) ls) n) (eq-eqb (get_or ls k z).number n same)

pub label_next : (ls : List Labelled) (k n : ℕ) (z : Labelled) → k < length ls → ¬ ((get_or ls k z).number ≡ n)
    → label_of (drop k ls) n ≡ label_of (drop (k + 1) ls) n
label_next ls k n z lt other =
    label_cut ls k n z lt
    ∙ ap (λ (c : Bool). if c then Some (get_or ls k z).label else label_of (drop (k + 1) ls) n) (other_false (get_or ls k z).number n other)

pub label_end : (ls : List Labelled) (k n : ℕ) → length ls ≤ k → label_of (drop k ls) n ≡ None
unfolding label_of
label_end ls k n past = ap (λ (l : List Labelled). label_of l n) (drop_all k ls past)

parts_from : (l : Label) (m : Member) (n k : ℕ) (es : List (Option LabelEntry)) → k < length es
    → get_or (parts_as l m n es) k None ≡ part_of l m (n + k) (get_or es k None)
unfolding parts_as
parts_from l m n k [] lt = absurd (omega arith)
parts_from l m n zero (e ∷ es) lt = ap (λ (i : ℕ). part_of l m i e) (omega arith)
parts_from l m n (suc k) (e ∷ es) lt =
    let e2 : (n + 1) + k ≡ n + suc k = omega arith in
    parts_from l m (n + 1) k es (omega arith) ∙ ap (λ (i : ℕ). part_of l m i (get_or es k None)) e2

parts_count : (l : Label) (m : Member) (n : ℕ) (es : List (Option LabelEntry)) → length (parts_as l m n es) ≡ length es
unfolding parts_as
parts_count l m n [] = refl
parts_count l m n (e ∷ es) = ap (λ (i : ℕ). suc i) (parts_count l m (n + 1) es)

pub parts_len : (l : Label) (m : Member) → length (parts_in (Some l) m) ≡ length l.entries
unfolding parts_in
parts_len l m = parts_count l m 0 l.entries

pub part_at : (l : Label) (m : Member) (k : ℕ) → k < length l.entries
    → get_or (parts_in (Some l) m) k None ≡ part_of l m k (get_or l.entries k None)
unfolding parts_in
part_at l m k lt =
    let e : 0 + k ≡ k = omega arith in
    parts_from l m 0 k l.entries lt ∙ ap (λ (i : ℕ). part_of l m i (get_or l.entries k None)) e

pub parts_none : (l : Option Label) (m : Member) → l ≡ None → length (parts_in l m) ≡ 0
unfolding parts_in
parts_none l m none = ap (λ (o : Option Label). length (parts_in o m)) none

pub mbr_tops : (b : ℕ) (rs : List (Option Record)) (chain : List Ebr) → length (tops b (Mbr rs chain)) ≡ length rs
unfolding tops
mbr_tops b rs chain = records_len b 1 rs

pub gpt_tops : (b : ℕ) (t : Table) → length (tops b (Gpt t)) ≡ length t.entries
unfolding tops
gpt_tops b t = entries_len b 1 t.entries

pub tops_first : (b : ℕ) (y : Body) → length (tops b y) ≤ length (slots b y)
tops_first b y = omega (arith, length-append (tops b y) (logicals b y))

-- a place of a body that is a GPT's is one of its entries', and of one that is an MBR's stays that
pub within_gpt : (b : ℕ) (y : Body) (t : Table) (k : ℕ) → y ≡ Gpt t → k < length (slots b y) → k < length t.entries
within_gpt b y t k is lt =
    let long : k < length (slots b (Gpt t)) = subst (λ (z : Body). k < length (slots b z)) is lt in omega (arith, long, gpt_len b t)

pub within_mbr : (b : ℕ) (y : Body) (rs : List (Option Record)) (chain l : List Ebr) (k : ℕ) → y ≡ Mbr rs chain → l ≡ chain
    → k < length (slots b y) → k < length (slots b (Mbr rs l))
within_mbr b y rs chain l k is same lt =
    subst (λ (es : List Ebr). k < length (slots b (Mbr rs es))) (sym same) (subst (λ (z : Body). k < length (slots b z)) is lt)

-- an unused entry is no member
pub unused_at : (b : ℕ) (y : Body) (t : Table) (k : ℕ) (l : List (Option Entry)) → y ≡ Gpt t → l ≡ t.entries → k < length (slots b y)
    → get_or l k None ≡ None → get_or (slots b y) k None ≡ None
unused_at b y t k l is same lt none =
    subst (λ (z : Body). get_or (slots b z) k None ≡ None) (sym is) (gpt_at b t k (within_gpt b y t k is lt)
    ∙ ap (option_map (entry_member b (1 + k))) (subst (λ (es : List (Option Entry)). get_or es k None ≡ None) same none))

-- no logical partition comes before the first place
pub from_five : (y : Body) → number_at y 0 ≡ 5
from_five (Mbr rs chain) = refl
from_five (Gpt t) = refl
