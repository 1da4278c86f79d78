-- What stands in the places of partitions, by place.
use Rattle.std.proofs.Common.{◌≡◌, ◌<◌, ◌≤◌, ◌+◌, ◌-◌, ℕ, zero, suc, List, [], ◌∷◌, length, length-append, get_or, map, Option, Some}
use Rattle.std.proofs.Common.{None, refl, sym, ap, subst, ◌∙◌, ◌^◌, arith, ◌++◌, drop, true, false}
use Rattle.std.specs.Prelude.{option_map, option_to_list, flat_map, is_some, MatchOption, IfSome}
use Rattle.std.proofs.lemmas.List.{get_or_append_left, get_or-append_right, get_or-map, length-map, drop_all}
use Rattle.pt_bsd.specs.declared.label.Label.{Label}
use Rattle.pt_gpt.specs.declared.table.Table.{Table}
use Rattle.pt_mbr.specs.declared.ebr.Ebr.{Ebr}
use Rattle.pt_mbr.specs.declared.record.Record.{Record}
use Rattle.pt_members.specs.declared.layout.Body.TheVariants.{Mbr, Gpt}
use Rattle.pt_members.specs.Members.{no_ebr, slots, parts_in, sources, part_sources, row_of, rows_with, rows, part_rows}
use Rattle.pt_members.specs.declared.member.Member.{Member}
use Rattle.pt_members.specs.declared.row.Row.{Row}
use Rattle.pt_members.specs.declared.row.Source.{Source}
use Rattle.pt_members.proofs.ByPlace.{mbr_len, gpt_len, parts_len}
use Rattle.pt_members.specs.declared.layout.Body.{Body}
use Rattle.pt_members.specs.declared.layout.Layout.{Layout}
use Rattle.pt_members.specs.Rows.{rows_at}
use Rattle.pt_members.specs.declared.row.Source.TheVariants as source

pub source_low : (rs : List (Option Record)) (chain : List Ebr) (k : ℕ) → k < length rs
    → get_or (sources (Mbr rs chain)) k None ≡ option_map source.Record (get_or rs k None)
unfolding sources
source_low rs chain k lt =
    get_or_append_left (map (option_map source.Record) rs) (map (λ (e : Ebr). option_map source.Record e.logical) chain) None k
    (omega (arith, lt, length-map rs (option_map source.Record)))
    ∙ get_or-map (option_map source.Record) rs k None None lt

pub source_high : (rs : List (Option Record)) (chain : List Ebr) (k : ℕ) → length rs ≡ 4 → 4 ≤ k → k < 4 + length chain
    → get_or (sources (Mbr rs chain)) k None ≡ option_map source.Record (get_or chain (k - 4) no_ebr).logical
unfolding sources
source_high rs chain k four low high =
    get_or-append_right (map (option_map source.Record) rs) (map (λ (e : Ebr). option_map source.Record e.logical) chain) 4 k None
    (length-map rs (option_map source.Record) ∙ four) low
    ∙ get_or-map (λ (e : Ebr). option_map source.Record e.logical) chain (k - 4) no_ebr None (omega arith)

pub source_entry : (t : Table) (k : ℕ) → k < length t.entries
    → get_or (sources (Gpt t)) k None ≡ option_map source.Entry (get_or t.entries k None)
unfolding sources
source_entry t k lt = get_or-map (option_map source.Entry) t.entries k None None lt

pub source_part : (l : Label) (k : ℕ) → k < length l.entries
    → get_or (part_sources l) k None ≡ option_map source.Part (get_or l.entries k None)
source_part l k lt = get_or-map (option_map source.Part) l.entries k None None lt

sources_len : (b : ℕ) (y : Body) → length (sources y) ≡ length (slots b y)
unfolding sources
sources_len b (Mbr rs chain) =
    let low = length-map rs (option_map source.Record) in
    let high = length-map chain (λ (e : Ebr). option_map source.Record e.logical) in
    omega (
      arith,
      length-append (map (option_map source.Record) rs) (map (λ (e : Ebr). option_map source.Record e.logical) chain),
      low,
      high,
      mbr_len b rs chain,
    )
sources_len b (Gpt t) = omega (arith, length-map t.entries (option_map source.Entry), gpt_len b t)

row_in : (ms : List (Option Member)) (ss : List (Option Source)) (k : ℕ) → k < length ms → length ss ≡ length ms
    → get_or (rows_with ms ss) k None ≡ row_of (get_or ms k None) (get_or ss k None)
unfolding rows_with
row_in [] ss k lt same = absurd (omega (arith, lt))
row_in (m ∷ ms) [] k lt same = absurd (omega (arith, same))
row_in (m ∷ ms) (s ∷ ss) zero lt same = refl
row_in (m ∷ ms) (s ∷ ss) (suc k) lt same = row_in ms ss k (omega (arith, lt)) (omega (arith, same))

-- the row in a place
pub row_there : (b : ℕ) (y : Body) (k : ℕ) (m : Option Member) (s : Option Source) → k < length (slots b y)
    → m ≡ get_or (slots b y) k None → s ≡ get_or (sources y) k None → row_of m s ≡ get_or (rows b y) k None
row_there b y k m s lt is so =
    ap (λ (o : Option Member). row_of o s) is ∙ ap (row_of (get_or (slots b y) k None)) so
    ∙ sym (row_in (slots b y) (sources y) k lt (sources_len b y))

row_of_none : (m : Option Member) → row_of m None ≡ None
row_of_none None = refl
row_of_none (Some m) = refl

pub row_unused : (b : ℕ) (y : Body) (k : ℕ) → k < length (slots b y) → None ≡ get_or (sources y) k None → None ≡ get_or (rows b y) k None
row_unused b y k lt is =
    sym (row_of_none (get_or (slots b y) k None)) ∙ row_there b y k (get_or (slots b y) k None) None lt refl is

pub row_small : (m : Option Member) (s : Option Source) (r : Option Row) → IfSome m (λ (x : Member). x.first < 2 ^ 66)
    → r ≡ row_of m s → IfSome r (λ (x : Row). x.member.first < 2 ^ 66)
row_small None s r small is = subst (λ (o : Option Row). IfSome o (λ (x : Row). x.member.first < 2 ^ 66)) (sym is) tt
row_small (Some m) None r small is = subst (λ (o : Option Row). IfSome o (λ (x : Row). x.member.first < 2 ^ 66)) (sym is) tt
row_small (Some m) (Some s) r small is = subst (λ (o : Option Row). IfSome o (λ (x : Row). x.member.first < 2 ^ 66)) (sym is) small

-- and of a letter
pub part_row_there : (l : Label) (slice : Member) (k : ℕ) (m : Option Member) (s : Option Source) → k < length l.entries
    → m ≡ get_or (parts_in (Some l) slice) k None → s ≡ get_or (part_sources l) k None
    → row_of m s ≡ get_or (part_rows l slice) k None
part_row_there l slice k m s lt is so =
    ap (λ (o : Option Member). row_of o s) is ∙ ap (row_of (get_or (parts_in (Some l) slice) k None)) so
    ∙ sym (row_in (parts_in (Some l) slice) (part_sources l) k (omega (arith, lt, parts_len l slice))
    (omega (arith, length-map l.entries (option_map source.Part), parts_len l slice)))

-- ## The rows from a place on.

abbrev pub left_from : {X : Type 0} → ℕ → List (Option X) → List X
left_from k os = flat_map option_to_list (drop k os)

suc_more : {X : Type 0} (k : ℕ) (os : List (Option X)) → left_from (suc k) os ≡ left_from (k + 1) os
suc_more k os = let more : suc k ≡ k + 1 = omega arith in ap (λ (n : ℕ). left_from n os) more

left_cut : {X : Type 0} (os : List (Option X)) (k : ℕ) → left_from k os ≡ option_to_list (get_or os k None) ++ left_from (suc k) os
left_cut [] zero = refl
left_cut [] (suc k) = refl
left_cut (o ∷ os) zero = refl
left_cut (o ∷ os) (suc k) = left_cut os k

left_step : {X : Type 0} (os : List (Option X)) (k : ℕ) (o : Option X) → o ≡ get_or os k None
    → left_from k os ≡ option_to_list o ++ left_from (k + 1) os
left_step os k o is =
    left_cut os k ∙ ap (λ (l : List _). option_to_list (get_or os k None) ++ l) (suc_more k os)
    ∙ ap (λ (p : Option _). option_to_list p ++ left_from (k + 1) os) (sym is)

-- a place that is used gives its row
pub left_used : {X : Type 0} (os : List (Option X)) (k : ℕ) (o : Option X) (old : List X) → is_some o ≡ true → o ≡ get_or os k None
    → left_from k os ≡ old → MatchOption o ((old ≡ []) × (left_from (k + 1) os ≡ [])) (λ (r : X). old ≡ r ∷ left_from (k + 1) os)
left_used os k None old some is was = absurd (grind (arith, some))
left_used os k (Some r) old some is was = sym was ∙ left_step os k (Some r) is

-- another is passed by
pub left_unused : {X : Type 0} (os : List (Option X)) (k : ℕ) (o : Option X) (old : List X) → is_some o ≡ false → o ≡ get_or os k None
    → left_from k os ≡ old → left_from (k + 1) os ≡ old
left_unused os k None old none is was = sym (left_step os k None is) ∙ was
left_unused os k (Some r) old none is was = absurd (grind (arith, none))

-- there is no row behind the last place
rows_most : (ms : List (Option Member)) (ss : List (Option Source)) → length (rows_with ms ss) ≤ length ms
unfolding rows_with
rows_most [] ss = omega arith
rows_most (m ∷ ms) [] = omega arith
rows_most (m ∷ ms) (s ∷ ss) = omega (arith, rows_most ms ss)

pub left_end : (b : ℕ) (y : Body) (k : ℕ) → length (slots b y) ≤ k → left_from k (rows b y) ≡ []
left_end b y k past = ap (flat_map option_to_list) (drop_all k (rows b y) (omega (arith, past, rows_most (slots b y) (sources y))))

pub members_end : (b : ℕ) (y : Body) (k : ℕ) → length (slots b y) ≤ k → left_from k (slots b y) ≡ []
members_end b y k past = ap (flat_map option_to_list) (drop_all k (slots b y) past)

pub part_members_end : (l : Label) (m : Member) (k : ℕ) → length l.entries ≡ 8 → 8 ≤ k → left_from k (parts_in (Some l) m) ≡ []
part_members_end l m k counted past =
    ap (flat_map option_to_list) (drop_all k (parts_in (Some l) m) (omega (arith, counted, past, parts_len l m)))

pub parts_end : (l : Label) (m : Member) (k : ℕ) → length l.entries ≡ 8 → 8 ≤ k → left_from k (part_rows l m) ≡ []
parts_end l m k counted past =
    ap (flat_map option_to_list) (drop_all k (part_rows l m)
    (omega (arith, counted, past, parts_len l m, rows_most (parts_in (Some l) m) (part_sources l))))

-- those below each, with those of its place
pub placed_rows : (o : Layout) (os : List (Option Row))
    → flat_map (λ (r : Row). rows_at o (Some r)) (flat_map option_to_list os) ≡ flat_map (rows_at o) os
placed_rows o [] = refl
placed_rows o (None ∷ os) = placed_rows o os
placed_rows o (Some r ∷ os) = ap (λ (l : List Row). rows_at o (Some r) ++ l) (placed_rows o os)
