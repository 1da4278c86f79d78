-- The slices with a label place, one place more at a time.
use Rattle.std.proofs.Common.{◌≡◌, ◌<◌, ◌≤◌, ◌+◌, ℕ, List, [], ◌∷◌, ◌++◌, length, get_or, take, filter, Option, None, sym, ap, ◌∙◌, Some}
use Rattle.std.proofs.Common.{refl, subst, inl, inr, ⊎_elim, append-nil, arith, map, true, ◌^◌}
use Rattle.std.specs.Prelude.{◌⊎◌, flat_map, All}
use Rattle.std.proofs.lemmas.List.{map-append, take_more, take_all}
use Rattle.std.proofs.lemmas.List.Elements.{filter-append, filter_passes}
use Rattle.std.proofs.lemmas.Grind.{flat_map-append}
use Rattle.pt_members.specs.declared.layout.Slice.{Slice}
use Rattle.pt_members.specs.declared.layout.Body.{Body}
use Rattle.pt_members.specs.declared.layout.Body.TheVariants.{Gpt}
use Rattle.pt_gpt.specs.declared.entry.Entry.{Entry}
use Rattle.pt_gpt.specs.declared.table.Table.{Table}
use Rattle.pt_members.specs.declared.member.Kind.{Kind}
use Rattle.pt_members.specs.declared.member.Kind.TheVariants as kind
use Rattle.pt_members.specs.declared.member.Member.{Member}
use Rattle.pt_members.specs.Members.{slots, slice_of, slice_in, slices_of, has_place, place_of, places_of, IsPlace}
use Rattle.pt_members.specs.Members.{entries_as, tops, logicals, present}
use Rattle.pt_members.specs.declared.row.Row.{Row}
use Rattle.pt_members.specs.Rows.{body_rows, member_of}
use Rattle.pt_members.proofs.RowMembers.{body_members}
use Rattle.pt_members.specs.inner.Members.{placed_in}
use Rattle.pt_members.specs.Tables.{NextSectorIs, least_of}
use Rattle.pt_members.proofs.Lowest.{next_same, next_or}

-- those of the first k places
abbrev pub placed_before : ℕ → List (Option Member) → ℕ → List Slice
placed_before n os k = filter (has_place n) (flat_map slice_in (take k os))

one_more : (n k : ℕ) (os : List (Option Member)) → k < length os
    → placed_before n os (k + 1) ≡ placed_before n os k ++ placed_in n (get_or os k None)
one_more n k os lt =
    let there = flat_map slice_in (take k os) in
    let here = slice_in (get_or os k None) in
    ap (λ (l : List (Option Member)). filter (has_place n) (flat_map slice_in l)) (take_more os k None lt)
    ∙ ap (filter (has_place n)) (flat_map-append slice_in (take k os) (get_or os k None ∷ [])
    ∙ ap (λ (l : List Slice). there ++ l) (append-nil here)) ∙ filter-append (has_place n) there here

pub placed_more : (n k : ℕ) (os : List (Option Member)) (ss : List Slice) → k < length os
    → ss ≡ placed_before n os k ++ placed_in n (get_or os k None) → ss ≡ placed_before n os (k + 1)
placed_more n k os ss lt is = is ∙ sym (one_more n k os lt)

pub all_placed : (n k : ℕ) (os : List (Option Member)) → length os ≤ k
    → placed_before n os k ≡ filter (has_place n) (flat_map slice_in os)
all_placed n k os past = ap (λ (l : List (Option Member)). filter (has_place n) (flat_map slice_in l)) (take_all k os past)

-- the slices with a label place among partitions
abbrev pub placed_among : ℕ → List Member → List Slice
placed_among n ms = filter (has_place n) (flat_map slice_of ms)

pub among_more : (n : ℕ) (ms : List Member) (m : Member)
    → placed_among n (ms ++ m ∷ []) ≡ placed_among n ms ++ filter (has_place n) (slice_of m)
among_more n ms m =
    let there = flat_map slice_of ms in
    ap (filter (has_place n)) (flat_map-append slice_of ms (m ∷ []) ∙ ap (λ (l : List Slice). there ++ l) (append-nil (slice_of m)))
    ∙ filter-append (has_place n) there (slice_of m)

present_slices : (os : List (Option Member)) → flat_map slice_of (present os) ≡ flat_map slice_in os
present_slices [] = refl
present_slices (None ∷ os) = present_slices os
present_slices (Some m ∷ os) = ap (λ (l : List Slice). slice_of m ++ l) (present_slices os)

pub among_all : (b n : ℕ) (y : Body) → placed_among n (present (slots b y)) ≡ places_of b n y
unfolding places_of slices_of
among_all b n y = ap (filter (has_place n)) (present_slices (slots b y))

-- those among the entries of a GPT
pub gpt_places : (b n : ℕ) (y : Body) (t : Table) (es : List (Option Entry)) → y ≡ Gpt t → es ≡ t.entries
    → filter (has_place n) (flat_map slice_in (entries_as b 1 es)) ≡ places_of b n y
unfolding places_of slices_of tops logicals
gpt_places b n y t es is same =
    rw (is, same) (ap (λ (l : List (Option Member)). filter (has_place n) (flat_map slice_in l))
    (sym (append-nil (entries_as b 1 t.entries))))

place_split : (ps qs : List Slice) (s : ℕ) → IsPlace (ps ++ qs) s → IsPlace ps s ⊎ IsPlace qs s
place_split [] qs s is = inr is
place_split (p ∷ ps) qs s (inl here) = inl (inl here)
place_split (p ∷ ps) qs s (inr there) =
    elim (place_split ps qs s there) as (λ _. IsPlace (p ∷ ps) s ⊎ IsPlace qs s) [ inl x ↦ inl (inr x) | inr x ↦ inr x ]

place_joined : (ps qs : List Slice) (s : ℕ) → IsPlace ps s ⊎ IsPlace qs s → IsPlace (ps ++ qs) s
place_joined [] qs s (inl none) = absurd none
place_joined [] qs s (inr there) = there
place_joined (p ∷ ps) qs s (inl (inl here)) = inl here
place_joined (p ∷ ps) qs s (inl (inr there)) = inr (place_joined ps qs s (inl there))
place_joined (p ∷ ps) qs s (inr there) = inr (place_joined ps qs s (inr there))

-- what isn't a slice has no place
pub no_slice : (n : ℕ) (m : Member) → ¬ (m.kind ≡ kind.Slice) → filter (has_place n) (slice_of m) ≡ []
no_slice n m other = by_kind m.kind refl where
  by_kind : (k : Kind) → m.kind ≡ k → filter (has_place n) (slice_of m) ≡ []
  by_kind kind.Leaf is = rw is refl
  by_kind kind.Slice is = absurd (other is)
  by_kind kind.Extended is = rw is refl

-- the lowest label place of two lists
pub lowest_joined : (from : ℕ) (ps qs : List Slice) (a b : Option ℕ) → NextSectorIs (IsPlace ps) from a → NextSectorIs (IsPlace qs) from b
    → NextSectorIs (IsPlace (ps ++ qs)) from (least_of a b)
lowest_joined from ps qs a b p q =
    next_same (λ (s : ℕ). IsPlace ps s ⊎ IsPlace qs s) (IsPlace (ps ++ qs)) from (least_of a b) (place_joined ps qs) (place_split ps qs)
    (next_or (IsPlace ps) (IsPlace qs) from a b p q)

-- of one place more
pub lowest_more : (n k from : ℕ) (os : List (Option Member)) (a b : Option ℕ) → k < length os
    → NextSectorIs (IsPlace (placed_before n os k)) from a → NextSectorIs (IsPlace (placed_in n (get_or os k None))) from b
    → NextSectorIs (IsPlace (placed_before n os (k + 1))) from (least_of a b)
lowest_more n k from os a b lt p q =
    subst (λ (l : List Slice). NextSectorIs (IsPlace l) from (least_of a b)) (sym (one_more n k os lt))
    (lowest_joined from (placed_before n os k) (placed_in n (get_or os k None)) a b p q)

-- of one partition more
pub lowest_among : (n from : ℕ) (ms : List Member) (m : Member) (a b : Option ℕ) → NextSectorIs (IsPlace (placed_among n ms)) from a
    → NextSectorIs (IsPlace (filter (has_place n) (slice_of m))) from b
    → NextSectorIs (IsPlace (placed_among n (ms ++ m ∷ []))) from (least_of a b)
lowest_among n from ms m a b p q =
    subst (λ (l : List Slice). NextSectorIs (IsPlace l) from (least_of a b)) (sym (among_more n ms m))
    (lowest_joined from (placed_among n ms) (filter (has_place n) (slice_of m)) a b p q)

-- the lowest of one label place
pub next_place : (ps : List Slice) (p : Slice) (from : ℕ) (r : Option ℕ) → p ∷ [] ≡ ps → NextSectorIs (λ s. s ≡ place_of p) from r
    → NextSectorIs (IsPlace ps) from r
next_place ps p from r same x = subst (λ (l : List Slice). NextSectorIs (IsPlace l) from r) same (alone r x) where
  alone : (r : Option ℕ) → NextSectorIs (λ s. s ≡ place_of p) from r → NextSectorIs (IsPlace (p ∷ [])) from r
  alone None none = λ u low at. ⊎_elim (none u low) (λ no. no) at
  alone (Some t) next = (inl next.0, next.1, λ u low less at. ⊎_elim (next.2 u low less) (λ no. no) at)

abbrev pub no_place : Slice
no_place = record { number = 0; first = 0; len = 0 }

-- one more of some places
pub place_more : (ps : List Slice) (k s : ℕ) (z : Slice) → k < length ps → IsPlace (take (k + 1) ps) s
    → IsPlace (take k ps) s ⊎ (s ≡ place_of (get_or ps k z))
place_more ps k s z lt is =
    elim (place_split (take k ps) (get_or ps k z ∷ []) s (subst (λ (l : List Slice). IsPlace l s) (take_more ps k z lt) is))
    as (λ _. IsPlace (take k ps) s ⊎ (s ≡ place_of (get_or ps k z))) [
      | inl x ↦ inl x
      | inr x ↦ ⊎_elim (λ here. inr here) (λ no. absurd no) x
    ]

pub place_back : (ps : List Slice) (k s : ℕ) (z : Slice) → k < length ps → IsPlace (take k ps) s ⊎ (s ≡ place_of (get_or ps k z))
    → IsPlace (take (k + 1) ps) s
place_back ps k s z lt is =
    subst (λ (l : List Slice). IsPlace l s) (sym (take_more ps k z lt)) (place_joined (take k ps) (get_or ps k z ∷ []) s
    (⊎_elim (λ x. inl x) (λ x. inr (inl x)) is))

-- a label place is one of the disk's sectors
place_small : (n : ℕ) (p : Slice) → n < 2 ^ 64 → has_place n p ≡ true → p.first + 1 < 2 ^ 64
place_small n p small has = grind arith

all_on : (P Q : Slice → Type 0) → ((p : Slice) → P p → Q p) → (ps : List Slice) → All P ps → All Q ps
all_on P Q on ps all = λ k d lt. on _ (all k d lt)

pub places_small : (b n : ℕ) (y : Body) → n < 2 ^ 64 → All (λ p. p.first + 1 < 2 ^ 64) (places_of b n y)
unfolding places_of
places_small b n y small =
    all_on (λ p. has_place n p ≡ true) (λ p. p.first + 1 < 2 ^ 64) (λ p has. place_small n p small has)
    (filter (has_place n) (slices_of b y))
    (filter_passes (has_place n) (slices_of b y))
