-- The rows of a layout are its partitions, each with what stands in its place.
use Rattle.std.proofs.Common.{◌≡◌, ℕ, ◌+◌, List, [], ◌∷◌, ◌++◌, map, ap, ◌∙◌, sym, refl, subst, Option, Some, None, append-nil}
use Rattle.std.specs.Prelude.{flat_map, is_some, option_map, option_to_list, if◌then◌else◌}
use Rattle.std.proofs.lemmas.List.{map-append}
use Rattle.pt_bsd.specs.declared.label.Label.{Label}
use Rattle.pt_bsd.specs.declared.label.LabelEntry.{LabelEntry}
use Rattle.pt_gpt.specs.declared.entry.Entry.{Entry}
use Rattle.pt_mbr.specs.declared.ebr.Ebr.{Ebr}
use Rattle.pt_mbr.specs.declared.record.Record.{Record}
use Rattle.pt_members.specs.declared.layout.Body.{Body}
use Rattle.pt_members.specs.declared.layout.Body.TheVariants.{Mbr, Gpt}
use Rattle.pt_members.specs.declared.layout.Layout.{Layout}
use Rattle.pt_members.specs.declared.member.Kind.{Kind}
use Rattle.pt_members.specs.declared.member.Kind.TheVariants.{Leaf, Slice, Extended}
use Rattle.pt_members.specs.declared.member.Member.{Member}
use Rattle.pt_members.specs.declared.row.Source.{Source}
use Rattle.pt_members.specs.declared.row.Source.TheVariants as source
use Rattle.pt_members.specs.Members.{entries_as, label_of, logicals, logicals_as, part_of, parts_as, parts_in, present, records_as}
use Rattle.pt_members.specs.Members.{slots, tops, part_sources, rows_with, sources}
use Rattle.pt_members.specs.inner.Members.{label_under, parts_from}
use Rattle.pt_members.specs.Rows.{body_rows, member_of, members_below, members_of, rows_at, rows_below, rows_in}

-- ## By place, without what stands there.

-- a place: nothing where it is unused
abbrev pub at_place : Layout → Option Member → List Member
at_place o None = []
at_place o (Some m) = m ∷ members_below m.kind o m

-- where a partition stands, its record or entry does
abbrev Has : Option Member → Option Source → Type 0
Has None s = Unit {0}
Has (Some m) None = ⊥
Has (Some m) (Some s) = Unit {0}

abbrev Covers : List (Option Member) → List (Option Source) → Type 0
Covers [] [] = Unit {0}
Covers [] (s ∷ ss) = ⊥
Covers (m ∷ ms) [] = ⊥
Covers (m ∷ ms) (s ∷ ss) = Has m s × Covers ms ss

covers_both : (ms ns : List (Option Member)) (ss ts : List (Option Source)) → Covers ms ss → Covers ns ts → Covers (ms ++ ns) (ss ++ ts)
covers_both [] ns [] ts first second = second
covers_both [] ns (s ∷ ss) ts first second = absurd first
covers_both (m ∷ ms) ns [] ts first second = absurd first
covers_both (m ∷ ms) ns (s ∷ ss) ts first second = (first.0, covers_both ms ns ss ts first.1 second)

has_some : (m : Option Member) (s : Source) → Has m (Some s)
has_some None s = tt
has_some (Some m) s = tt

covers_records : (b n : ℕ) (rs : List (Option Record)) → Covers (records_as b n rs) (map (option_map source.Record) rs)
unfolding records_as
covers_records b n [] = tt
covers_records b n (None ∷ rs) = (tt, covers_records b (n + 1) rs)
covers_records b n (Some r ∷ rs) = (tt, covers_records b (n + 1) rs)

covers_entries : (b n : ℕ) (es : List (Option Entry)) → Covers (entries_as b n es) (map (option_map source.Entry) es)
unfolding entries_as
covers_entries b n [] = tt
covers_entries b n (None ∷ es) = (tt, covers_entries b (n + 1) es)
covers_entries b n (Some e ∷ es) = (tt, covers_entries b (n + 1) es)

has_logical : (m : Option Record) (f : Record → Member) → Has (option_map f m) (option_map source.Record m)
has_logical None f = tt
has_logical (Some r) f = tt

covers_logicals : (b n : ℕ) (chain : List Ebr)
    → Covers (logicals_as b n chain) (map (λ (e : Ebr). option_map source.Record e.logical) chain)
unfolding logicals_as
covers_logicals b n [] = tt
covers_logicals b n (e ∷ es) = (has_logical e.logical _, covers_logicals b (if is_some e.logical then n + 1 else n) es)

covers_slots : (b : ℕ) (y : Body) → Covers (slots b y) (sources y)
unfolding tops logicals sources
covers_slots b (Mbr rs chain) =
    covers_both (records_as b 1 rs) (logicals_as b 5 chain) (map (option_map source.Record) rs)
    (map (λ (e : Ebr). option_map source.Record e.logical) chain) (covers_records b 1 rs) (covers_logicals b 5 chain)
covers_slots b (Gpt t) =
    subst (λ (ms : List (Option Member)). Covers ms (map (option_map source.Entry) t.entries)) (sym (append-nil (entries_as b 1 t.entries)))
    (covers_entries b 1 t.entries)

covers_parts : (l : Label) (m : Member) (k : ℕ) (es : List (Option LabelEntry))
    → Covers (parts_as l m k es) (map (option_map source.Part) es)
unfolding parts_as
covers_parts l m k [] = tt
covers_parts l m k (None ∷ es) = (tt, covers_parts l m (k + 1) es)
covers_parts l m k (Some e ∷ es) = (has_some (part_of l m k (Some e)) (source.Part e), covers_parts l m (k + 1) es)

-- of places alone
listed : (ms : List (Option Member)) (ss : List (Option Source)) → Covers ms ss
    → map member_of (flat_map option_to_list (rows_with ms ss)) ≡ present ms
unfolding rows_with
listed [] [] covers = refl
listed [] (s ∷ ss) covers = refl
listed (m ∷ ms) [] covers = absurd covers
listed (None ∷ ms) (s ∷ ss) covers = listed ms ss covers.1
listed (Some m ∷ ms) (None ∷ ss) covers = absurd covers.0
listed (Some m ∷ ms) (Some s ∷ ss) covers = ap (λ (xs : List Member). m ∷ xs) (listed ms ss covers.1)

in_label : (l : Option Label) (slice : Member) → map member_of (rows_in l slice) ≡ present (parts_in l slice)
unfolding parts_in
in_label None slice = refl
in_label (Some l) slice = listed (parts_as l slice 0 l.entries) (part_sources l) (covers_parts l slice 0 l.entries)

below_as : (k : Kind) (o : Layout) (m : Member) → map member_of (rows_below k o m) ≡ members_below k o m
below_as Leaf o m = refl
below_as Slice o m = in_label (label_of o.labels m.path.number) m
below_as Extended o m = refl

-- of places, each with what stands below it
all_listed : (o : Layout) (ms : List (Option Member)) (ss : List (Option Source)) → Covers ms ss
    → map member_of (flat_map (rows_at o) (rows_with ms ss)) ≡ flat_map (at_place o) ms
unfolding rows_with
all_listed o [] [] covers = refl
all_listed o [] (s ∷ ss) covers = refl
all_listed o (m ∷ ms) [] covers = absurd covers
all_listed o (None ∷ ms) (s ∷ ss) covers = all_listed o ms ss covers.1
all_listed o (Some m ∷ ms) (None ∷ ss) covers = absurd covers.0
all_listed o (Some m ∷ ms) (Some s ∷ ss) covers =
    let rest = flat_map (rows_at o) (rows_with ms ss) in
    ap (λ (xs : List Member). m ∷ xs)
    (map-append member_of (rows_below m.kind o m) rest
    ∙ ap (λ (xs : List Member). xs ++ map member_of rest) (below_as m.kind o m)
    ∙ ap (λ (xs : List Member). members_below m.kind o m ++ xs) (all_listed o ms ss covers.1))

pub members_by_place : (b : ℕ) (o : Layout) → members_of b o ≡ flat_map (at_place o) (slots b o.body)
members_by_place b o = all_listed o (slots b o.body) (sources o.body) (covers_slots b o.body)

pub body_members : (b : ℕ) (y : Body) → map member_of (body_rows b y) ≡ present (slots b y)
body_members b y = listed (slots b y) (sources y) (covers_slots b y)

placed_members : (o : Layout) (ms : List (Option Member))
    → flat_map (λ (m : Member). m ∷ members_below m.kind o m) (present ms) ≡ flat_map (at_place o) ms
placed_members o [] = refl
placed_members o (None ∷ ms) = placed_members o ms
placed_members o (Some m ∷ ms) = ap (λ (l : List Member). (m ∷ members_below m.kind o m) ++ l) (placed_members o ms)

-- the members in a table's places, each with those below it
pub members_placed : (b : ℕ) (o : Layout)
    → flat_map (λ (m : Member). m ∷ members_below m.kind o m) (present (slots b o.body)) ≡ members_of b o
members_placed b o = placed_members o (slots b o.body) ∙ sym (members_by_place b o)

parts_all : (l : Option Label) (m : Member) → parts_from l m 0 ≡ present (parts_in l m)
unfolding parts_in
parts_all None m = refl
parts_all (Some l) m = refl

-- the partitions of a slice's label, from the first letter on
pub parts_below : (k : Kind) (o : Layout) (m : Member) → parts_from (label_under k o m) m 0 ≡ members_below k o m
parts_below Leaf o m = refl
parts_below Slice o m = parts_all (label_of o.labels m.path.number) m
parts_below Extended o m = refl
