-- What a disk denotes is shaped.
use Rattle.std.specs.Prelude.{◌≡◌, ◌≢◌, ◌<◌, ◌≤◌, ◌+◌, ℕ, zero, suc, List, [], ◌∷◌, length, get_or, slice_index, Option, Some, None, Bool}
use Rattle.std.specs.Prelude.{true, false, filter, nat_lt, All}
use Rattle.std.proofs.Common.{refl, sym, ap, subst, ◌∙◌, inl, inr, arith}
use Rattle.std.proofs.lemmas.Bool.{ltb-true, false≢true}
use Rattle.pt_sector.specs.Sectors.{Sectors, Span, sector}
use Rattle.pt_sector.specs.declared.address.Lba.{Lba}
use Rattle.pt_mbr.specs.Records.{IsBootIndicator, AreRecords, BearsProtective, HasBootIndicators, IsExtendedKind, RecordIs, IsUsed}
use Rattle.pt_mbr.specs.Records.{extended_of, extent_of}
use Rattle.pt_mbr.specs.Chain.{HasBadLogical, Walk, lba}
use Rattle.pt_mbr.specs.declared.record.Record.{Record}
use Rattle.pt_mbr.specs.declared.ebr.Ebr.{Ebr}
use Rattle.pt_gpt.specs.Copies.{Copy}
use Rattle.pt_gpt.proofs.Terms.{copy_is_typed_lem, copy_count_lem}
use Rattle.pt_gpt.specs.declared.table.Table.{Table}
use Rattle.pt_gpt.specs.declared.table.Side.{Side}
use Rattle.pt_gpt.specs.declared.table.Side.TheVariants.{Primary, Backup}
use Rattle.pt_bsd.specs.Labels.{LabelBytes, IsEntry, counted_in, entry_of, IsRaw, count_of, HasRaw}
use Rattle.pt_bsd.proofs.CountedLemmas.{IsThere}
use Rattle.pt_bsd.specs.declared.label.Label.{Label}
use Rattle.pt_bsd.specs.declared.label.LabelEntry.{LabelEntry}
use Rattle.pt_recover.specs.Denotes.{TableIs, IsMbr, IsMbrSector, HasChain, LabelsAre, Denotes, BodyIs, SlotNumbers, EbrNumbers}
use Rattle.pt_recover.specs.Denotes.{BodyNumbers, Numbers}
use Rattle.pt_members.specs.Members.{slices_of, places_of, has_place, place_of}
use Rattle.pt_members.specs.declared.layout.Slice.{Slice}
use Rattle.pt_members.specs.declared.layout.Labelled.{Labelled}
use Rattle.pt_members.specs.declared.layout.Layout.{Layout}
use Rattle.pt_members.specs.declared.layout.Body.{Body}
use Rattle.pt_members.specs.declared.layout.Body.TheVariants.{Mbr, Gpt}
use Rattle.pt_cases.specs.Writes.{FitsTable, FitsSlot, FitsLogical, Linked, FitsExtended, FitsMbr, FitsBody, FitsLabel, AreLabelsOf}
use Rattle.pt_cases.specs.Writes.{Shaped}

-- a copy's table
copy_fits : (b : ℕ) (d : Sectors) (side : Side) (t : Table) → Copy b d side t → FitsTable b (length d) t
copy_fits b d side t copy =
    let count = copy_count_lem b d side t copy in
    let range = copy.stands.is_head.placed.range in
    let first = copy.stands.first in
    let last = copy.stands.last in
    record {
      room = copy.room;
      some = count.0;
      most = count.1;
      low = omega (arith, range.0, first);
      order = omega (arith, range.1, first, last);
      high = omega (arith, range.2, last);
      typed = copy_is_typed_lem b d side t copy;
    }

-- a table that stands fits its disk
pub table_fits : (b : ℕ) (d : Sectors) (t : Table) → TableIs b d t → FitsTable b (length d) t
table_fits b d t (inl primary) = copy_fits b d Primary t primary
table_fits b d t (inr backup) = copy_fits b d Backup t backup.1

-- a record that stands in its bytes
record_fits : (o : Option Record) (at : ℕ) (bytes : List ℕ) → SlotNumbers o → RecordIs o at bytes
    → IsBootIndicator (slice_index bytes at) → (IsUsed at bytes → slice_index bytes (at + 4) ≢ 0xEE) → FitsSlot o
record_fits None at bytes numbers is boot plain = tt
record_fits (Some r) at bytes numbers is boot plain = record {
  typed = λ none. is.0.0 (is.1.kind ∙ none);
  plain = λ protective. plain is.0 (is.1.kind ∙ protective);
  sized = λ none. is.0.1 (is.1.size ∙ none);
  start = numbers.start;
  size = numbers.size;
  boot = subst IsBootIndicator is.1.boot boot;
}

logical_fits : (o : Option Record) (bytes : List ℕ) → SlotNumbers o → RecordIs o 446 bytes → IsBootIndicator (slice_index bytes 446)
    → ¬ HasBadLogical bytes → FitsLogical o
unfolding HasBadLogical
logical_fits None bytes numbers is boot good = tt
logical_fits (Some r) bytes numbers is boot good = (
  record_fits (Some r) 446 bytes numbers is boot (λ used protective. good (used, inr protective)),
  λ extended. good (is.0, inl (subst IsExtendedKind (sym is.1.kind) extended)),
)

-- the extended boot records of a walk
walk_linked : (d : Sectors) (x : Span) (from : Option Lba) (list : List Ebr) → All EbrNumbers list → Walk d x from list None
    → Linked x from list
unfolding HasBootIndicators
walk_linked d x None [] numbers walk = tt
walk_linked d x (Some at) [] numbers walk = absurd cc
walk_linked d x None (e ∷ es) numbers walk = absurd walk
walk_linked d x (Some at) (e ∷ es) numbers walk = (
  walk.0.bytes.place,
  walk.0.inside.0,
  walk.1,
  logical_fits e.logical (sector d at.0) (numbers 0 e (omega arith)) walk.0.bytes.logical walk.0.bytes.boots.0 walk.0.bytes.logical_kind,
  walk_linked d x e.next es (λ k z lt. numbers (suc k) z (omega (arith, lt))) walk.2,
)

chain_fits : (d : Sectors) (rs : List Record) (chain : List Ebr) → All EbrNumbers chain → HasChain d rs chain → FitsExtended rs chain
chain_fits d [] chain numbers has = has
chain_fits d (r ∷ []) chain numbers has =
    record { few = has.few; linked = walk_linked d (extent_of r) (Some (lba (extent_of r).first)) chain numbers has.whole }
chain_fits d (r ∷ s ∷ rs) chain numbers has = absurd has

slot_fits : (records : List (Option Record)) (bytes : List ℕ) → All SlotNumbers records → IsMbrSector bytes → AreRecords records bytes
    → (k : ℕ) → k < 4 → FitsSlot (get_or records k None)
unfolding BearsProtective HasBootIndicators
slot_fits records bytes numbers is are zero lt =
    record_fits (get_or records 0 None) 446 bytes (numbers 0 None (omega (arith, are.four))) are.first is.formed.boots.0
    (λ used e. is.plain (inl e))
slot_fits records bytes numbers is are (suc zero) lt =
    record_fits (get_or records 1 None) 462 bytes (numbers 1 None (omega (arith, are.four))) are.second is.formed.boots.1
    (λ used e. is.plain (inr (inl e)))
slot_fits records bytes numbers is are (suc (suc zero)) lt =
    record_fits (get_or records 2 None) 478 bytes (numbers 2 None (omega (arith, are.four))) are.third is.formed.boots.2
    (λ used e. is.plain (inr (inr (inl e))))
slot_fits records bytes numbers is are (suc (suc (suc zero))) lt =
    record_fits (get_or records 3 None) 494 bytes (numbers 3 None (omega (arith, are.four))) are.fourth is.formed.boots.3
    (λ used e. is.plain (inr (inr (inr e))))
slot_fits records bytes numbers is are (suc (suc (suc (suc k)))) lt = absurd (omega (arith, lt))

mbr_fits : (d : Sectors) (records : List (Option Record)) (chain : List Ebr) → BodyNumbers (Mbr records chain) → IsMbr d records
    → HasChain d (extended_of records) chain → FitsMbr records chain
mbr_fits d records chain numbers is has = record {
  four = is.1.four;
  each = slot_fits records (sector d 0) numbers.0 is.0.1 is.1;
  extended = chain_fits d (extended_of records) chain numbers.1 has;
}

body_fits : (b : ℕ) (d : Sectors) (y : Body) → BodyNumbers y → BodyIs b d y → FitsBody b (length d) y
body_fits b d (Mbr records chain) numbers is = mbr_fits d records chain numbers is.0 is.1
body_fits b d (Gpt t) numbers is = table_fits b d t is.2

-- how many entries are there
count_is : (es : List (Option LabelEntry)) (c : ℕ) → c ≤ length es → ((k : ℕ) → k < c → IsThere (get_or es k None))
    → ((k : ℕ) → c ≤ k → k < length es → get_or es k None ≡ None) → count_of es ≡ c
count_is [] c most there none = omega (arith, most)
count_is (None ∷ es) zero most there none = refl
count_is (None ∷ es) (suc c) most there none = absurd (there 0 (omega arith))
count_is (Some e ∷ es) zero most there none = let no = none 0 (omega arith) (omega arith) in absurd cc
count_is (Some e ∷ es) (suc c) most there none =
    ap suc (count_is es c (omega (arith, most)) (λ k lt. there (suc k) (omega (arith, lt)))
    (λ k le lt. none (suc k) (omega (arith, le)) (omega (arith, lt))))

entry_there : (o : Option LabelEntry) (k : ℕ) (bytes : List ℕ) → IsEntry o k bytes → k < counted_in bytes → IsThere o
entry_there None k bytes is lt = absurd (omega (arith, is, lt))
entry_there (Some e) k bytes is lt = tt

entry_none : (o : Option LabelEntry) (k : ℕ) (bytes : List ℕ) → IsEntry o k bytes → counted_in bytes ≤ k → o ≡ None
entry_none None k bytes is le = refl
entry_none (Some e) k bytes is le = absurd (omega (arith, is.0, le))

pub raw_is : (o : Option LabelEntry) (first len : ℕ) (bytes : List ℕ) → IsEntry o 2 bytes → 3 ≤ counted_in bytes
    → HasRaw first len bytes → IsRaw o first len
raw_is None first len bytes is least raw = absurd (omega (arith, is, least))
raw_is (Some e) first len bytes is least raw =
    (sym is.1.size ∙ raw.size, elim raw.start [ inl none ↦ inl (sym is.1.offset ∙ none) | inr start ↦ inr (sym is.1.offset ∙ start) ])

label_fits : (s : Slice) (l : Label) (bytes : List ℕ) → 2 ≤ s.len → LabelBytes l s.first s.len bytes → FitsLabel s l
label_fits s l bytes second is =
    let places = is.entries.places in
    let count : count_of l.entries ≡ counted_in bytes = count_is l.entries (counted_in bytes) (omega (arith, is.count.most, places))
    (λ k lt. entry_there (entry_of l k) k bytes (is.entries.each k (omega (arith, lt, is.count.most))) lt)
    (λ k le lt. entry_none (entry_of l k) k bytes (is.entries.each k (omega (arith, lt, places))) le) in
    record {
      second = second;
      counted = record {
        places = places;
        least = omega (arith, count, is.count.least);
        others = λ k above lt. entry_none (entry_of l k) k bytes (is.entries.each k lt) (omega (arith, count, above));
      };
      slice = raw_is (entry_of l 2) s.first s.len bytes (is.entries.each 2 (omega arith)) is.count.least is.raw;
    }

-- a slice with a label place has a second sector
place_long : (n : ℕ) (s : Slice) (t : Bool) → nat_lt 1 s.len ≡ t → has_place n s ≡ true → 2 ≤ s.len
place_long n s true so is = omega (arith, ltb-true 1 s.len so)
place_long n s false so is = let both : false ≡ true = sym (rw so refl) ∙ is in absurd (false≢true both)

-- the labels of the slices with a label place are labels of the slices
labels_fit : (d : Sectors) (n : ℕ) (s : Slice) (ss : List Slice) (labels : List Labelled)
    → ((rest : List Labelled) → LabelsAre d (filter (has_place n) ss) rest → AreLabelsOf ss rest)
    → (t : Bool) → has_place n s ≡ t → LabelsAre d (filter (has_place n) (s ∷ ss)) labels → AreLabelsOf (s ∷ ss) labels
labels_fit d n s ss labels more true so are = one (subst (λ (l : List Slice). LabelsAre d l labels) here are) where
  here : filter (has_place n) (s ∷ ss) ≡ s ∷ filter (has_place n) ss
  here = rw (so, filter) refl

  one : LabelsAre d (s ∷ filter (has_place n) ss) labels → AreLabelsOf (s ∷ ss) labels
  one (inl (l, rest, is, at, behind)) =
      inl (l, rest, is, label_fits s l (sector d (place_of s)) (place_long n s (nat_lt 1 s.len) refl so) at, more rest behind)
  one (inr (none, behind)) = inr (more labels behind)
labels_fit d n s ss labels more false so are =
    let gone : filter (has_place n) (s ∷ ss) ≡ filter (has_place n) ss = rw (so, filter) refl in
    inr (more labels (subst (λ (l : List Slice). LabelsAre d l labels) gone are))

all_fit : (d : Sectors) (n : ℕ) (ss : List Slice) (labels : List Labelled) → LabelsAre d (filter (has_place n) ss) labels
    → AreLabelsOf ss labels
all_fit d n [] labels are = are
all_fit d n (s ∷ ss) labels are = labels_fit d n s ss labels (all_fit d n ss) (has_place n s) refl are

places_fit : (b : ℕ) (d : Sectors) (y : Body) (labels : List Labelled) → LabelsAre d (places_of b (length d) y) labels
    → AreLabelsOf (slices_of b y) labels
unfolding places_of
places_fit b d y labels are = all_fit d (length d) (slices_of b y) labels are

-- what a disk denotes is shaped, if its records' numbers have 32 bits
pub denoted_is_shaped_lem : (b : ℕ) (d : Sectors) (o : Layout) → Numbers o → Denotes b d (Some o) → Shaped b o
denoted_is_shaped_lem b d o numbers denotes = record {
  body = subst (λ (n : ℕ). FitsBody b n o.body) (sym denotes.0) (body_fits b d o.body numbers denotes.1);
  labels = places_fit b d o.body o.labels denotes.2;
}
