-- Laws of labels, as terms that definitions and proofs above can cite.
use Rattle.std.specs.Prelude.{Bool, false, ◌==◌, if◌then◌else◌, ◌≡◌, ◌≢◌, ◌<◌, ◌≤◌, ◌⊎◌, ℕ, zero, suc, List, [], ◌∷◌, Option, Some, None}
use Rattle.std.specs.Prelude.{length, slice_set, slice_index_or}
use Rattle.std.proofs.Common.{refl, sym, ap, subst, ◌∙◌, arith, lit≤, rules, inl, inr}
use Rattle.std.proofs.lemmas.List.{ext_get_or, length-set, get_or-set_other}
use Rattle.pt_bsd.specs.Labels.{HasEntry, HasEntries, HasRaw, IsEntry, counted_in, entry_of, place_of, LabelBytes, HasLabel, IsLabelFault}
use Rattle.pt_bsd.specs.Labels.{count_of, IsCounted, IsRaw, FitsSlice, with_entry, empty_of, form_of, raw_offset_in, raw_offset, form_at}
use Rattle.pt_bsd.specs.Labels.{sector_by, HasForm}
use Rattle.pt_bsd.proofs.CountedLemmas.{IsThere}
use Rattle.pt_bsd.specs.declared.form.Form.TheVariants.{Relative, Absolute}
use Rattle.pt_bsd.specs.declared.label.Label.{Label}
use Rattle.pt_bsd.specs.declared.label.LabelEntry.{LabelEntry}
use Rattle.pt_bsd.specs.declared.label.LabelError.{LabelError}
use Rattle.pt_bsd.specs.declared.label.LabelError.TheVariants.{Magic, Count, Checksum, SectorSize, RawPartition}

entry_ext : (e f : LabelEntry) → e.size ≡ f.size → e.offset ≡ f.offset → e.fragment ≡ f.fragment → e.fstype ≡ f.fstype
    → e.frag ≡ f.frag → e.cpg ≡ f.cpg → e ≡ f
entry_ext e f a b c d g h = λ i. record { size = a i; offset = b i; fragment = c i; fstype = d i; frag = g i; cpg = h i }

-- the bytes at a place are one entry at most
pub entry_one : (e f : LabelEntry) (place : ℕ) (bytes : List ℕ) → HasEntry e place bytes → HasEntry f place bytes → e ≡ f
entry_one e f place bytes p q =
    entry_ext e f (sym p.size ∙ q.size) (sym p.offset ∙ q.offset) (sym p.fragment ∙ q.fragment) (sym p.fstype ∙ q.fstype)
    (sym p.frag ∙ q.frag) (sym p.cpg ∙ q.cpg)

slot_one : (o p : Option LabelEntry) (k : ℕ) (bytes : List ℕ) → IsEntry o k bytes → IsEntry p k bytes → o ≡ p
slot_one None None k bytes u v = refl
slot_one None (Some f) k bytes u v = absurd (omega (arith, u, v.0))
slot_one (Some e) None k bytes u v = absurd (omega (arith, u.0, v))
slot_one (Some e) (Some f) k bytes u v = ap (λ (x : LabelEntry). Some x) (entry_one e f (place_of k) bytes u.1 v.1)

entries_one : (l m : Label) (bytes : List ℕ) → HasEntries l bytes → HasEntries m bytes → l.entries ≡ m.entries
entries_one l m bytes p q = ext_get_or None l.entries m.entries (p.places ∙ sym q.places) (λ k lt.
    let small : k < 8 = omega (arith, p.places) in
    slot_one (entry_of l k) (entry_of m k) k bytes (p.each k small) (q.each k small))

-- bytes are one label at most, whatever the slice
pub label_one : (l m : Label) (first len start count : ℕ) (bytes : List ℕ) → LabelBytes l first len bytes
    → LabelBytes m start count bytes → l ≡ m
label_one l m first len start count bytes p q =
    let x = p.fields in
    let y = q.fields in
    let entries = entries_one l m bytes p.entries q.entries in
    λ i. record {
      kind = (sym x.kind ∙ y.kind) i;
      subtype = (sym x.subtype ∙ y.subtype) i;
      type_name = (sym x.type_name ∙ y.type_name) i;
      pack_name = (sym x.pack_name ∙ y.pack_name) i;
      geometry = (sym x.geometry ∙ y.geometry) i;
      unit = (sym x.unit ∙ y.unit) i;
      kept = (sym x.kept ∙ y.kept) i;
      bbsize = (sym x.bbsize ∙ y.bbsize) i;
      sbsize = (sym x.sbsize ∙ y.sbsize) i;
      entries = entries i;
    }

-- bytes that break a rule are no label
pub label_none : (e : LabelError) (l : Label) (first len : ℕ) (bytes : List ℕ) → IsLabelFault e first len bytes
    → LabelBytes l first len bytes → ⊥
label_none Magic l first len bytes broken is = broken is.magics
label_none Count l first len bytes (magics, broken) is = broken is.count
label_none Checksum l first len bytes (magics, count, broken) is = broken is.sum
label_none SectorSize l first len bytes (magics, count, sum, broken) is = broken is.sector_size
label_none RawPartition l first len bytes (magics, count, sum, size, broken) is = broken is.raw

-- so they have none
pub no_label : (e : LabelError) (first len : ℕ) (bytes : List ℕ) → IsLabelFault e first len bytes → ¬ HasLabel first len bytes
no_label e first len bytes fault has = label_none e has.0 first len bytes fault has.1

-- and they break one rule first
pub fault_one : (e f : LabelError) (first len : ℕ) (bytes : List ℕ) → IsLabelFault e first len bytes
    → IsLabelFault f first len bytes → e ≡ f
fault_one Magic Magic first len bytes p q = refl
fault_one Magic Count first len bytes p q = absurd (p q.0)
fault_one Magic Checksum first len bytes p q = absurd (p q.0)
fault_one Magic SectorSize first len bytes p q = absurd (p q.0)
fault_one Magic RawPartition first len bytes p q = absurd (p q.0)
fault_one Count Magic first len bytes p q = absurd (q p.0)
fault_one Count Count first len bytes p q = refl
fault_one Count Checksum first len bytes p q = absurd (p.1 q.1)
fault_one Count SectorSize first len bytes p q = absurd (p.1 q.1)
fault_one Count RawPartition first len bytes p q = absurd (p.1 q.1)
fault_one Checksum Magic first len bytes p q = absurd (q p.0)
fault_one Checksum Count first len bytes p q = absurd (q.1 p.1)
fault_one Checksum Checksum first len bytes p q = refl
fault_one Checksum SectorSize first len bytes p q = absurd (p.2 q.2)
fault_one Checksum RawPartition first len bytes p q = absurd (p.2 q.2)
fault_one SectorSize Magic first len bytes p q = absurd (q p.0)
fault_one SectorSize Count first len bytes p q = absurd (q.1 p.1)
fault_one SectorSize Checksum first len bytes p q = absurd (q.2 p.2)
fault_one SectorSize SectorSize first len bytes p q = refl
fault_one SectorSize RawPartition first len bytes p q = absurd (p.3 q.3)
fault_one RawPartition Magic first len bytes p q = absurd (q p.0)
fault_one RawPartition Count first len bytes p q = absurd (q.1 p.1)
fault_one RawPartition Checksum first len bytes p q = absurd (q.2 p.2)
fault_one RawPartition SectorSize first len bytes p q = absurd (q.3 p.3)
fault_one RawPartition RawPartition first len bytes p q = refl

none_there : (o : Option LabelEntry) → o ≡ None → ¬ IsThere o
none_there o none there = subst IsThere none there

-- the entries before the first that isn't there are counted
count_at : (entries : List (Option LabelEntry)) (n : ℕ) → n ≤ length entries
    → ((k : ℕ) → k < n → IsThere (slice_index_or entries k None)) → (n < length entries → slice_index_or entries n None ≡ None)
    → count_of entries ≡ n
count_at [] n le there none = omega arith
count_at (None ∷ entries) zero le there none = refl
count_at (None ∷ entries) (suc n) le there none = absurd (there 0 (omega arith))
count_at (Some e ∷ entries) zero le there none = absurd (none_there (Some e) (none (omega arith)) tt)
count_at (Some e ∷ entries) (suc n) le there none =
    ap suc (count_at entries n (omega arith) (λ k lt. there (suc k) (omega arith)) (λ lt. none (omega arith)))

pub slot_there : (o : Option LabelEntry) (k : ℕ) (bytes : List ℕ) → IsEntry o k bytes → k < counted_in bytes → IsThere o
slot_there None k bytes is lt = absurd (omega (arith, is, lt))
slot_there (Some e) k bytes is lt = tt

pub slot_none : (o : Option LabelEntry) (k : ℕ) (bytes : List ℕ) → IsEntry o k bytes → counted_in bytes ≤ k → o ≡ None
slot_none None k bytes is le = refl
slot_none (Some e) k bytes is le = absurd (omega (arith, is.0, le))

-- as many entries are there as the bytes count
pub label_count : (l : Label) (first len : ℕ) (bytes : List ℕ) → LabelBytes l first len bytes → count_of l.entries ≡ counted_in bytes
label_count l first len bytes is =
    let places = is.entries.places in
    let most = is.count.most in
    count_at l.entries (counted_in bytes) (omega (arith, places, most))
    (λ k lt. slot_there (entry_of l k) k bytes (is.entries.each k (omega (arith, lt, most))) lt)
    (λ lt. slot_none (entry_of l (counted_in bytes)) (counted_in bytes) bytes
    (is.entries.each (counted_in bytes) (omega (arith, lt, places))) (omega arith))

-- what is read can be written
pub label_counted : (l : Label) (first len : ℕ) (bytes : List ℕ) → LabelBytes l first len bytes → IsCounted l
label_counted l first len bytes is =
    let count = label_count l first len bytes is in
    record {
      places = is.entries.places;
      least = omega (arith, count, is.count.least);
      others = λ k above lt. slot_none (entry_of l k) k bytes (is.entries.each k lt) (omega (arith, count, above));
    }

raw_fits : (o : Option LabelEntry) (first len : ℕ) (bytes : List ℕ) → IsEntry o 2 bytes → IsThere o → HasRaw first len bytes
    → IsRaw o first len
raw_fits None first len bytes is there raw = there
raw_fits (Some e) first len bytes (counts, here) there raw = (
  sym here.size ∙ raw.size,
  elim raw.start [
    | inl relative ↦ inl (sym here.offset ∙ relative)
    | inr absolute ↦ inr
        (sym here.offset ∙ absolute)
  ],
)

-- what is read fits its slice
pub label_fits : (l : Label) (first len : ℕ) (bytes : List ℕ) → LabelBytes l first len bytes → FitsSlice l first len
label_fits l first len bytes is =
    let slot = is.entries.each 2 (lit≤ tt) in
    raw_fits (entry_of l 2) first len bytes slot (slot_there (entry_of l 2) 2 bytes slot (omega (arith, is.count.least))) is.raw

-- the empty label can be written
pub empty_counted : (n : ℕ) → IsCounted (empty_of n)
empty_counted n = record { places = refl; least = lit≤ tt; others = λ k above lt. absurd (omega (arith, above, lt)) }

-- and fits each slice of its length
pub empty_fits : (n first : ℕ) → FitsSlice (empty_of n) first n
empty_fits n first = (refl, inl refl)

count-set : (entries : List (Option LabelEntry)) (k : ℕ) (e : LabelEntry) → k < count_of entries
    → count_of (slice_set entries k (Some e)) ≡ count_of entries
count-set [] k e lt = absurd (omega arith)
count-set (None ∷ entries) k e lt = absurd (omega arith)
count-set (Some f ∷ entries) zero e lt = refl
count-set (Some f ∷ entries) (suc k) e lt = ap suc (count-set entries k e (omega arith))

-- another entry in a counted place leaves the count
pub with_entry_counted : (l : Label) (k : ℕ) (e : LabelEntry) → IsCounted l → k < count_of l.entries → IsCounted (with_entry l k e)
with_entry_counted l k e counted lt =
    let count = count-set l.entries k e lt in
    record {
      places = length-set l.entries k (Some e) ∙ counted.places;
      least = omega (arith, count, counted.least);
      others =
          λ i above small. get_or-set_other l.entries k i (Some e) None (omega (arith, above, count, lt))
          ∙ counted.others i (omega (arith, above, count)) small;
    }

other_entry : (l : Label) (k : ℕ) (e : LabelEntry) → k ≢ 2 → entry_of (with_entry l k e) 2 ≡ entry_of l 2
other_entry l k e other = get_or-set_other l.entries k 2 (Some e) None (omega (arith, other))

-- and, where it isn't c, the slices that the label fits
pub with_entry_fits : (l : Label) (k first len : ℕ) (e : LabelEntry) → k ≢ 2 → FitsSlice l first len
    → FitsSlice (with_entry l k e) first len
with_entry_fits l k first len e other fits = rw (other_entry l k e other) fits

-- and the form
pub with_entry_form : (l : Label) (k : ℕ) (e : LabelEntry) → k ≢ 2 → form_of (with_entry l k e) ≡ form_of l
with_entry_form l k e other = ap (λ (o : Option LabelEntry). form_at (raw_offset_in o)) (other_entry l k e other)

start_of : (o : Option LabelEntry) (first len : ℕ) → IsRaw o first len → (raw_offset_in o ≡ 0) ⊎ (raw_offset_in o ≡ first)
start_of None first len raw = absurd raw
start_of (Some e) first len raw = raw.1

nat_eq-suc : (n : ℕ) → (suc n == 0) ≡ false
nat_eq-suc n = search rules

form_by : (offset first : ℕ) → (offset ≡ 0) ⊎ (offset ≡ first)
    → (((offset ≡ 0) × (form_at offset ≡ Relative)) ⊎ ((offset ≢ 0) × (offset ≡ first) × (form_at offset ≡ Absolute)))
    × (sector_by (form_at offset) first offset ≡ first)
form_by zero first start = (inl (refl, refl), omega arith)
form_by (suc n) first (inl none) = absurd (omega arith)
form_by (suc n) first (inr same) =
    let form : form_at (suc n) ≡ Absolute = ap (λ (b : Bool). if b then Relative else Absolute) (nat_eq-suc n) in
    (inr (omega arith, same, form), rw form same)

-- a label that fits a slice has a form
pub label_form : (l : Label) (first len : ℕ) → FitsSlice l first len → HasForm l first
label_form l first len fits =
    let both = form_by (raw_offset l) first (start_of (entry_of l 2) first len fits) in
    record { form = both.0; start = both.1 }
