-- How deep the objects and arrays of a table nest: a text that nests deeper than 127 isn't read back.
use Rattle.std.proofs.Common.{◌≤◌, ℕ, ◌+◌, ◌-◌, ◌^◌, List, length, [], ◌∷◌, ◌++◌, Bool, true, false, Option, Some, None, arith}
use Rattle.std.proofs.Common.{Ordering, Less, Equal, Greater}
use Rattle.std.specs.Prelude.{if◌then◌else◌, codes, map, nat_eq, nat_lt}
use Rattle.std.specs.Char.Utf16.{utf16_lossy_chars}
use Rattle.std.specs.Str.{encode_utf8_all}
use Rattle.hex.specs.Hex.{encode_lower}
use Rattle.std.specs.Ordering.{match_ordering}
use Rattle.serde_json.specs.Data.{Data, Members, no_members, member, put, boolean, string, depth, items_depth, members_depth}
use Rattle.serde_json.specs.View.{items_of}
use Rattle.pt_bsd.specs.declared.label.Label.{Label}
use Rattle.pt_bsd.specs.declared.label.LabelEntry.{LabelEntry}
use Rattle.pt_gpt.specs.declared.entry.Entry.{Entry}
use Rattle.pt_mbr.specs.declared.ebr.Ebr.{Ebr}
use Rattle.pt_mbr.specs.declared.record.Record.{Record}
use Rattle.pt_members.specs.declared.layout.Body.{Body}
use Rattle.pt_members.specs.declared.layout.Body.TheVariants.{Mbr, Gpt}
use Rattle.pt_members.specs.declared.layout.Labelled.{Labelled}
use Rattle.pt_members.specs.declared.layout.Layout.{Layout}
use Rattle.pt_members.specs.Members.{is_slice_kind, label_of}
use Rattle.pt_edit.specs.declared.free.FreeBlock.{FreeBlock}
use Rattle.pt_types.specs.Types.{entry_name_of, record_name_of}
use Rattle.pt_tables.specs.Fields.{Field, with_fields, object_of, array_of, has_size, end_field, num, nums, numbered, type_name_fields}
use Rattle.pt_tables.specs.Free.{inside_fields, block_fields, block_data, free_data}
use Rattle.pt_tables.specs.Labels.{part_fields, part_data, label_fields, label_data, bsd_fields}
use Rattle.pt_tables.specs.Entries.{is_no_text, trimmed, units_field, units_fields, name_fields, attribute_fields, attributes_text}
use Rattle.pt_tables.specs.Entries.{text_fields, entry_kind_fields, entry_fields, entry_data, entries_data}
use Rattle.pt_tables.specs.Records.{boot_fields, further_fields, kind_fields, record_fields, record_data, records_data, start_field}
use Rattle.pt_tables.specs.Records.{logical_fields, logical_data}
use Rattle.pt_tables.specs.Records.{logicals_data, number_after, chain_fields}
use Rattle.pt_tables.specs.Text.{common_fields, body_fields, table_data}

-- ## Objects and arrays.

either : (o : Ordering) (a b c : Members) (n : ℕ) → members_depth a ≤ n → members_depth b ≤ n → members_depth c ≤ n
    → members_depth (match_ordering o a b c) ≤ n
either Less a b c n p q r = p
either Equal a b c n p q r = q
either Greater a b c n p q r = r

one_put : (k : List ℕ) (d : Data) (ms : Members) (n : ℕ) → depth d ≤ n → members_depth ms ≤ n → members_depth (put k d ms) ≤ n
one_put k d no_members n p q = omega arith
one_put k d (member l e ms) n p q =
    either _ (member k d (member l e ms)) (member l d ms) (member l e (put k d ms)) n (omega arith) (omega arith)
    (omega (arith, one_put k d ms n p (omega arith)))

-- no value nests deeper
abbrev Within : ℕ → List Field → Type 0
Within n [] = Unit {0}
Within n (f ∷ fs) = (depth f.1 ≤ n) × Within n fs

all_put : (fs : List Field) (ms : Members) (n : ℕ) → Within n fs → members_depth ms ≤ n → members_depth (with_fields fs ms) ≤ n
all_put [] ms n each q = q
all_put (f ∷ fs) ms n each q = all_put fs (put f.0 f.1 ms) n each.1 (one_put f.0 f.1 ms n each.0 q)

object_within : (fs : List Field) (n : ℕ) → Within n fs → depth (object_of fs) ≤ n + 1
object_within fs n each = let inner = all_put fs no_members n each (omega arith) in omega (arith, inner)

both : (fs gs : List Field) (n : ℕ) → Within n fs → Within n gs → Within n (fs ++ gs)
both [] gs n p q = q
both (f ∷ fs) gs n p q = (p.0, both fs gs n p.1 q)

none_or : (c : Bool) (f : Field) (n : ℕ) → depth f.1 ≤ n → Within n (if c then [] else f ∷ [])
none_or true f n p = tt
none_or false f n p = (p, tt)

one_or : (c : Bool) (f g : Field) (n : ℕ) → depth f.1 ≤ n → depth g.1 ≤ n → depth (if c then f else g).1 ≤ n
one_or true f g n p q = p
one_or false f g n p q = q

array_within : (ds : List Data) (n : ℕ) → items_depth (items_of ds) ≤ n → depth (array_of ds) ≤ n + 1
array_within ds n inner = omega (arith, inner)

all_mapped : {X : Type 0} (f : X → Data) (n : ℕ) → ((x : X) → depth (f x) ≤ n) → (xs : List X) → items_depth (items_of (map f xs)) ≤ n
all_mapped f n each [] = omega arith
all_mapped f n each (x ∷ xs) = let here = each x in let rest = all_mapped f n each xs in omega (arith, here, rest)

joined : (ds es : List Data) (n : ℕ) → items_depth (items_of ds) ≤ n → items_depth (items_of es) ≤ n → items_depth (items_of (ds ++ es)) ≤ n
joined [] es n p q = q
joined (d ∷ ds) es n p q = let rest = joined ds es n (omega arith) q in omega (arith, p, rest)

all_numbered : {X : Type 0} (f : ℕ → X → List Data) (d : ℕ) → ((n : ℕ) (x : X) → items_depth (items_of (f n x)) ≤ d)
    → (n : ℕ) (xs : List X) → items_depth (items_of (numbered f n xs)) ≤ d
unfolding numbered
all_numbered f d each n [] = omega arith
all_numbered f d each n (x ∷ xs) = joined (f n x) (numbered f (n + 1) xs) d (each n x) (all_numbered f d each (n + 1) xs)

-- ## Labels.

nums_within : (ns : List ℕ) → depth (nums ns) ≤ 1
nums_within ns = array_within (map num ns) 0 (all_mapped num 0 (λ n. omega arith) ns)

part_within : (e : Option LabelEntry) → depth (part_data e) ≤ 1
part_within None = omega arith
part_within (Some e) =
    object_within (part_fields e) 0
    (omega arith, (omega arith, (omega arith, (omega arith, (omega arith, (omega arith, tt))))))

label_within : (l : Label) → depth (label_data l) ≤ 3
label_within l =
    let geometry = nums_within l.geometry in
    let entries = array_within (map part_data l.entries) 1 (all_mapped part_data 1 part_within l.entries) in
    let last : Within 2 ((codes "kept", string (encode_lower l.kept)) ∷ (codes "bbsize", num l.bbsize) ∷ (codes "sbsize", num l.sbsize)
    ∷ (codes "entries", array_of (map part_data l.entries)) ∷ []) =
    (omega arith, (omega arith, (omega arith, (omega (arith, entries), tt)))) in
    object_within (label_fields l) 2
    (omega arith, (omega arith, (omega arith, (omega arith, (omega (arith, geometry), (omega arith, last))))))

bsd_within : (is_slice : Bool) (l : Option Label) → Within 3 (bsd_fields is_slice l)
bsd_within is_slice (Some l) = (label_within l, tt)
bsd_within true None = (omega arith, tt)
bsd_within false None = tt

name_within : (name : Option (List ℕ)) → Within 3 (type_name_fields name)
name_within None = tt
name_within (Some name) = (omega arith, tt)

-- ## Entries.

units_within : (us : List ℕ) → Within 3 (units_fields us)
units_within us = none_or (nat_eq (length us) 0) (units_field us) 3
    (one_or (is_no_text us) (codes "name_units", nums us) (codes "name", string (encode_utf8_all (utf16_lossy_chars us))) 3
    (let it = nums_within us in omega (arith, it)) (omega arith))

text_within : (t : List ℕ) → Within 3 (text_fields t)
text_within [] = tt
text_within (x ∷ xs) = (omega arith, tt)

attributes_within : (n : ℕ) → Within 3 (attribute_fields n)
attributes_within n = by_zero (nat_eq n 0)
  where
    by_zero : (z : Bool) → Within 3 (if z then [] else (codes "attributes", num n) ∷ text_fields (attributes_text n))
    by_zero true = tt
    by_zero false = (omega arith, text_within (attributes_text n))

kind_within : (e : Entry) (l : Option Label) → Within 3 (entry_kind_fields e l)
unfolding entry_kind_fields
kind_within e l = (
  omega arith,
  (
    omega arith,
    both (type_name_fields (entry_name_of e.kind.0)) _ 3 (name_within (entry_name_of e.kind.0))
        (both (name_fields e.name) _ 3 (units_within (trimmed e.name))
        (both (attribute_fields e.attributes) _ 3 (attributes_within e.attributes) (bsd_within (is_slice_kind e.kind.0) l))),
  ),
)

entry_within : (device : List ℕ) (labels : List Labelled) (n : ℕ) (e : Option Entry)
    → items_depth (items_of (entry_data device labels n e)) ≤ 4
entry_within device labels n None = omega arith
entry_within device labels n (Some e) =
    let end : depth (end_field e.first e.last).1 ≤ 3 =
    one_or (has_size e.first e.last) (codes "size", num (e.last - e.first + 1)) (codes "last", num e.last) 3 (omega arith) (omega arith) in
    let it = object_within (entry_fields device n e (label_of labels n)) 3
    (omega arith, (omega arith, (omega arith, (end, kind_within e (label_of labels n))))) in
    omega (arith, it)

-- ## Records.

boot_within : (boot : ℕ) → Within 3 (boot_fields boot)
unfolding boot_fields
boot_within boot = none_or (nat_eq boot 0) (if nat_eq boot 0x80 then (codes "bootable", boolean true) else (codes "boot", num boot)) 3
    (one_or (nat_eq boot 0x80) (codes "bootable", boolean true) (codes "boot", num boot) 3 (omega arith) (omega arith))

what_within : (r : Record) (l : Option Label) → Within 3 (kind_fields r l)
unfolding kind_fields further_fields
what_within r l = (
  omega arith,
  (
    omega arith,
    (
      omega arith,
      both (type_name_fields (record_name_of r.kind)) _ 3 (name_within (record_name_of r.kind))
          (both (boot_fields r.boot) _ 3 (boot_within r.boot) (bsd_within (nat_eq r.kind 0xA5) l)),
    ),
  ),
)

record_within : (device : List ℕ) (labels : List Labelled) (n : ℕ) (r : Option Record)
    → items_depth (items_of (record_data device labels n r)) ≤ 4
record_within device labels n None = omega arith
record_within device labels n (Some r) =
    let it = object_within (record_fields device n r (label_of labels n)) 3
    (omega arith, (omega arith, (omega arith, (omega arith, what_within r (label_of labels n))))) in
    omega (arith, it)

logical_within : (device : List ℕ) (labels : List Labelled) (n at : ℕ) (r : Option Record)
    → items_depth (items_of (logical_data device labels n at r)) ≤ 4
logical_within device labels n at None = omega arith
logical_within device labels n at (Some r) =
    let start : depth (start_field at r.start).1 ≤ 3 =
    one_or (nat_lt (at + r.start) (2 ^ 64)) (codes "start", num (at + r.start)) (codes "offset", num r.start) 3
    (omega arith) (omega arith) in
    let it = object_within (logical_fields device n at r (label_of labels n)) 3
    (omega arith, (omega arith, (omega arith, (start, (omega arith, what_within r (label_of labels n)))))) in
    omega (arith, it)

logicals_within : (device : List ℕ) (labels : List Labelled) (n : ℕ) (xs : List Ebr)
    → items_depth (items_of (logicals_data device labels n xs)) ≤ 4
unfolding logicals_data
logicals_within device labels n [] = omega arith
logicals_within device labels n (x ∷ xs) =
    joined (logical_data device labels n x.at.0 x.logical) _ 4 (logical_within device labels n x.at.0 x.logical)
    (logicals_within device labels (number_after n x.logical) xs)

chain_within : (xs : List Ebr) → Within 5 (chain_fields xs)
chain_within [] = tt
chain_within (x ∷ xs) =
    let sectors = all_mapped (λ (e : Ebr). num e.at.0) 0 (λ e. omega arith) (x ∷ xs) in
    let it = array_within (map (λ (e : Ebr). num e.at.0) (x ∷ xs)) 0 sectors in
    (omega (arith, it), tt)

-- ## Tables.

body_within : (device : List ℕ) (labels : List Labelled) (y : Body) → Within 5 (body_fields device labels y)
body_within device labels (Gpt t) =
    let entries = all_numbered (entry_data device labels) 4 (entry_within device labels) 1 t.entries in
    let partitions = array_within (entries_data device labels 1 t.entries) 4 entries in
    (omega arith, (omega arith, (omega arith, (omega arith, (omega arith, (partitions, tt))))))
body_within device labels (Mbr records chain) =
    let primaries = all_numbered (record_data device labels) 4 (record_within device labels) 1 records in
    let partitions = array_within (records_data device labels 1 records ++ logicals_data device labels 5 chain) 4
    (joined (records_data device labels 1 records) _ 4 primaries (logicals_within device labels 5 chain)) in
    (omega arith, (partitions, chain_within chain))

common_within : (device : List ℕ) (b n : ℕ) → Within 5 (common_fields device b n)
common_within device b n = (omega arith, (omega arith, (omega arith, (omega arith, tt))))

pub table_within : (device : List ℕ) (b : ℕ) (o : Layout) → depth (table_data device b o) ≤ 7
table_within device b o =
    let fields = common_fields device b o.sectors ++ body_fields device o.labels o.body in
    let table = object_within fields 5 (both (common_fields device b o.sectors) _ 5 (common_within device b o.sectors)
    (body_within device o.labels o.body)) in
    object_within ((codes "partitiontable", object_of fields) ∷ []) 6 (table, tt)

-- ## Blocks of free sectors.

inside_within : (inside : Option ℕ) → Within 0 (inside_fields inside)
inside_within None = tt
inside_within (Some n) = (omega arith, tt)

block_within : (b : FreeBlock) → depth (block_data b) ≤ 1
block_within b =
    let end : depth (end_field b.first b.last).1 ≤ 0 =
    one_or (has_size b.first b.last) (codes "size", num (b.last - b.first + 1)) (codes "last", num b.last) 0 (omega arith) (omega arith) in
    object_within (block_fields b) 0 (omega arith, (end, inside_within b.inside))

pub free_within : (blocks : List FreeBlock) → depth (free_data blocks) ≤ 3
free_within blocks =
    let list = array_within (map block_data blocks) 1 (all_mapped block_data 1 block_within blocks) in
    object_within ((codes "freeblocks", array_of (map block_data blocks)) ∷ []) 2 (list, tt)
