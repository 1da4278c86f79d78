-- Labels that are written as one value are equal.
use Rattle.std.proofs.Common.{◌≡◌, ℕ, List, [], Bool, true, false, Option, Some, None, codes, refl, ap, map}
use Rattle.std.specs.Prelude.{if◌then◌else◌}
use Rattle.hex.specs.Hex.{encode_lower}
use Rattle.serde_json.specs.Data.{Data, null, string}
use Rattle.pt_bsd.specs.declared.label.Label.{Label}
use Rattle.pt_bsd.specs.declared.label.LabelEntry.{LabelEntry}
use Rattle.pt_tables.specs.Fields.{num, nums, object_of, array_of}
use Rattle.pt_tables.specs.Labels.{bsd_fields, label_data, label_fields, part_data, part_fields}
use Rattle.pt_tables.specs.Shown.{AreBytes, LabelWidths}
use Rattle.pt_tables.proofs.Found.{Tells, looked, one_looked, tells_here, tells_none}
use Rattle.pt_tables.proofs.SameLists.{one_list, one_nums}
use Rattle.pt_tables.proofs.SameTexts.{one_bytes}

-- ## Entries.

one_entry : (e f : LabelEntry) → object_of (part_fields e) ≡ object_of (part_fields f) → e ≡ f
one_entry e f same =
    let size : e.size ≡ f.size = let is = one_looked (codes "size") (part_fields e) (part_fields f) same in cc in
    let offset : e.offset ≡ f.offset = let is = one_looked (codes "offset") (part_fields e) (part_fields f) same in cc in
    let fragment : e.fragment ≡ f.fragment = let is = one_looked (codes "fragment") (part_fields e) (part_fields f) same in cc in
    let fstype : e.fstype ≡ f.fstype = let is = one_looked (codes "fstype") (part_fields e) (part_fields f) same in cc in
    let frag : e.frag ≡ f.frag = let is = one_looked (codes "frag") (part_fields e) (part_fields f) same in cc in
    let cpg : e.cpg ≡ f.cpg = let is = one_looked (codes "cpg") (part_fields e) (part_fields f) same in cc in
    λ i. record { size = size i; offset = offset i; fragment = fragment i; fstype = fstype i; frag = frag i; cpg = cpg i }

one_part : (e f : Option LabelEntry) → part_data e ≡ part_data f → e ≡ f
one_part None None same = refl
one_part None (Some f) same = absurd (cc)
one_part (Some e) None same = absurd (cc)
one_part (Some e) (Some f) same = ap Some (one_entry e f same)

-- ## Labels.

pub bytes_from : (xs ys : List ℕ) → AreBytes xs → AreBytes ys → Some (string (encode_lower xs)) ≡ Some (string (encode_lower ys)) → xs ≡ ys
bytes_from xs ys fits others same = one_bytes xs ys fits others (cc)

pub num_from : (m n : ℕ) → Some (num m) ≡ Some (num n) → m ≡ n
num_from m n same = cc

pub data_from : (d e : Data) → Some d ≡ Some e → d ≡ e
data_from d e same = cc

pub one_label : (l m : Label) → LabelWidths l → LabelWidths m → label_data l ≡ label_data m → l ≡ m
one_label l m fits others same =
    let at : (k : List ℕ) → looked k (label_fields l) ≡ looked k (label_fields m) = λ k. one_looked k (label_fields l)
    (label_fields m) same in
    let kind = num_from l.kind m.kind (at (codes "kind")) in
    let subtype = num_from l.subtype m.subtype (at (codes "subtype")) in
    let type_name = bytes_from l.type_name m.type_name fits.type_name others.type_name (at (codes "type_name")) in
    let pack_name = bytes_from l.pack_name m.pack_name fits.pack_name others.pack_name (at (codes "pack_name")) in
    let geometry = one_nums l.geometry m.geometry (data_from (nums l.geometry) (nums m.geometry) (at (codes "geometry"))) in
    let unit = num_from l.unit m.unit (at (codes "unit")) in
    let kept = bytes_from l.kept m.kept fits.kept others.kept (at (codes "kept")) in
    let bbsize = num_from l.bbsize m.bbsize (at (codes "bbsize")) in
    let sbsize = num_from l.sbsize m.sbsize (at (codes "sbsize")) in
    let entries = one_list part_data one_part l.entries m.entries
    (data_from (array_of (map part_data l.entries)) (array_of (map part_data m.entries)) (at (codes "entries"))) in
    λ i. record {
      kind = kind i;
      subtype = subtype i;
      type_name = type_name i;
      pack_name = pack_name i;
      geometry = geometry i;
      unit = unit i;
      kept = kept i;
      bbsize = bbsize i;
      sbsize = sbsize i;
      entries = entries i;
    }

-- ## What stands under a partition's label.

abbrev pub label_in : Bool → Option Label → Option Data
label_in is_slice (Some l) = Some (label_data l)
label_in is_slice None = if is_slice then Some null else None

pub tells_label : (is_slice : Bool) (l : Option Label) → Tells (codes "bsd") (bsd_fields is_slice l) (label_in is_slice l)
tells_label is_slice (Some l) = tells_here (codes "bsd") (label_data l) [] tt
tells_label true None = tells_here (codes "bsd") null [] tt
tells_label false None = tells_none (codes "bsd") [] tt

abbrev pub OptionWidths : Option Label → Type 0
OptionWidths None = Unit {0}
OptionWidths (Some l) = LabelWidths l

pub one_label_in : (s t : Bool) (l m : Option Label) → OptionWidths l → OptionWidths m → label_in s l ≡ label_in t m → l ≡ m
one_label_in s t None None fits others same = refl
one_label_in true t None (Some m) fits others same = absurd (cc)
one_label_in false t None (Some m) fits others same = absurd (cc)
one_label_in s true (Some l) None fits others same = absurd (cc)
one_label_in s false (Some l) None fits others same = absurd (cc)
one_label_in s t (Some l) (Some m) fits others same =
    ap Some (one_label l m fits others (data_from (label_data l) (label_data m) same))
