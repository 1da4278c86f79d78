-- Records that are written as one object are equal, and so are their labels.
use Rattle.std.proofs.Common.{◌≡◌, ◌+◌, ◌<◌, ◌^◌, ℕ, List, [], ◌∷◌, ◌++◌, Bool, true, false, Option, Some, None, codes, refl, arith}
use Rattle.std.specs.Prelude.{if◌then◌else◌, nat_eq, nat_lt}
use Rattle.std.proofs.lemmas.Bool.{eqb-true}
use Rattle.hex.specs.Hex.{encode_lower}
use Rattle.serde_json.specs.Data.{Data, boolean, string}
use Rattle.serde_json.specs.Find.{get}
use Rattle.pt_bsd.specs.declared.label.Label.{Label}
use Rattle.pt_mbr.specs.declared.record.Record.{Record}
use Rattle.pt_types.specs.Types.{record_name_of}
use Rattle.pt_tables.specs.Fields.{Field, num, object_of, type_name_fields}
use Rattle.pt_tables.specs.Labels.{bsd_fields}
use Rattle.pt_tables.specs.Entries.{node_text}
use Rattle.pt_tables.specs.Records.{boot_fields, further_fields, kind_fields, kind_text, logical_fields, record_fields, start_field}
use Rattle.pt_tables.specs.Shown.{RecordWidths}
use Rattle.pt_tables.proofs.Found.{Lacks, Other, Tells, found, lacks_both, one_found, tells_before, tells_behind, tells_here, tells_later}
use Rattle.pt_tables.proofs.Found.{tells_none}
use Rattle.pt_tables.proofs.Parts.{lacks_label, lacks_type_name}
use Rattle.pt_tables.proofs.SameLabels.{OptionWidths, bytes_from, label_in, num_from, one_label_in, tells_label}
use Rattle.pt_tables.proofs.SameTexts.{one_kind}

-- ## The mark of a partition to be booted.

lacks_boot : (k : List ℕ) → Other k (codes "bootable") → Other k (codes "boot") → (boot : ℕ) → Lacks k (boot_fields boot)
unfolding boot_fields
lacks_boot k mark byte boot = by_test (nat_eq boot 0) (nat_eq boot 0x80) where
  by_test : (z t : Bool) → Lacks k (if z then [] else (if t then (codes "bootable", boolean true) else (codes "boot", num boot)) ∷ [])
  by_test true t = tt
  by_test false true = (mark, tt)
  by_test false false = (byte, tt)

abbrev mark_in : ℕ → Option Data
mark_in boot = if nat_eq boot 0 then None else (if nat_eq boot 0x80 then Some (boolean true) else None)

abbrev byte_in : ℕ → Option Data
byte_in boot = if nat_eq boot 0 then None else (if nat_eq boot 0x80 then None else Some (num boot))

tells_mark : (boot : ℕ) → Tells (codes "bootable") (boot_fields boot) (mark_in boot)
unfolding boot_fields
tells_mark boot = by_test (nat_eq boot 0) (nat_eq boot 0x80) where
  by_test : (z t : Bool)
      → Tells (codes "bootable") (if z then [] else (if t then (codes "bootable", boolean true) else (codes "boot", num boot)) ∷ [])
      (if z then None else (if t then Some (boolean true) else None))
  by_test true t = tells_none (codes "bootable") [] tt
  by_test false true = tells_here (codes "bootable") (boolean true) [] tt
  by_test false false = tells_none (codes "bootable") ((codes "boot", num boot) ∷ []) (refl, tt)

tells_byte : (boot : ℕ) → Tells (codes "boot") (boot_fields boot) (byte_in boot)
unfolding boot_fields
tells_byte boot = by_test (nat_eq boot 0) (nat_eq boot 0x80) where
  by_test : (z t : Bool)
      → Tells (codes "boot") (if z then [] else (if t then (codes "bootable", boolean true) else (codes "boot", num boot)) ∷ [])
      (if z then None else (if t then None else Some (num boot)))
  by_test true t = tells_none (codes "boot") [] tt
  by_test false true = tells_none (codes "boot") ((codes "bootable", boolean true) ∷ []) (refl, tt)
  by_test false false = tells_here (codes "boot") (num boot) [] tt

one_boot : (m n : ℕ) → mark_in m ≡ mark_in n → byte_in m ≡ byte_in n → m ≡ n
one_boot m n mark byte = by_test (nat_eq m 0) refl (nat_eq m 0x80) refl (nat_eq n 0) refl (nat_eq n 0x80) refl mark byte where
  by_test : (z : Bool) → nat_eq m 0 ≡ z → (t : Bool) → nat_eq m 0x80 ≡ t → (w : Bool) → nat_eq n 0 ≡ w → (s : Bool) → nat_eq n 0x80 ≡ s
      → (if z then None else (if t then Some (boolean true) else None)) ≡ (if w then None else (if s then Some (boolean true) else None))
      → (if z then None else (if t then None else Some (num m))) ≡ (if w then None else (if s then None else Some (num n))) → m ≡ n
  by_test true is t so true is2 s so2 mark byte = omega (arith, eqb-true m 0 is, eqb-true n 0 is2)
  by_test true is t so false is2 true so2 mark byte = absurd (cc)
  by_test true is t so false is2 false so2 mark byte = absurd (cc)
  by_test false is true so true is2 s so2 mark byte = absurd (cc)
  by_test false is false so true is2 s so2 mark byte = absurd (cc)
  by_test false is true so false is2 true so2 mark byte = omega (arith, eqb-true m 0x80 so, eqb-true n 0x80 so2)
  by_test false is true so false is2 false so2 mark byte = absurd (cc)
  by_test false is false so false is2 true so2 mark byte = absurd (cc)
  by_test false is false so false is2 false so2 mark byte = cc

-- ## What a record says but for its place, behind fields that don't say it.

abbrev Clear : List Field → Type 0
Clear fs =
    Lacks (codes "type") fs × Lacks (codes "start_chs") fs × Lacks (codes "end_chs") fs × Lacks (codes "bootable") fs × Lacks
    (codes "boot") fs
    × Lacks (codes "bsd") fs

lacks_further : (k : List ℕ) → Other k (codes "type_name") → Other k (codes "bootable") → Other k (codes "boot") → Other k (codes "bsd")
    → (r : Record) (l : Option Label) → Lacks k (further_fields r l)
unfolding further_fields
lacks_further k type mark byte bsd r l =
    lacks_both k (type_name_fields (record_name_of r.kind)) _ (lacks_type_name k type (record_name_of r.kind))
    (lacks_both k (boot_fields r.boot) _ (lacks_boot k mark byte r.boot) (lacks_label k bsd (nat_eq r.kind 0xA5) l))

pub lacks_kind : (k : List ℕ) → Other k (codes "type") → Other k (codes "start_chs") → Other k (codes "end_chs")
    → Other k (codes "type_name")
    → Other k (codes "bootable") → Other k (codes "boot") → Other k (codes "bsd") → (r : Record) (l : Option Label)
    → Lacks k (kind_fields r l)
unfolding kind_fields
lacks_kind k type first last name mark byte bsd r l = (type, (first, (last, lacks_further k name mark byte bsd r l)))

module _ (fs : List Field) (r : Record) (l : Option Label) where
  tells_type : Lacks (codes "type") fs → Tells (codes "type") (fs ++ kind_fields r l) (Some (string (kind_text r.kind)))
  unfolding kind_fields
  tells_type clear =
      tells_behind (codes "type") fs _ _ clear
      (tells_here (codes "type") (string (kind_text r.kind)) _ (refl, (refl, lacks_further (codes "type") refl refl refl refl r l)))

  tells_first : Lacks (codes "start_chs") fs → Tells (codes "start_chs") (fs ++ kind_fields r l) (Some (string (encode_lower r.start_chs)))
  unfolding kind_fields
  tells_first clear =
      tells_behind (codes "start_chs") fs _ _ clear
      (tells_later (codes "start_chs") _ _ _ refl
      (tells_here (codes "start_chs") (string (encode_lower r.start_chs)) _
      (refl, lacks_further (codes "start_chs") refl refl refl refl r l)))

  tells_last : Lacks (codes "end_chs") fs → Tells (codes "end_chs") (fs ++ kind_fields r l) (Some (string (encode_lower r.end_chs)))
  unfolding kind_fields
  tells_last clear =
      tells_behind (codes "end_chs") fs _ _ clear
      (tells_later (codes "end_chs") _ _ _ refl
      (tells_later (codes "end_chs") _ _ _ refl
      (tells_here (codes "end_chs") (string (encode_lower r.end_chs)) _ (lacks_further (codes "end_chs") refl refl refl refl r l))))

  -- what stands behind the name of the type
  behind_name : (k : List ℕ) (o : Option Data) → Lacks k fs → Other k (codes "type") → Other k (codes "start_chs")
      → Other k (codes "end_chs")
      → Other k (codes "type_name") → Tells k (boot_fields r.boot ++ bsd_fields (nat_eq r.kind 0xA5) l) o
      → Tells k (fs ++ kind_fields r l) o
  unfolding kind_fields further_fields
  behind_name k o clear type first last name tells =
      tells_behind k fs _ _ clear
      (tells_later k _ _ _ type (tells_later k _ _ _ first (tells_later k _ _ _ last
      (tells_behind k (type_name_fields (record_name_of r.kind)) _ _ (lacks_type_name k name (record_name_of r.kind)) tells))))

  kind_mark : Lacks (codes "bootable") fs → Tells (codes "bootable") (fs ++ kind_fields r l) (mark_in r.boot)
  kind_mark clear =
      behind_name (codes "bootable") _ clear refl refl refl refl
      (tells_before (codes "bootable") (boot_fields r.boot) _ _ (tells_mark r.boot)
      (lacks_label (codes "bootable") refl (nat_eq r.kind 0xA5) l))

  kind_byte : Lacks (codes "boot") fs → Tells (codes "boot") (fs ++ kind_fields r l) (byte_in r.boot)
  kind_byte clear =
      behind_name (codes "boot") _ clear refl refl refl refl
      (tells_before (codes "boot") (boot_fields r.boot) _ _ (tells_byte r.boot) (lacks_label (codes "boot") refl (nat_eq r.kind 0xA5) l))

  kind_label : Lacks (codes "bsd") fs → Tells (codes "bsd") (fs ++ kind_fields r l) (label_in (nat_eq r.kind 0xA5) l)
  kind_label clear =
      behind_name (codes "bsd") _ clear refl refl refl refl
      (tells_behind (codes "bsd") (boot_fields r.boot) _ _ (lacks_boot (codes "bsd") refl refl r.boot) (tells_label (nat_eq r.kind 0xA5) l))

kind_from : (m n : ℕ) → m < 2 ^ 8 → n < 2 ^ 8 → Some (string (kind_text m)) ≡ Some (string (kind_text n)) → m ≡ n
kind_from m n fits others same = one_kind m n fits others (cc)

-- the two are one but for their places
record SameKind (r s : Record) (l m : Option Label) : Type 0 where
  boot : r.boot ≡ s.boot
  start_chs : r.start_chs ≡ s.start_chs
  kind : r.kind ≡ s.kind
  end_chs : r.end_chs ≡ s.end_chs
  label : l ≡ m

module _ (fs gs : List Field) (r s : Record) (l m : Option Label) where
  same_kind : Clear fs → Clear gs → RecordWidths r → RecordWidths s → OptionWidths l → OptionWidths m
      → object_of (fs ++ kind_fields r l) ≡ object_of (gs ++ kind_fields s m) → SameKind r s l m
  same_kind clear others fits other_fits label_fits label_others same =
      let at : (key : List ℕ) (o p : Option Data) → Tells key (fs ++ kind_fields r l) o → Tells key (gs ++ kind_fields s m) p → o ≡ p =
      λ key o p here there. one_found key (fs ++ kind_fields r l) (gs ++ kind_fields s m) o p here there same in
      record {
        boot = one_boot r.boot s.boot
            (at (codes "bootable") _ _ (kind_mark fs r l clear.3) (kind_mark gs s m others.3))
            (at (codes "boot") _ _ (kind_byte fs r l clear.4) (kind_byte gs s m others.4));
        start_chs = bytes_from r.start_chs s.start_chs fits.start_chs other_fits.start_chs
            (at (codes "start_chs") _ _ (tells_first fs r l clear.1) (tells_first gs s m others.1));
        kind = kind_from r.kind s.kind fits.kind other_fits.kind
            (at (codes "type") _ _ (tells_type fs r l clear.0) (tells_type gs s m others.0));
        end_chs = bytes_from r.end_chs s.end_chs fits.end_chs other_fits.end_chs
            (at (codes "end_chs") _ _ (tells_last fs r l clear.2) (tells_last gs s m others.2));
        label = one_label_in (nat_eq r.kind 0xA5) (nat_eq s.kind 0xA5) l m label_fits label_others
            (at (codes "bsd") _ _ (kind_label fs r l clear.5) (kind_label gs s m others.5));
      }

same_record : (r s : Record) (l m : Option Label) → SameKind r s l m → r.start ≡ s.start → r.size ≡ s.size → (r ≡ s) × (l ≡ m)
same_record r s l m same start size = (
  λ i. record {
    boot =
        same.boot i;
    start_chs = same.start_chs i;
    kind = same.kind i;
    end_chs = same.end_chs i;
    start = start i;
    size = size i;
  },
  same.label,
)

-- ## Records of sector 0.

abbrev record_front : List ℕ → ℕ → Record → List Field
record_front device n r =
    (codes "number", num n) ∷ (codes "node", string (node_text device n)) ∷ (codes "start", num r.start) ∷ (codes "size", num r.size) ∷ []

module _ (device : List ℕ) (n : ℕ) (r : Record) (l : Option Label) where
  clear_record : Clear (record_front device n r)
  clear_record = (
    (refl, (refl, (refl, (refl, tt)))),
    (refl, (refl, (refl, (refl, tt)))),
    (refl, (refl, (refl, (refl, tt)))),
    (refl, (refl, (refl, (refl, tt)))),
    (refl, (refl, (refl, (refl, tt)))),
    (refl, (refl, (refl, (refl, tt)))),
  )

  tells_number : Tells (codes "number") (record_fields device n r l) (Some (num n))
  tells_number =
      tells_here (codes "number") (num n) _ (refl, (refl, (refl, lacks_kind (codes "number") refl refl refl refl refl refl refl r l)))

  tells_start : Tells (codes "start") (record_fields device n r l) (Some (num r.start))
  tells_start =
      tells_later (codes "start") _ _ _ refl
      (tells_later (codes "start") _ _ _ refl
      (tells_here (codes "start") (num r.start) _ (refl, lacks_kind (codes "start") refl refl refl refl refl refl refl r l)))

  tells_size : Tells (codes "size") (record_fields device n r l) (Some (num r.size))
  tells_size =
      tells_later (codes "size") _ _ _ refl
      (tells_later (codes "size") _ _ _ refl
      (tells_later (codes "size") _ _ _ refl
      (tells_here (codes "size") (num r.size) _ (lacks_kind (codes "size") refl refl refl refl refl refl refl r l))))

  pub record_number : get (codes "number") (object_of (record_fields device n r l)) ≡ Some (num n)
  record_number = found (codes "number") (record_fields device n r l) (Some (num n)) tells_number

  pub record_place : get (codes "record") (object_of (record_fields device n r l)) ≡ None
  record_place =
      found (codes "record") (record_fields device n r l) None
      (tells_none (codes "record") _ (refl, (refl, (refl, (refl, lacks_kind (codes "record") refl refl refl refl refl refl refl r l)))))

module _ (device other : List ℕ) (n m : ℕ) (r s : Record) (l k : Option Label) where
  pub one_record : RecordWidths r → RecordWidths s → OptionWidths l → OptionWidths k
      → object_of (record_fields device n r l) ≡ object_of (record_fields other m s k) → (r ≡ s) × (l ≡ k)
  one_record fits others label_fits label_others same =
      same_record r s l k
      (same_kind (record_front device n r) (record_front other m s) r s l k (clear_record device n r l)
      (clear_record other m s k) fits others
      label_fits label_others same)
      (num_from r.start s.start
      (one_found (codes "start") _ _ _ _ (tells_start device n r l) (tells_start other m s k) same))
      (num_from r.size s.size
      (one_found (codes "size") _ _ _ _ (tells_size device n r l) (tells_size other m s k) same))

-- ## Logical partitions.

other_start : (k : List ℕ) (at start : ℕ) → Other k (codes "start") → Other k (codes "offset")
    → (let f : Field = start_field at start in Other k f.0)
other_start k at start here there = by_test (nat_lt (at + start) (2 ^ 64)) where
  by_test : (t : Bool) → (let f : Field = if t then (codes "start", num (at + start)) else (codes "offset", num start) in Other k f.0)
  by_test true = here
  by_test false = there

abbrev start_in : ℕ → ℕ → Option Data
start_in at start = if nat_lt (at + start) (2 ^ 64) then Some (num (at + start)) else None

abbrev offset_in : ℕ → ℕ → Option Data
offset_in at start = if nat_lt (at + start) (2 ^ 64) then None else Some (num start)

module _ (at start : ℕ) (rest : List Field) where
  tells_begin : Lacks (codes "start") rest → Tells (codes "start") (start_field at start ∷ rest) (start_in at start)
  tells_begin lacks = by_test (nat_lt (at + start) (2 ^ 64)) where
    by_test : (t : Bool) → Tells (codes "start") ((if t then (codes "start", num (at + start)) else (codes "offset", num start)) ∷ rest)
        (if t then Some (num (at + start)) else None)
    by_test true = tells_here (codes "start") (num (at + start)) rest lacks
    by_test false = tells_none (codes "start") ((codes "offset", num start) ∷ rest) (refl, lacks)

  tells_offset : Lacks (codes "offset") rest → Tells (codes "offset") (start_field at start ∷ rest) (offset_in at start)
  tells_offset lacks = by_test (nat_lt (at + start) (2 ^ 64)) where
    by_test : (t : Bool) → Tells (codes "offset") ((if t then (codes "start", num (at + start)) else (codes "offset", num start)) ∷ rest)
        (if t then None else Some (num start))
    by_test true = tells_none (codes "offset") ((codes "start", num (at + start)) ∷ rest) (refl, lacks)
    by_test false = tells_here (codes "offset") (num start) rest lacks

one_start : (at start other : ℕ) → start_in at start ≡ start_in at other → offset_in at start ≡ offset_in at other → start ≡ other
one_start at start other here there = by_test (nat_lt (at + start) (2 ^ 64)) (nat_lt (at + other) (2 ^ 64)) here there where
  by_test : (t s : Bool) → (if t then Some (num (at + start)) else None) ≡ (if s then Some (num (at + other)) else None)
      → (if t then None else Some (num start)) ≡ (if s then None else Some (num other)) → start ≡ other
  by_test true true here there = let sum : at + start ≡ at + other = cc in omega (arith, sum)
  by_test true false here there = absurd (cc)
  by_test false true here there = absurd (cc)
  by_test false false here there = cc

abbrev logical_front : List ℕ → ℕ → ℕ → Record → List Field
logical_front device n at r =
    (codes "number", num n) ∷ (codes "node", string (node_text device n)) ∷ (codes "record", num at) ∷ start_field at r.start
    ∷ (codes "size", num r.size) ∷ []

module _ (device : List ℕ) (n at : ℕ) (r : Record) (l : Option Label) where
  lacks_front : (k : List ℕ) → Other k (codes "number") → Other k (codes "node") → Other k (codes "record") → Other k (codes "start")
      → Other k (codes "offset") → Other k (codes "size") → Lacks k (logical_front device n at r)
  lacks_front k number node place start offset size = (number, (node, (place, (other_start k at r.start start offset, (size, tt)))))

  clear_logical : Clear (logical_front device n at r)
  clear_logical = (
    lacks_front (codes "type") refl refl refl refl refl refl,
    lacks_front (codes "start_chs") refl refl refl refl refl refl,
    lacks_front (codes "end_chs") refl refl refl refl refl refl,
    lacks_front (codes "bootable") refl refl refl refl refl refl,
    lacks_front (codes "boot") refl refl refl refl refl refl,
    lacks_front (codes "bsd") refl refl refl refl refl refl,
  )

  tells_place : Tells (codes "record") (logical_fields device n at r l) (Some (num at))
  tells_place =
      tells_later (codes "record") _ _ _ refl
      (tells_later (codes "record") _ _ _ refl
      (tells_here (codes "record") (num at) _
      (other_start (codes "record") at r.start refl refl, (refl, lacks_kind (codes "record") refl refl refl refl refl refl refl r l))))

  logical_start : Tells (codes "start") (logical_fields device n at r l) (start_in at r.start)
  logical_start =
      tells_later (codes "start") _ _ _ refl
      (tells_later (codes "start") _ _ _ refl
      (tells_later (codes "start") _ _ _ refl
      (tells_begin at r.start _ (refl, lacks_kind (codes "start") refl refl refl refl refl refl refl r l))))

  logical_offset : Tells (codes "offset") (logical_fields device n at r l) (offset_in at r.start)
  logical_offset =
      tells_later (codes "offset") _ _ _ refl
      (tells_later (codes "offset") _ _ _ refl
      (tells_later (codes "offset") _ _ _ refl
      (tells_offset at r.start _ (refl, lacks_kind (codes "offset") refl refl refl refl refl refl refl r l))))

  logical_size : Tells (codes "size") (logical_fields device n at r l) (Some (num r.size))
  logical_size =
      tells_later (codes "size") _ _ _ refl
      (tells_later (codes "size") _ _ _ refl
      (tells_later (codes "size") _ _ _ refl
      (tells_later (codes "size") _ _ _ (other_start (codes "size") at r.start refl refl)
      (tells_here (codes "size") (num r.size) _ (lacks_kind (codes "size") refl refl refl refl refl refl refl r l)))))

  pub logical_place : get (codes "record") (object_of (logical_fields device n at r l)) ≡ Some (num at)
  logical_place = found (codes "record") (logical_fields device n at r l) (Some (num at)) tells_place

module _ (device other : List ℕ) (n m at : ℕ) (r s : Record) (l k : Option Label) where
  pub one_logical : RecordWidths r → RecordWidths s → OptionWidths l → OptionWidths k
      → object_of (logical_fields device n at r l) ≡ object_of (logical_fields other m at s k) → (r ≡ s) × (l ≡ k)
  one_logical fits others label_fits label_others same =
      same_record r s l k
      (same_kind (logical_front device n at r) (logical_front other m at s) r s l k (clear_logical device n at r l)
      (clear_logical other m at s k)
      fits others label_fits label_others same)
      (one_start at r.start s.start
      (one_found (codes "start") _ _ _ _ (logical_start device n at r l) (logical_start other m at s k) same)
      (one_found (codes "offset") _ _ _ _ (logical_offset device n at r l) (logical_offset other m at s k) same))
      (num_from r.size s.size
      (one_found (codes "size") _ _ _ _ (logical_size device n at r l) (logical_size other m at s k) same))
