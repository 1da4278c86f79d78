-- The label of a slice, each number of the width that it has there.
use Rattle.std.specs.Prelude.{ℕ, List, [], ◌∷◌, ◌^◌, Bool, Option, Some, None, if◌then◌else◌, codes, option_and_then}
use Rattle.serde_json.specs.Data.{Data}
use Rattle.pt_bsd.specs.declared.label.Label.{Label}
use Rattle.pt_bsd.specs.declared.label.LabelEntry.{LabelEntry}
use Rattle.pt_drafts.specs.Members.{has_only, needed}
use Rattle.pt_drafts.specs.Values.{exactly, hex_bytes, if_not_null, whole_below}

-- one part after another, where all are there
infixl 10 ◌>>=◌
abbrev pub ◌>>=◌ : {A B : Type 0} → Option A → (A → Option B) → Option B
o >>= f = option_and_then f o

abbrev pub if_holds : {A : Type 0} → Bool → Option A → Option A
if_holds holds o = if holds then o else None

abbrev pub part_names : List (List ℕ)
part_names = codes "size" ∷ codes "offset" ∷ codes "fragment" ∷ codes "fstype" ∷ codes "frag" ∷ codes "cpg" ∷ []

abbrev pub part_numbers : Data → Option LabelEntry
part_numbers d = do
  size ← needed (whole_below (2 ^ 32)) (codes "size") d
  offset ← needed (whole_below (2 ^ 32)) (codes "offset") d
  fragment ← needed (whole_below (2 ^ 32)) (codes "fragment") d
  fstype ← needed (whole_below (2 ^ 8)) (codes "fstype") d
  frag ← needed (whole_below (2 ^ 8)) (codes "frag") d
  cpg ← needed (whole_below (2 ^ 16)) (codes "cpg") d
  Some (record { size = size; offset = offset; fragment = fragment; fstype = fstype; frag = frag; cpg = cpg })

-- an entry: an object of these six numbers
unfoldable pub part_of : Data → Option LabelEntry
part_of d = if_holds (has_only part_names d) (part_numbers d)

abbrev pub label_names : List (List ℕ)
label_names =
    codes "kind" ∷ codes "subtype" ∷ codes "type_name" ∷ codes "pack_name" ∷ codes "geometry" ∷ codes "unit" ∷ codes "kept"
    ∷ codes "bbsize" ∷ codes "sbsize" ∷ codes "entries" ∷ []

abbrev pub label_parts : Data → Option Label
label_parts d = do
  kind ← needed (whole_below (2 ^ 16)) (codes "kind") d
  subtype ← needed (whole_below (2 ^ 16)) (codes "subtype") d
  type_name ← needed (hex_bytes 16) (codes "type_name") d
  pack_name ← needed (hex_bytes 16) (codes "pack_name") d
  geometry ← needed (exactly 4 (whole_below (2 ^ 32))) (codes "geometry") d
  unit ← needed (whole_below (2 ^ 32)) (codes "unit") d
  kept ← needed (hex_bytes 68) (codes "kept") d
  bbsize ← needed (whole_below (2 ^ 32)) (codes "bbsize") d
  sbsize ← needed (whole_below (2 ^ 32)) (codes "sbsize") d
  entries ← needed (exactly 8 (if_not_null part_of)) (codes "entries") d
  Some (record {
    kind = kind;
    subtype = subtype;
    type_name = type_name;
    pack_name = pack_name;
    geometry = geometry;
    unit = unit;
    kept = kept;
    bbsize = bbsize;
    sbsize = sbsize;
    entries = entries;
  })

-- a label: an object of these ten members
unfoldable pub label_of : Data → Option Label
label_of d = if_holds (has_only label_names d) (label_parts d)
