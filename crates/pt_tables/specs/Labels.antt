-- The label of a slice as JSON.
use Rattle.std.specs.Prelude.{List, [], ◌∷◌, Bool, Option, Some, None, if◌then◌else◌, codes, map}
use Rattle.hex.specs.Hex.{encode_lower}
use Rattle.serde_json.specs.Data.{Data, null, string}
use Rattle.pt_bsd.specs.declared.label.Label.{Label}
use Rattle.pt_bsd.specs.declared.label.LabelEntry.{LabelEntry}
use Rattle.pt_tables.specs.Fields.{Field, object_of, array_of, num, nums}

-- a counted entry, all numbers as they are stored
abbrev pub part_fields : LabelEntry → List Field
part_fields e =
    (codes "size", num e.size)
    ∷ (codes "offset", num e.offset)
    ∷ (codes "fragment", num e.fragment)
    ∷ (codes "fstype", num e.fstype)
    ∷ (codes "frag", num e.frag)
    ∷ (codes "cpg", num e.cpg)
    ∷ []

abbrev pub part_data : Option LabelEntry → Data
part_data None = null
part_data (Some e) = object_of (part_fields e)

-- bytes are written as hexadecimal digits
abbrev pub label_fields : Label → List Field
label_fields l =
    (codes "kind", num l.kind)
    ∷ (codes "subtype", num l.subtype)
    ∷ (codes "type_name", string (encode_lower l.type_name))
    ∷ (codes "pack_name", string (encode_lower l.pack_name))
    ∷ (codes "geometry", nums l.geometry)
    ∷ (codes "unit", num l.unit)
    ∷ (codes "kept", string (encode_lower l.kept))
    ∷ (codes "bbsize", num l.bbsize)
    ∷ (codes "sbsize", num l.sbsize)
    ∷ (codes "entries", array_of (map part_data l.entries))
    ∷ []

abbrev pub label_data : Label → Data
label_data l = object_of (label_fields l)

-- the label of a partition, null for a slice that has none
abbrev pub bsd_fields : Bool → Option Label → List Field
bsd_fields is_slice (Some l) = (codes "bsd", label_data l) ∷ []
bsd_fields is_slice None = if is_slice then (codes "bsd", null) ∷ [] else []
