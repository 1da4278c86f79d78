-- What an object of `partitions` says.
use Rattle.std.specs.Prelude.{ℕ, List, [], ◌∷◌, ◌^◌, Bool, Option, Some, None, Result, Ok, Err, if◌then◌else◌, codes, is_some, option_map}
use Rattle.serde_json.specs.Data.{Data}
use Rattle.serde_json.specs.Find.{as_bool, as_object}
use Rattle.pt_drafts.specs.Attributes.{are_worded, bits_of}
use Rattle.pt_drafts.specs.Labels.{label_of}
use Rattle.pt_drafts.specs.Members.{check, given, has_only, is_text}
use Rattle.pt_drafts.specs.Members.{◌>>=◌}
use Rattle.pt_drafts.specs.Names.{name_of, units_in}
use Rattle.pt_drafts.specs.Texts.{by_text, extent_of, guid_of, named_of, node_number}
use Rattle.pt_drafts.specs.Values.{hex_bytes, if_not_null, whole, whole_below}
use Rattle.pt_drafts.specs.declared.draft.Extent.{Extent}
use Rattle.pt_drafts.specs.declared.draft.Extent.TheVariants as extent
use Rattle.pt_drafts.specs.declared.draft.PartDraft.{PartDraft}
use Rattle.pt_drafts.specs.declared.fault.Key.{Key}
use Rattle.pt_drafts.specs.declared.fault.Key.TheVariants as key
use Rattle.pt_drafts.specs.declared.parts.Identity.{Identity}
use Rattle.pt_drafts.specs.declared.parts.Marks.{Marks}
use Rattle.pt_drafts.specs.declared.parts.Place.{Place}

-- one of two at most
abbrev pub one_of : {A : Type 0} → Key → Option A → Option A → Result (Option A) Key
one_of key None second = Ok second
one_of key (Some x) None = Ok (Some x)
one_of key (Some x) (Some y) = Err key

-- ## Where it is.

-- `number`, or else the number at the end of `node`
abbrev pub number_from : Option ℕ → Option (Option ℕ) → Option ℕ
number_from (Some n) at_end = Some n
number_from None (Some n) = n
number_from None None = None

abbrev pub number_in : Data → Result (Option ℕ) Key
number_in d = do
  number ← given whole (codes "number") key.Number d
  node ← given (by_text (λ text. Some (node_number text))) (codes "node") key.Node d
  Ok (number_from number node)

-- `size` or `last`
abbrev pub extent_in : Data → Result (Option Extent) Key
extent_in d = do
  size ← given extent_of (codes "size") key.Size d
  last ← given whole (codes "last") key.Last d
  one_of key.Last size (option_map extent.Last last)

abbrev pub place_in : Data → Result Place Key
place_in d = do
  number ← number_in d
  start ← given whole (codes "start") key.Start d
  extent ← extent_in d
  offset ← given whole (codes "offset") key.Offset d
  Ok (record { number = number; start = start; extent = extent; offset = offset })

-- ## What it is.

-- `name` or `name_units`
abbrev pub name_in : Data → Result (Option (List ℕ)) Key
name_in d = do
  name ← given (by_text name_of) (codes "name") key.Name d
  units ← given units_in (codes "name_units") key.NameUnits d
  one_of key.NameUnits name units

-- words alone are the attributes; beside a number they are its bits
abbrev pub attributes_from : Option ℕ → Option (Option ℕ) → Result (Option ℕ) Key
attributes_from number None = Ok number
attributes_from number (Some None) = Ok number
attributes_from None (Some (Some bits)) = Ok (Some bits)
attributes_from (Some n) (Some (Some bits)) = if are_worded n bits then Ok (Some n) else Err key.Attrs

abbrev pub attributes_in : Data → Result (Option ℕ) Key
attributes_in d = do
  number ← given whole (codes "attributes") key.Attributes d
  words ← given (if_not_null (by_text bits_of)) (codes "attrs") key.Attrs d
  attributes_from number words

abbrev pub identity_in : Data → Result Identity Key
identity_in d = do
  kind ← given (by_text named_of) (codes "type") key.Type d
  _ ← check key.TypeName (is_text (codes "type_name") d)
  unique ← given (by_text guid_of) (codes "uuid") key.Uuid d
  name ← name_in d
  attributes ← attributes_in d
  Ok (record { kind = kind; unique = unique; name = name; attributes = attributes })

-- ## Marks.

-- 80 is the mark of a partition to be booted
abbrev pub boot_mark : Bool → ℕ
boot_mark bootable = if bootable then 0x80 else 0

-- `bootable` or `boot`
abbrev pub boot_in : Data → Result (Option ℕ) Key
boot_in d = do
  bootable ← given as_bool (codes "bootable") key.Bootable d
  boot ← given (whole_below (2 ^ 8)) (codes "boot") key.Boot d
  one_of key.Boot (option_map boot_mark bootable) boot

abbrev pub marks_in : Data → Result Marks Key
marks_in d = do
  boot ← boot_in d
  start_chs ← given (hex_bytes 3) (codes "start_chs") key.StartChs d
  end_chs ← given (hex_bytes 3) (codes "end_chs") key.EndChs d
  at ← given whole (codes "record") key.Record d
  bsd ← given (if_not_null label_of) (codes "bsd") key.Bsd d
  Ok (record { boot = boot; start_chs = start_chs; end_chs = end_chs; at = at; bsd = bsd })

-- ## The whole object.

abbrev pub part_names : List (List ℕ)
part_names =
    codes "number" ∷ codes "node" ∷ codes "start" ∷ codes "size" ∷ codes "last" ∷ codes "offset" ∷ codes "type"
    ∷ codes "type_name" ∷ codes "uuid" ∷ codes "name" ∷ codes "name_units" ∷ codes "attributes" ∷ codes "attrs"
    ∷ codes "bootable" ∷ codes "boot" ∷ codes "start_chs" ∷ codes "end_chs" ∷ codes "record" ∷ codes "bsd" ∷ []

abbrev pub part_with : Place → Identity → Marks → PartDraft
part_with place identity marks = record {
  number = place.number;
  start = place.start;
  extent = place.extent;
  kind = identity.kind;
  unique = identity.unique;
  name = identity.name;
  attributes = identity.attributes;
  boot = marks.boot;
  start_chs = marks.start_chs;
  end_chs = marks.end_chs;
  at = marks.at;
  offset = place.offset;
  bsd = marks.bsd;
}

-- It has to be an object, then each name has to be known, and then each member has to stand for something.
unfoldable pub part_in : Data → Result PartDraft Key
part_in d = do
  _ ← check key.Partitions (is_some (as_object d))
  _ ← check key.Unknown (has_only part_names d)
  place ← place_in d
  identity ← identity_in d
  marks ← marks_in d
  Ok (part_with place identity marks)
