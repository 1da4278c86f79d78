-- Entries that are written as one object are equal, and so are their labels.
use Rattle.std.proofs.Common.{◌≡◌, ◌∙◌, ℕ, List, ◌∷◌, ◌++◌, Option, Some, codes, refl, sym, ap}
use Rattle.serde_json.specs.Data.{Data, string}
use Rattle.serde_json.specs.Find.{get}
use Rattle.pt_bsd.specs.declared.label.Label.{Label}
use Rattle.pt_gpt.specs.declared.entry.Entry.{Entry}
use Rattle.pt_guid.specs.declared.guid.Guid.{Guid}
use Rattle.pt_members.specs.Members.{is_slice_kind}
use Rattle.pt_types.specs.Types.{entry_name_of}
use Rattle.pt_tables.specs.Fields.{Field, end_field, num, object_of, type_name_fields}
use Rattle.pt_tables.specs.Labels.{bsd_fields}
use Rattle.pt_tables.specs.Entries.{attribute_fields, entry_fields, entry_kind_fields, guid_text, name_fields}
use Rattle.pt_tables.specs.Shown.{EntryWidths, GuidWidth}
use Rattle.pt_tables.proofs.Found.{Lacks, Other, Tells, found, lacks_both, one_found, tells_before, tells_behind, tells_here, tells_later}
use Rattle.pt_tables.proofs.Parts.{attributes_in, lacks_attributes, lacks_label, lacks_name, lacks_type_name, last_in, one_attributes}
use Rattle.pt_tables.proofs.Parts.{one_end, other_end, size_in, tells_attributes, tells_end, tells_size}
use Rattle.pt_tables.proofs.SameLabels.{OptionWidths, label_in, num_from, one_label_in, tells_label}
use Rattle.pt_tables.proofs.SameNames.{numbers_of, one_name, tells_name, tells_name_units, text_of}
use Rattle.pt_tables.proofs.SameTexts.{one_guid}

-- what an entry says behind its two GUIDs
abbrev said : Entry → Option Label → List Field
said e l =
    type_name_fields (entry_name_of e.kind.0) ++
    (name_fields e.name ++ (attribute_fields e.attributes ++ bsd_fields (is_slice_kind e.kind.0) l))

lacks_said : (k : List ℕ) → Other k (codes "type_name") → Other k (codes "name") → Other k (codes "name_units")
    → Other k (codes "attributes")
    → Other k (codes "attrs") → Other k (codes "bsd") → (e : Entry) (l : Option Label) → Lacks k (said e l)
lacks_said k type text units number attrs bsd e l =
    lacks_both k (type_name_fields (entry_name_of e.kind.0)) _ (lacks_type_name k type (entry_name_of e.kind.0))
    (lacks_both k (name_fields e.name) _ (lacks_name k text units e.name)
    (lacks_both k (attribute_fields e.attributes) _ (lacks_attributes k number attrs e.attributes)
    (lacks_label k bsd (is_slice_kind e.kind.0) l)))

module _ (device : List ℕ) (n : ℕ) (e : Entry) (l : Option Label) where
  -- what stands behind the number and the device's name
  behind_node : (k : List ℕ) (o : Option Data) → Other k (codes "number") → Other k (codes "node")
      → Tells k ((codes "start", num e.first) ∷ end_field e.first e.last ∷ entry_kind_fields e l) o → Tells k (entry_fields device n e l) o
  behind_node k o number node tells = tells_later k _ _ o number (tells_later k _ _ o node tells)

  -- what stands behind the place
  behind_place : (k : List ℕ) (o : Option Data) → Other k (codes "number") → Other k (codes "node") → Other k (codes "start")
      → Other k (codes "size") → Other k (codes "last") → Tells k (entry_kind_fields e l) o → Tells k (entry_fields device n e l) o
  behind_place k o number node start size last tells =
      behind_node k o number node (tells_later k _ _ o start (tells_later k _ _ o (other_end k e.first e.last size last) tells))

  -- what stands behind the two GUIDs
  behind_guids : (k : List ℕ) (o : Option Data) → Other k (codes "number") → Other k (codes "node") → Other k (codes "start")
      → Other k (codes "size") → Other k (codes "last") → Other k (codes "type") → Other k (codes "uuid") → Tells k (said e l) o
      → Tells k (entry_fields device n e l) o
  unfolding entry_kind_fields
  behind_guids k o number node start size last type uuid tells =
      behind_place k o number node start size last (tells_later k _ _ o type (tells_later k _ _ o uuid tells))

  tells_number : Tells (codes "number") (entry_fields device n e l) (Some (num n))
  unfolding entry_kind_fields
  tells_number =
      let end = other_end (codes "number") e.first e.last refl refl in
      let rest = lacks_said (codes "number") refl refl refl refl refl refl e l in
      tells_here (codes "number") (num n) _ (refl, (refl, (end, (refl, (refl, rest)))))

  tells_start : Tells (codes "start") (entry_fields device n e l) (Some (num e.first))
  unfolding entry_kind_fields
  tells_start =
      behind_node (codes "start") (Some (num e.first)) refl refl
      (tells_here (codes "start") (num e.first) _
      (other_end (codes "start") e.first e.last refl refl, (refl, (refl, lacks_said (codes "start") refl refl refl refl refl refl e l))))

  entry_size : Tells (codes "size") (entry_fields device n e l) (size_in e.first e.last)
  unfolding entry_kind_fields
  entry_size =
      behind_node (codes "size") (size_in e.first e.last) refl refl
      (tells_later (codes "size") _ _ _ refl
      (tells_size e.first e.last _ (refl, (refl, lacks_said (codes "size") refl refl refl refl refl refl e l))))

  entry_end : Tells (codes "last") (entry_fields device n e l) (last_in e.first e.last)
  unfolding entry_kind_fields
  entry_end =
      behind_node (codes "last") (last_in e.first e.last) refl refl
      (tells_later (codes "last") _ _ _ refl
      (tells_end e.first e.last _ (refl, (refl, lacks_said (codes "last") refl refl refl refl refl refl e l))))

  tells_type : Tells (codes "type") (entry_fields device n e l) (Some (string (guid_text e.kind)))
  unfolding entry_kind_fields
  tells_type =
      behind_place (codes "type") _ refl refl refl refl refl
      (tells_here (codes "type") (string (guid_text e.kind)) _ (refl, lacks_said (codes "type") refl refl refl refl refl refl e l))

  tells_uuid : Tells (codes "uuid") (entry_fields device n e l) (Some (string (guid_text e.unique)))
  unfolding entry_kind_fields
  tells_uuid =
      behind_place (codes "uuid") _ refl refl refl refl refl
      (tells_later (codes "uuid") _ _ _ refl
      (tells_here (codes "uuid") (string (guid_text e.unique)) _ (lacks_said (codes "uuid") refl refl refl refl refl refl e l)))

  -- what stands behind the name
  lacks_rest : (k : List ℕ) → Other k (codes "attributes") → Other k (codes "attrs") → Other k (codes "bsd")
      → Lacks k (attribute_fields e.attributes ++ bsd_fields (is_slice_kind e.kind.0) l)
  lacks_rest k number attrs bsd =
      lacks_both k (attribute_fields e.attributes) _ (lacks_attributes k number attrs e.attributes)
      (lacks_label k bsd (is_slice_kind e.kind.0) l)

  entry_name : Tells (codes "name") (entry_fields device n e l) (text_of e.name)
  entry_name =
      behind_guids (codes "name") (text_of e.name) refl refl refl refl refl refl refl
      (tells_behind (codes "name") (type_name_fields (entry_name_of e.kind.0)) _ _
      (lacks_type_name (codes "name") refl (entry_name_of e.kind.0))
      (tells_before (codes "name") (name_fields e.name) _ _ (tells_name e.name) (lacks_rest (codes "name") refl refl refl)))

  entry_units : Tells (codes "name_units") (entry_fields device n e l) (numbers_of e.name)
  entry_units =
      behind_guids (codes "name_units") (numbers_of e.name) refl refl refl refl refl refl refl
      (tells_behind (codes "name_units") (type_name_fields (entry_name_of e.kind.0)) _ _
      (lacks_type_name (codes "name_units") refl (entry_name_of e.kind.0))
      (tells_before (codes "name_units") (name_fields e.name) _ _ (tells_name_units e.name)
      (lacks_rest (codes "name_units") refl refl refl)))

  entry_attributes : Tells (codes "attributes") (entry_fields device n e l) (attributes_in e.attributes)
  entry_attributes =
      behind_guids (codes "attributes") (attributes_in e.attributes) refl refl refl refl refl refl refl
      (tells_behind (codes "attributes") (type_name_fields (entry_name_of e.kind.0)) _ _
      (lacks_type_name (codes "attributes") refl (entry_name_of e.kind.0))
      (tells_behind (codes "attributes") (name_fields e.name) _ _ (lacks_name (codes "attributes") refl refl e.name)
      (tells_before (codes "attributes") (attribute_fields e.attributes) _ _ (tells_attributes e.attributes)
      (lacks_label (codes "attributes") refl (is_slice_kind e.kind.0) l))))

  entry_label : Tells (codes "bsd") (entry_fields device n e l) (label_in (is_slice_kind e.kind.0) l)
  entry_label =
      behind_guids (codes "bsd") (label_in (is_slice_kind e.kind.0) l) refl refl refl refl refl refl refl
      (tells_behind (codes "bsd") (type_name_fields (entry_name_of e.kind.0)) _ _
      (lacks_type_name (codes "bsd") refl (entry_name_of e.kind.0))
      (tells_behind (codes "bsd") (name_fields e.name) _ _ (lacks_name (codes "bsd") refl refl e.name)
      (tells_behind (codes "bsd") (attribute_fields e.attributes) _ _ (lacks_attributes (codes "bsd") refl refl e.attributes)
      (tells_label (is_slice_kind e.kind.0) l))))

  pub entry_number : get (codes "number") (object_of (entry_fields device n e l)) ≡ Some (num n)
  entry_number = found (codes "number") (entry_fields device n e l) (Some (num n)) tells_number

pub guid_from : (g h : Guid) → GuidWidth g → GuidWidth h → Some (string (guid_text g)) ≡ Some (string (guid_text h)) → g ≡ h
guid_from g h fits others same = one_guid g h fits others (cc)

module _ (device other : List ℕ) (n m : ℕ) (e f : Entry) (l k : Option Label) where
  pub one_entry : EntryWidths e → EntryWidths f → OptionWidths l → OptionWidths k
      → object_of (entry_fields device n e l) ≡ object_of (entry_fields other m f k) → (e ≡ f) × (l ≡ k)
  one_entry fits others label_fits label_others same =
      let at : (key : List ℕ) (o p : Option Data) → Tells key (entry_fields device n e l) o → Tells key
      (entry_fields other m f k) p → o ≡ p =
      λ key o p here there. one_found key (entry_fields device n e l) (entry_fields other m f k) o p here there same in
      let kind = guid_from e.kind f.kind fits.kind others.kind (at (codes "type") _ _ (tells_type device n e l) (tells_type other m f k)) in
      let unique = guid_from e.unique f.unique fits.unique others.unique
      (at (codes "uuid") _ _ (tells_uuid device n e l) (tells_uuid other m f k)) in
      let first = num_from e.first f.first (at (codes "start") _ _ (tells_start device n e l) (tells_start other m f k)) in
      let last = one_end e.first e.last f.last
      (at (codes "size") _ _ (entry_size device n e l) (entry_size other m f k) ∙ ap (λ (x : ℕ). size_in x f.last) (sym first))
      (at (codes "last") _ _ (entry_end device n e l) (entry_end other m f k) ∙ ap (λ (x : ℕ). last_in x f.last) (sym first)) in
      let attributes = one_attributes e.attributes f.attributes
      (at (codes "attributes") _ _ (entry_attributes device n e l) (entry_attributes other m f k)) in
      let name = one_name e.name f.name (fits.name ∙ sym others.name) fits.units others.units
      (at (codes "name") _ _ (entry_name device n e l) (entry_name other m f k))
      (at (codes "name_units") _ _ (entry_units device n e l) (entry_units other m f k)) in
      let label = one_label_in (is_slice_kind e.kind.0) (is_slice_kind f.kind.0) l k label_fits label_others
      (at (codes "bsd") _ _ (entry_label device n e l) (entry_label other m f k)) in
      (λ i. record { kind = kind i; unique = unique i; first = first i; last = last i; attributes = attributes i; name = name i }, label)
