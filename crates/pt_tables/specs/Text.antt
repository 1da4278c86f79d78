-- A table as a text of JSON, in the manner of `sfdisk --json`.
use Rattle.std.specs.Prelude.{◌≡◌, ℕ, List, [], ◌∷◌, ◌++◌, Some, codes, length}
use Rattle.json.specs.Lex.{tokens}
use Rattle.json.specs.Layout.{pretty}
use Rattle.serde_json.specs.Data.{Data, string}
use Rattle.serde_json.specs.Read.{read}
use Rattle.serde_json.specs.Written.{IsInOrder}
use Rattle.pt_members.specs.declared.layout.Body.{Body}
use Rattle.pt_members.specs.declared.layout.Body.TheVariants.{Mbr, Gpt}
use Rattle.pt_members.specs.declared.layout.Labelled.{Labelled}
use Rattle.pt_members.specs.declared.layout.Layout.{Layout}
use Rattle.pt_tables.specs.Fields.{Field, object_of, array_of, num}
use Rattle.pt_tables.specs.Entries.{entries_data, guid_text}
use Rattle.pt_tables.specs.Records.{records_data, logicals_data, chain_fields}

-- what stands in every table
abbrev pub common_fields : List ℕ → ℕ → ℕ → List Field
common_fields device b n =
    (codes "device", string device) ∷ (codes "unit", string (codes "sectors")) ∷ (codes "sectorsize", num b) ∷ (codes "sectors", num n) ∷ []

abbrev pub body_fields : List ℕ → List Labelled → Body → List Field
body_fields device labels (Gpt t) =
    (codes "label", string (codes "gpt"))
    ∷ (codes "id", string (guid_text t.disk))
    ∷ (codes "firstlba", num t.first)
    ∷ (codes "lastlba", num t.last)
    ∷ (codes "entries", num (length t.entries))
    ∷ (codes "partitions", array_of (entries_data device labels 1 t.entries))
    ∷ []
body_fields device labels (Mbr records chain) =
    (codes "label", string (codes "dos"))
    ∷ (codes "partitions", array_of (records_data device labels 1 records ++ logicals_data device labels 5 chain))
    ∷ chain_fields chain

-- the table of a layout, on sectors of b bytes of the device with this name
abbrev pub table_data : List ℕ → ℕ → Layout → Data
table_data device b o =
    object_of ((codes "partitiontable", object_of (common_fields device b o.sectors ++ body_fields device o.labels o.body)) ∷ [])

-- a text that reads as the value, with all that stands in it once and in order, and laid out in lines
pub record IsText (text : List ℕ) (value : Data) : Type 0 where
  pub reads : read text ≡ Some value
  pub order : IsInOrder text value
  pub layout : text ≡ pretty (tokens text)
