-- What a layout is like whose text tells all of it.
use Rattle.std.specs.Prelude.{◌≡◌, ◌<◌, ◌+◌, ◌^◌, ◌⊎◌, ℕ, List, [], ◌∷◌, ◌++◌, All, IfSome, Option, Some, None, length, slice_index}
use Rattle.pt_sector.specs.declared.address.Lba.{Lba}
use Rattle.pt_guid.specs.declared.guid.Guid.{Guid}
use Rattle.pt_bsd.specs.declared.label.Label.{Label}
use Rattle.pt_gpt.specs.declared.entry.Entry.{Entry}
use Rattle.pt_mbr.specs.declared.ebr.Ebr.{Ebr}
use Rattle.pt_mbr.specs.declared.record.Record.{Record}
use Rattle.pt_edit.specs.Chains.{IsLinked}
use Rattle.pt_members.specs.declared.layout.Body.{Body}
use Rattle.pt_members.specs.declared.layout.Body.TheVariants.{Mbr, Gpt}
use Rattle.pt_members.specs.declared.layout.Labelled.{Labelled}
use Rattle.pt_members.specs.declared.layout.Layout.{Layout}
use Rattle.pt_tables.specs.Records.{number_after}

-- ## The widths of fields. The types of a layout's fields say them; a layout that is seen as a value has no types.

-- each of these is less than a limit
abbrev pub AreBelow : ℕ → List ℕ → Type 0
AreBelow limit xs = (i : ℕ) → slice_index xs i < limit

abbrev pub AreBytes : List ℕ → Type 0
AreBytes xs = AreBelow (2 ^ 8) xs

abbrev pub GuidWidth : Guid → Type 0
GuidWidth g = (length g.0 ≡ 16) × AreBytes g.0

-- a name has 36 units of 16 bits
pub record EntryWidths (e : Entry) : Type 0 where
  pub kind : GuidWidth e.kind
  pub unique : GuidWidth e.unique
  pub name : length e.name ≡ 36
  pub units : AreBelow (2 ^ 16) e.name

pub record RecordWidths (r : Record) : Type 0 where
  pub start_chs : AreBytes r.start_chs
  pub kind : r.kind < 2 ^ 8
  pub end_chs : AreBytes r.end_chs

pub record LabelWidths (l : Label) : Type 0 where
  pub type_name : AreBytes l.type_name
  pub pack_name : AreBytes l.pack_name
  pub kept : AreBytes l.kept

abbrev pub EntriesWidths : List (Option Entry) → Type 0
EntriesWidths es = All (λ e. IfSome e EntryWidths) es

abbrev pub RecordsWidths : List (Option Record) → Type 0
RecordsWidths rs = All (λ r. IfSome r RecordWidths) rs

abbrev pub ChainWidths : List Ebr → Type 0
ChainWidths chain = All (λ e. IfSome e.logical RecordWidths) chain

abbrev pub LabelsWidths : List Labelled → Type 0
LabelsWidths labels = All (λ l. LabelWidths l.label) labels

abbrev pub BodyWidths : Body → Type 0
BodyWidths (Gpt t) = GuidWidth t.disk × EntriesWidths t.entries
BodyWidths (Mbr records chain) = (length records ≡ 4) × RecordsWidths records × ChainWidths chain

pub record Widths (o : Layout) : Type 0 where
  pub body : BodyWidths o.body
  pub labels : LabelsWidths o.labels

-- ## The order of a layout's parts, which its text doesn't tell.

-- the numbers of the used places, the first of which has number n
unfoldable pub numbers_from : {X : Type 0} → ℕ → List (Option X) → List ℕ
numbers_from n [] = []
numbers_from n (None ∷ xs) = numbers_from (n + 1) xs
numbers_from n (Some x ∷ xs) = n ∷ numbers_from (n + 1) xs

-- the number of the logical partition of an extended boot record, where it has one
abbrev pub logical_number : ℕ → Option Record → List ℕ
logical_number n None = []
logical_number n (Some r) = n ∷ []

-- the numbers of the logical partitions of a chain, from number n on
unfoldable pub logical_numbers : ℕ → List Ebr → List ℕ
logical_numbers n [] = []
logical_numbers n (e ∷ es) = logical_number n e.logical ++ logical_numbers (number_after n e.logical) es

-- the numbers of the entries, or of the records and the logical partitions
unfoldable pub numbers_of : Body → List ℕ
numbers_of (Gpt t) = numbers_from 1 t.entries
numbers_of (Mbr records chain) = numbers_from 1 records ++ logical_numbers 5 chain

-- labels of the partitions with these numbers, in their order: a partition has one or none
abbrev pub AreLabelsAt : List ℕ → List Labelled → Type 0
AreLabelsAt [] labels = labels ≡ []
AreLabelsAt (n ∷ ns) labels =
    ((l : Label) × (rest : List Labelled) × (labels ≡ record { number = n; label = l } ∷ rest) × AreLabelsAt ns rest)
    ⊎ AreLabelsAt ns labels

-- each extended boot record leads upward to the one behind it, and the last to none
abbrev pub LeadsOn : Body → Type 0
LeadsOn (Gpt t) = Unit {0}
LeadsOn (Mbr records chain) = (first : Option Lba) × IsLinked first chain

-- the labels are those of partitions, in their order, and the chain leads on
pub record InOrder (o : Layout) : Type 0 where
  pub labels : AreLabelsAt (numbers_of o.body) o.labels
  pub chain : LeadsOn o.body
