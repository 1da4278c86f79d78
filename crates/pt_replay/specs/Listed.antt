-- What C gets of a layout: its table, and a row for each partition.
use Rattle.std.specs.Prelude.{◌≡◌, ◌<◌, ℕ, List, map, length, take, drop, min, replicate}
use Rattle.pt_members.specs.declared.layout.Layout.{Layout}
use Rattle.pt_members.specs.declared.layout.Body.{Body}
use Rattle.pt_members.specs.declared.layout.Body.TheVariants.{Mbr, Gpt}
use Rattle.pt_members.specs.declared.member.Kind.{Kind}
use Rattle.pt_members.specs.declared.member.Kind.TheVariants.{Leaf, Slice, Extended}
use Rattle.pt_members.specs.declared.member.Member.{Member}
use Rattle.pt_members.specs.declared.row.Row.{Row}
use Rattle.pt_members.specs.declared.row.Source.{Source}
use Rattle.pt_members.specs.declared.row.Source.TheVariants as source
use Rattle.pt_members.specs.Rows as partitions
use Rattle.pt_replay.specs.Replies.{letter_code, counting}
use Rattle.pt_replay.specs.declared.answers.Reply.{Reply}
use Rattle.pt_replay.specs.declared.rows.TableRow.{TableRow}
use Rattle.pt_replay.specs.declared.rows.MemberRow.{MemberRow}

abbrev pub row_of_table : Layout → Body → TableRow
row_of_table o (Mbr records chain) = record { sectors = o.sectors; first = 0; last = 0; kind = 1; disk = replicate 16 0 }
row_of_table o (Gpt t) = record { sectors = o.sectors; first = t.first; last = t.last; kind = 2; disk = t.disk.0 }

abbrev pub kind_code : Kind → ℕ
kind_code Leaf = 0
kind_code Slice = 1
kind_code Extended = 2

-- a sector's number; the highest of 64 bits for one past it
abbrev pub narrowed : ℕ → ℕ
narrowed s = min s 0xFFFFFFFFFFFFFFFF

-- what every partition has
abbrev pub row_of_member : Member → MemberRow
row_of_member m = record {
  number = m.path.number;
  first = narrowed m.first;
  last = narrowed m.last;
  attributes = 0;
  letter = letter_code m.path.letter;
  kind = kind_code m.kind;
  type_byte = 0;
  boot = 0;
  type_guid = replicate 16 0;
  unique = replicate 16 0;
  name = replicate 36 0;
}

-- with what stands in its place: a record's type and boot indicator; an entry's type, GUID, attributes and name; the type of a
-- label's entry
abbrev pub row_with : Member → Source → MemberRow
row_with m (source.Record r) = record (row_of_member m) { type_byte = r.kind; boot = r.boot }
row_with m (source.Entry e) =
    record (row_of_member m) { attributes = e.attributes; type_guid = e.kind.0; unique = e.unique.0; name = e.name }
row_with m (source.Part e) = record (row_of_member m) { type_byte = e.fstype }

abbrev pub row_as : Row → MemberRow
row_as r = row_with r.member r.source

-- a row for each partition, in path order: the records or entries, then the logical partitions; a slice before its label's
abbrev pub rows_of : ℕ → Layout → List MemberRow
rows_of b o = map row_as (partitions.rows_of b o)

-- what the caller's buffers hold
pub record Listing : Type 0 where
  pub table : TableRow
  pub rows : List MemberRow

abbrev pub listing : TableRow → List MemberRow → Listing
listing table rows = record { table = table; rows = rows }

-- the table and the rows of a layout stand in the buffers, the rest of which is as it was, and the reply counts the rows
pub record IsListed (b : ℕ) (o : Layout) (old new : Listing) (r : Reply) : Type 0 where
  pub table_is : new.table ≡ row_of_table o o.body
  pub reply_is : r ≡ counting (length (rows_of b o)) 0
  pub rows_are : take (length (rows_of b o)) new.rows ≡ rows_of b o
  pub rest_is : drop (length (rows_of b o)) new.rows ≡ drop (length (rows_of b o)) old.rows

-- they have no room for the rows, which the reply counts, and hold none of them
pub record HasNoRoom (b : ℕ) (o : Layout) (old new : Listing) (r : Reply) : Type 0 where
  pub table_is : new.table ≡ row_of_table o o.body
  pub reply_is : r ≡ counting (length (rows_of b o)) 0
  pub small : length old.rows < length (rows_of b o)
  pub rows_stay : new.rows ≡ old.rows
