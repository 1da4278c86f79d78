-- Who agrees with a disk on the sectors that recovery reads denotes the same, by the same sectors.
use Rattle.std.proofs.Common.{◌≡◌, ◌<◌, ℕ, List, [], ◌∷◌, length, Option, Some, None, refl, sym, ◌∙◌, subst, inl, inr}
use Rattle.std.specs.Prelude.{◌↔◌, ◌⊎◌}
use Rattle.pt_sector.specs.Sectors.{Sectors, sector, Agrees}
use Rattle.pt_mbr.specs.Records.{AreRecords, extended_of, extent_of}
use Rattle.pt_mbr.specs.declared.record.Record.{Record}
use Rattle.pt_mbr.specs.declared.ebr.Ebr.{Ebr}
use Rattle.pt_mbr.proofs.Terms.{chain_reads_decide}
use Rattle.pt_bsd.specs.Labels.{LabelBytes}
use Rattle.pt_gpt.specs.Copies.{HasCopy, SameSide, HasRoom}
use Rattle.pt_gpt.proofs.Terms.{side_reads_decide_lem}
use Rattle.pt_gpt.specs.declared.table.Table.{Table}
use Rattle.pt_gpt.specs.declared.table.Side.TheVariants.{Primary, Backup}
use Rattle.pt_recover.specs.Denotes.{IsMbrDisk, IsMbrSector, IsMbr, HasChain, ExtendedReads, TableIs, TableReads, LabelsAre, BodyIs}
use Rattle.pt_recover.specs.Denotes.{BodyReads, head, chain, table, Denotes, Reads, body, label, SameMeaning}
use Rattle.pt_members.specs.Members.{places_of, place_of, IsPlace}
use Rattle.pt_members.specs.declared.layout.Layout.{Layout}
use Rattle.pt_members.specs.declared.layout.Labelled.{Labelled}
use Rattle.pt_members.specs.declared.layout.Slice.{Slice}
use Rattle.pt_members.specs.declared.layout.Body.{Body}
use Rattle.pt_members.specs.declared.layout.Body.TheVariants.{Mbr, Gpt}

-- two disks with one sector 0
record SameHead (c d : Sectors) : Type 0 where
  count : length c ≡ length d
  zeroth : 0 < length d → sector c 0 ≡ sector d 0

turned : (c d : Sectors) → SameHead c d → SameHead d c
turned c d same = record { count = sym same.count; zeroth = λ some. sym (same.zeroth (subst (λ (n : ℕ). 0 < n) same.count some)) }

disk_same : (c d : Sectors) → SameHead c d → IsMbrDisk d → IsMbrDisk c
disk_same c d same disk =
    (subst (λ (n : ℕ). 0 < n) (sym same.count) disk.0, subst (λ (x : List ℕ). IsMbrSector x) (sym (same.zeroth disk.0)) disk.1)

mbr_same : (c d : Sectors) (m : List (Option Record)) → SameHead c d → IsMbr d m → IsMbr c m
mbr_same c d m same mbr = (disk_same c d same mbr.0, subst (λ (x : List ℕ). AreRecords m x) (sym (same.zeroth mbr.0.0)) mbr.1)

room_same : (b : ℕ) (c d : Sectors) → length c ≡ length d → HasRoom b (length d) → HasRoom b (length c)
room_same b c d count room = subst (λ (n : ℕ). HasRoom b n) (sym count) room

-- the chain of a lone extended record
record SameExtended (rs : List Record) (c d : Sectors) : Type 0 where
  chain : (list : List Ebr) → HasChain c rs list ↔ HasChain d rs list
  reads : (s : ℕ) → ExtendedReads c rs s ↔ ExtendedReads d rs s

extended_same : (rs : List Record) (c d : Sectors) → Agrees (ExtendedReads d rs) c d → SameExtended rs c d
extended_same [] c d agrees = record { chain = λ list. (λ h. h, λ h. h); reads = λ s. (λ h. h, λ h. h) }
extended_same (r ∷ []) c d agrees =
    let same = chain_reads_decide (extent_of r) c d agrees in
    record { chain = same.chain; reads = same.reads }
extended_same (r ∷ t ∷ rs) c d agrees = record { chain = λ list. (λ h. h, λ h. h); reads = λ s. (λ h. h, λ h. h) }

turned_extended : (rs : List Record) (c d : Sectors) → SameExtended rs c d → SameExtended rs d c
turned_extended rs c d same =
    record { chain = λ list. ((same.chain list).1, (same.chain list).0); reads = λ s. ((same.reads s).1, (same.reads s).0) }

-- the tables of both sides
record SameTables (b : ℕ) (c d : Sectors) : Type 0 where
  table : (t : Table) → TableIs b c t ↔ TableIs b d t
  reads : (s : ℕ) → TableReads b c s ↔ TableReads b d s

no_copy_same : (b : ℕ) (c d : Sectors) → SameSide b Primary c d → ¬ HasCopy b d Primary → ¬ HasCopy b c Primary
no_copy_same b c d same none has = none (has.0, (same.copies has.0).0 has.1)

turned_side : (b : ℕ) (c d : Sectors) → SameSide b Primary c d → SameSide b Primary d c
turned_side b c d same = record {
  heads = λ h. ((same.heads h).1, (same.heads h).0);
  tables = λ h t. ((same.tables h t).1, (same.tables h t).0);
  copies = λ t. ((same.copies t).1, (same.copies t).0);
  faults = λ e. ((same.faults e).1, (same.faults e).0);
  reads = λ s. ((same.reads s).1, (same.reads s).0);
}

-- of the primary copy, or where none exists, of the backup
either : {P Q N M R S : Type 0} → (P → Q) → (N → M) → (N → R → S) → P ⊎ (N × R) → Q ⊎ (M × S)
either first none second (inl here) = inl (first here)
either first none second (inr other) = inr (none other.0, second other.0 other.1)

table_there : (b : ℕ) (c d : Sectors) (t : Table) → SameSide b Primary c d → (¬ HasCopy b d Primary → SameSide b Backup c d)
    → TableIs b d t → TableIs b c t
table_there b c d t primary backup = either (primary.copies t).1 (no_copy_same b c d primary) (λ none. ((backup none).copies t).1)

table_back : (b : ℕ) (c d : Sectors) (t : Table) → SameSide b Primary c d → (¬ HasCopy b d Primary → SameSide b Backup c d)
    → TableIs b c t → TableIs b d t
table_back b c d t primary backup =
    let none = no_copy_same b d c (turned_side b c d primary) in
    either (primary.copies t).0 none (λ other. ((backup (none other)).copies t).0)

reads_there : (b : ℕ) (c d : Sectors) (s : ℕ) → SameSide b Primary c d → (¬ HasCopy b d Primary → SameSide b Backup c d)
    → TableReads b d s → TableReads b c s
reads_there b c d s primary backup = either (primary.reads s).1 (no_copy_same b c d primary) (λ none. ((backup none).reads s).1)

reads_back : (b : ℕ) (c d : Sectors) (s : ℕ) → SameSide b Primary c d → (¬ HasCopy b d Primary → SameSide b Backup c d)
    → TableReads b c s → TableReads b d s
reads_back b c d s primary backup =
    let none = no_copy_same b d c (turned_side b c d primary) in
    either (primary.reads s).0 none (λ other. ((backup (none other)).reads s).0)

tables_same : (b : ℕ) (c d : Sectors) → Agrees (TableReads b d) c d → SameTables b c d
tables_same b c d agrees =
    let primary = side_reads_decide_lem b Primary c d (record { count = agrees.count; each = λ s here. agrees.each s (inl here) }) in
    let backup : ¬ HasCopy b d Primary → SameSide b Backup c d =
    λ none. side_reads_decide_lem b Backup c d (record { count = agrees.count; each = λ s here. agrees.each s (inr (none, here)) }) in
    record {
      table = λ t. (table_back b c d t primary backup, table_there b c d t primary backup);
      reads = λ s. (reads_back b c d s primary backup, reads_there b c d s primary backup);
    }

turned_tables : (b : ℕ) (c d : Sectors) → SameTables b c d → SameTables b d c
turned_tables b c d same = record { table = λ t. ((same.table t).1, (same.table t).0); reads = λ s. ((same.reads s).1, (same.reads s).0) }

-- two disks with one body, of the same sectors
record SameParts (b : ℕ) (c d : Sectors) : Type 0 where
  zeroth : SameHead c d
  extended : (m : List (Option Record)) → IsMbr d m → SameExtended (extended_of m) c d
  tables : ¬ IsMbrDisk d → HasRoom b (length d) → SameTables b c d

turned_parts : (b : ℕ) (c d : Sectors) → SameParts b c d → SameParts b d c
turned_parts b c d same =
    let back = turned c d same.zeroth in
    record {
      zeroth = back;
      extended = λ m mbr. turned_extended (extended_of m) c d (same.extended m (mbr_same d c m back mbr));
      tables =
          λ none room. turned_tables b c d (same.tables (λ disk. none (disk_same c d same.zeroth disk)) (room_same b d c back.count room));
    }

parts_same : (b : ℕ) (c d : Sectors) → Agrees (BodyReads b d) c d → SameParts b c d
parts_same b c d agrees = record {
  zeroth = record { count = agrees.count; zeroth = λ some. agrees.each 0 (head some refl) };
  extended =
      λ m mbr. extended_same (extended_of m) c d (record { count = agrees.count; each = λ s reads. agrees.each s (chain m mbr reads) });
  tables = λ none room. tables_same b c d (record { count = agrees.count; each = λ s reads. agrees.each s (table none room reads) });
}

body_same : (b : ℕ) (c d : Sectors) (y : Body) → SameParts b c d → BodyIs b d y → BodyIs b c y
body_same b c d (Mbr records ebrs) same is = (mbr_same c d records same.zeroth is.0, ((same.extended records is.0).chain ebrs).1 is.1)
body_same b c d (Gpt t) same is = (
  λ disk. is.0 (disk_same d c (turned c d same.zeroth) disk),
  room_same b c d same.zeroth.count is.1,
  ((same.tables is.0 is.1).table t).1 is.2,
)

body_reads_same : (b : ℕ) (c d : Sectors) (s : ℕ) → SameParts b c d → BodyReads b d s → BodyReads b c s
body_reads_same b c d s same (head some at) = head (subst (λ (n : ℕ). 0 < n) (sym same.zeroth.count) some) at
body_reads_same b c d s same (chain m mbr reads) = chain m (mbr_same c d m same.zeroth mbr) (((same.extended m mbr).reads s).1 reads)
body_reads_same b c d s same (table none room reads) =
    table (λ disk. none (disk_same d c (turned c d same.zeroth) disk)) (room_same b c d same.zeroth.count room)
    (((same.tables none room).reads s).1 reads)

-- labels at the same places, of the same bytes
labels_same : (c d : Sectors) (ps : List Slice) (labels : List Labelled) → ((s : ℕ) → IsPlace ps s → sector c s ≡ sector d s)
    → LabelsAre d ps labels → LabelsAre c ps labels
labels_same c d [] labels same are = are
labels_same c d (p ∷ ps) labels same (inl here) =
    inl (
      here.0,
      here.1,
      here.2,
      subst (λ (x : List ℕ). LabelBytes here.0 p.first p.len x)
          (sym (same (place_of p) (inl refl))) here.3,
      labels_same c d ps here.1 (λ s at. same s (inr at)) here.4,
    )
labels_same c d (p ∷ ps) labels same (inr without) =
    inr (
      λ has. without.0 (has.0, subst (λ (x : List ℕ). LabelBytes has.0 p.first p.len x) (same (place_of p) (inl refl)) has.1),
      labels_same c d ps labels (λ s at. same s (inr at)) without.1,
    )

-- two disks with one body, and one sector at each label place
record SameAll (b : ℕ) (c d : Sectors) : Type 0 where
  parts : SameParts b c d
  places : (y : Body) → BodyIs b d y → (s : ℕ) → IsPlace (places_of b (length d) y) s → sector c s ≡ sector d s

turned_all : (b : ℕ) (c d : Sectors) → SameAll b c d → SameAll b d c
turned_all b c d same =
    let back = turned_parts b c d same.parts in
    record {
      parts = back;
      places =
          λ y is s at. sym (same.places y (body_same b d c y back is) s
          (subst (λ (n : ℕ). IsPlace (places_of b n y) s) same.parts.zeroth.count at));
    }

denotes_same : (b : ℕ) (c d : Sectors) (o : Option Layout) → SameAll b c d → Denotes b d o → Denotes b c o
denotes_same b c d (Some o) same denotes =
    let count = sym same.parts.zeroth.count in (
      denotes.0 ∙ count,
      body_same b c d o.body same.parts denotes.1,
      subst (λ (n : ℕ). LabelsAre c (places_of b n o.body) o.labels) count
          (labels_same c d (places_of b (length d) o.body) o.labels (same.places o.body denotes.1) denotes.2),
    )
denotes_same b c d None same denotes = λ y is. denotes y (body_same b d c y (turned_parts b c d same.parts) is)

all_reads_same : (b : ℕ) (c d : Sectors) (s : ℕ) → SameAll b c d → Reads b d s → Reads b c s
all_reads_same b c d s same (body reads) = body (body_reads_same b c d s same.parts reads)
all_reads_same b c d s same (label y is at) =
    label y (body_same b c d y same.parts is) (subst (λ (n : ℕ). IsPlace (places_of b n y) s) (sym same.parts.zeroth.count) at)

pub same_meaning : (b : ℕ) (c d : Sectors) → Agrees (Reads b d) c d → SameMeaning b c d
same_meaning b c d agrees =
    let there : SameAll b c d = record {
      parts = parts_same b c d (record { count = agrees.count; each = λ s reads. agrees.each s (body reads) });
      places = λ y is s at. agrees.each s (label y is at);
    } in
    let back = turned_all b c d there in
    record {
      denotes = λ o. (denotes_same b d c o back, denotes_same b c d o there);
      reads = λ s. (all_reads_same b d c s back, all_reads_same b c d s there);
    }
