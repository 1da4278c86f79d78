-- A disk whose sectors are alike to those that recovery of another reads denotes the same, by the same sectors.
use Rattle.std.proofs.Common.{◌≡◌, ◌<◌, ◌≤◌, ℕ, zero, suc, ◌+◌, List, [], ◌∷◌, length, Option, Some, None, refl, sym, ap, ◌∙◌, subst}
use Rattle.std.proofs.Common.{arith, inl, inr, take}
use Rattle.std.specs.Prelude.{◌↔◌}
use Rattle.pt_sector.specs.Sectors.{Sectors, sector, Span}
use Rattle.pt_sector.specs.declared.address.Lba.{Lba}
use Rattle.pt_mbr.specs.Records.{extended_of, extent_of}
use Rattle.pt_mbr.specs.Chain.{EbrAt, Walk, Chain, ReadsFrom, ChainReads, lba}
use Rattle.pt_mbr.specs.declared.record.Record.{Record}
use Rattle.pt_mbr.specs.declared.ebr.Ebr.{Ebr}
use Rattle.pt_mbr.proofs.Same.{inside_same, first_read, rest_read}
use Rattle.pt_gpt.specs.Copies.{HasCopy, HasRoom, Copy, CopyWith, IsHead, IsPlaced, AreEntries, SideReads, counted}
use Rattle.pt_gpt.specs.Copies.{header_place, header_sector, array_of, bytes_from}
use Rattle.pt_gpt.specs.declared.header.Header.{Header}
use Rattle.pt_gpt.specs.declared.table.Table.{Table}
use Rattle.pt_gpt.specs.declared.table.Side.{Side}
use Rattle.pt_gpt.specs.declared.table.Side.TheVariants.{Primary, Backup}
use Rattle.pt_recover.specs.Denotes.{IsMbrDisk, IsMbr, HasChain, ExtendedReads, TableIs, TableReads, LabelsAre, BodyIs}
use Rattle.pt_recover.specs.Denotes.{BodyReads, head, chain, table, Denotes, Reads, body, label, SameMeaning}
use Rattle.pt_recover.specs.Alike.{SameHeads, SameEbrs, SameLabels, SameHeaders, IsAlike, ReadsAlike}
use Rattle.pt_members.specs.Members.{places_of, place_of, IsPlace}
use Rattle.pt_members.specs.declared.layout.Layout.{Layout}
use Rattle.pt_members.specs.declared.layout.Labelled.{Labelled}
use Rattle.pt_members.specs.declared.layout.Slice.{Slice}
use Rattle.pt_members.specs.declared.layout.Body.{Body}
use Rattle.pt_members.specs.declared.layout.Body.TheVariants.{Mbr, Gpt}

-- two disks with one sector 0, as recovery reads it
record SameHead (c d : Sectors) : Type 0 where
  count : length c ≡ length d
  zeroth : 0 < length d → SameHeads (sector c 0) (sector d 0)

back_heads : (x y : List ℕ) → SameHeads x y → SameHeads y x
back_heads x y same = record {
  plain = (same.plain.1, same.plain.0);
  records = λ is m. let to = same.records (same.plain.1 is) m in (to.1, to.0);
}

turned : (c d : Sectors) → SameHead c d → SameHead d c
turned c d same = record {
  count = sym same.count;
  zeroth = λ some. back_heads (sector c 0) (sector d 0) (same.zeroth (subst (λ (n : ℕ). 0 < n) same.count some));
}

disk_same : (c d : Sectors) → SameHead c d → IsMbrDisk d → IsMbrDisk c
disk_same c d same disk = (subst (λ (n : ℕ). 0 < n) (sym same.count) disk.0, (same.zeroth disk.0).plain.1 disk.1)

mbr_same : (c d : Sectors) (m : List (Option Record)) → SameHead c d → IsMbr d m → IsMbr c m
mbr_same c d m same mbr =
    let here = disk_same c d same mbr.0 in
    (here, ((same.zeroth mbr.0.0).records here.1 m).1 mbr.1)

room_same : (b : ℕ) (c d : Sectors) → length c ≡ length d → HasRoom b (length d) → HasRoom b (length c)
room_same b c d count room = subst (λ (n : ℕ). HasRoom b n) (sym count) room

-- chains

ebr_there : (c d : Sectors) (x : Span) (at : Lba) (e : Ebr) → length c ≡ length d → SameEbrs (sector c at.0) (sector d at.0)
    → EbrAt d x at e → EbrAt c x at e
ebr_there c d x at e count same here =
    record { inside = inside_same x (length c) (length d) at count here.inside; bytes = (same x.first at e).1 here.bytes }

back_ebrs : (x y : List ℕ) → SameEbrs x y → SameEbrs y x
back_ebrs x y same = λ first at e. let to = same first at e in (to.1, to.0)

walk_there : (c d : Sectors) (x : Span) (k : ℕ) (from : Option Lba) (es : List Ebr) (to : Option Lba) → length c ≡ length d
    → ((s : ℕ) → ReadsFrom d x k from s → SameEbrs (sector c s) (sector d s)) → length es ≤ k → Walk d x from es to → Walk c x from es to
walk_there c d x k from [] to count same few walk = walk
walk_there c d x k None (e ∷ es) to count same few walk = walk
walk_there c d x zero (Some at) (e ∷ es) to count same few walk = absurd (omega arith)
walk_there c d x (suc k) (Some at) (e ∷ es) to count same few walk = (
  ebr_there c d x at e count (same at.0 (first_read d x (suc k) at (omega arith) walk.0.inside)) walk.0,
  walk.1,
  walk_there c d x k e.next es to count (λ s reads. same s (rest_read d x k at e s walk.0 walk.1 reads)) (omega arith) walk.2,
)

walk_back : (c d : Sectors) (x : Span) (k : ℕ) (from : Option Lba) (es : List Ebr) (to : Option Lba) → length c ≡ length d
    → ((s : ℕ) → ReadsFrom d x k from s → SameEbrs (sector c s) (sector d s)) → length es ≤ k → Walk c x from es to → Walk d x from es to
walk_back c d x k from [] to count same few walk = walk
walk_back c d x k None (e ∷ es) to count same few walk = walk
walk_back c d x zero (Some at) (e ∷ es) to count same few walk = absurd (omega arith)
walk_back c d x (suc k) (Some at) (e ∷ es) to count same few walk =
    let inside = inside_same x (length d) (length c) at (sym count) walk.0.inside in
    let alike = back_ebrs (sector c at.0) (sector d at.0) (same at.0 (first_read d x (suc k) at (omega arith) inside)) in
    let here = ebr_there d c x at e (sym count) alike walk.0 in
    (here, walk.1, walk_back c d x k e.next es to count (λ s reads. same s (rest_read d x k at e s here walk.1 reads)) (omega arith) walk.2)

-- disks with the same walks
record SameWalks (x : Span) (c d : Sectors) : Type 0 where
  count : length c ≡ length d
  walk : (es : List Ebr) (to : Option Lba) → length es ≤ 128 → Walk d x (Some (lba x.first)) es to → Walk c x (Some (lba x.first)) es to

chain_same : (c d : Sectors) (x : Span) (list : List Ebr) → SameWalks x c d → Chain d x list → Chain c x list
chain_same c d x list same is = record { few = is.few; whole = same.walk list None is.few is.whole }

chain_reads_same : (c d : Sectors) (x : Span) (s : ℕ) → SameWalks x c d → ChainReads d x s → ChainReads c x s
chain_reads_same c d x s same reads = record {
  before = reads.before;
  few = reads.few;
  reached = same.walk reads.before (Some (lba s)) (omega (arith, reads.few)) reads.reached;
  inside = inside_same x (length c) (length d) (lba s) same.count reads.inside;
}

-- the chain of a lone extended record
record SameExtended (rs : List Record) (c d : Sectors) : Type 0 where
  chain : (list : List Ebr) → HasChain c rs list ↔ HasChain d rs list
  reads : (s : ℕ) → ExtendedReads c rs s ↔ ExtendedReads d rs s

extended_same : (rs : List Record) (c d : Sectors) → length c ≡ length d
    → ((s : ℕ) → ExtendedReads d rs s → SameEbrs (sector c s) (sector d s)) → SameExtended rs c d
extended_same [] c d count alike = record { chain = λ list. (λ h. h, λ h. h); reads = λ s. (λ h. h, λ h. h) }
extended_same (r ∷ []) c d count alike =
    let x = extent_of r in
    let there : SameWalks x c d =
    record { count = count; walk = λ es to few walk. walk_there c d x 128 (Some (lba x.first)) es to count alike few walk } in
    let back : SameWalks x d c =
    record { count = sym count; walk = λ es to few walk. walk_back c d x 128 (Some (lba x.first)) es to count alike few walk } in
    record {
      chain = λ list. (chain_same d c x list back, chain_same c d x list there);
      reads = λ s. (chain_reads_same d c x s back, chain_reads_same c d x s there);
    }
extended_same (r ∷ t ∷ rs) c d count alike = record { chain = λ list. (λ h. h, λ h. h); reads = λ s. (λ h. h, λ h. h) }

turned_extended : (rs : List Record) (c d : Sectors) → SameExtended rs c d → SameExtended rs d c
turned_extended rs c d same =
    record { chain = λ list. ((same.chain list).1, (same.chain list).0); reads = λ s. ((same.reads s).1, (same.reads s).0) }

-- the sides of a GPT

bytes_same : (c d : Sectors) (at n : ℕ) → ((s : ℕ) → at ≤ s → s < at + n → sector c s ≡ sector d s) → bytes_from c at n ≡ bytes_from d at n
unfolding bytes_from
bytes_same c d at zero same = refl
bytes_same c d at (suc n) same =
    let front = bytes_same c d at n (λ s low high. same s low (omega arith)) in
    let last = same (at + n) (omega arith) (omega arith) in
    rw (front, last) refl

-- two disks with the same header on a side, or none, and the same bytes in its array
record SideAlike (b : ℕ) (side : Side) (c d : Sectors) : Type 0 where
  count : length c ≡ length d
  header : SameHeaders b (header_sector c side) (header_sector d side)
  array : (h : Header) → IsHead b d side h → array_of b c h ≡ array_of b d h

head_same : (b : ℕ) (c d : Sectors) (side : Side) (h : Header) → length c ≡ length d
    → SameHeaders b (header_sector c side) (header_sector d side) → IsHead b d side h → IsHead b c side h
head_same b c d side h count header is =
    record { bytes = (header h).1 is.bytes; placed = subst (λ (n : ℕ). IsPlaced b side n h) (sym count) is.placed }

back_headers : (b : ℕ) (x y : List ℕ) → SameHeaders b x y → SameHeaders b y x
back_headers b x y same = λ h. let to = same h in (to.1, to.0)

turned_alike : (b : ℕ) (c d : Sectors) (side : Side) → SideAlike b side c d → SideAlike b side d c
turned_alike b c d side alike =
    let header = back_headers b (header_sector c side) (header_sector d side) alike.header in
    record {
      count = sym alike.count;
      header = header;
      array = λ h is. sym (alike.array h (head_same b d c side h (sym alike.count) header is));
    }

with_same : (b : ℕ) (c d : Sectors) (side : Side) (h : Header) (t : Table) → SideAlike b side c d → CopyWith b d side h t
    → CopyWith b c side h t
with_same b c d side h t alike copy =
    let same = sym (alike.array h copy.is_head) in
    record {
      is_head = head_same b c d side h alike.count alike.header copy.is_head;
      crc = rw (alike.array h copy.is_head) copy.crc;
      disk = copy.disk;
      first = copy.first;
      last = copy.last;
      count = copy.count;
      entries = subst (λ (bytes : List ℕ). AreEntries t.entries bytes) same copy.entries;
    }

copy_same : (b : ℕ) (c d : Sectors) (side : Side) (t : Table) → SideAlike b side c d → Copy b d side t → Copy b c side t
copy_same b c d side t alike copy = record {
  room = room_same b c d alike.count copy.room;
  head = copy.head;
  stands = with_same b c d side copy.head t alike copy.stands;
}

side_reads_same : (b : ℕ) (c d : Sectors) (side : Side) (s : ℕ) → SideAlike b side c d → SideReads b d side s → SideReads b c side s
side_reads_same b c d side s alike (inl here) = inl (here ∙ ap (header_place side) (sym alike.count))
side_reads_same b c d side s alike (inr within) =
    inr (within.0, head_same b c d side within.0 alike.count alike.header within.1, within.2)

-- a side that is read alike, each byte of its array the same
side_alike : (b : ℕ) (c d : Sectors) (side : Side) → length c ≡ length d → ¬ IsMbrDisk d
    → ((s : ℕ) → SideReads b d side s → IsAlike b d s (sector c s)) → SideAlike b side c d
side_alike b c d side count none alike = record {
  count = count;
  header = subst (λ (n : ℕ). SameHeaders b (sector c (header_place side n)) (header_sector d side)) (sym count)
      (alike (header_place side (length d)) (inl refl)).says.header;
  array = λ h is. ap (take _) (bytes_same c d h.array (counted b h.count)
      (λ s low high. (alike s (inr (h, is, (low, high)))).array none (side, h, is, (low, high))));
}

no_copy_same : (b : ℕ) (c d : Sectors) → SideAlike b Primary c d → ¬ HasCopy b d Primary → ¬ HasCopy b c Primary
no_copy_same b c d alike none has = none (has.0, copy_same b d c Primary has.0 (turned_alike b c d Primary alike) has.1)

-- the tables of both sides
record SameTables (b : ℕ) (c d : Sectors) : Type 0 where
  table : (t : Table) → TableIs b c t ↔ TableIs b d t
  reads : (s : ℕ) → TableReads b c s ↔ TableReads b d s

-- the primary side, and where it has no copy, the backup
record BothAlike (b : ℕ) (c d : Sectors) : Type 0 where
  primary : SideAlike b Primary c d
  backup : ¬ HasCopy b d Primary → SideAlike b Backup c d

turned_both : (b : ℕ) (c d : Sectors) → BothAlike b c d → BothAlike b d c
turned_both b c d alike =
    let primary = turned_alike b c d Primary alike.primary in
    record {
      primary = primary;
      backup = λ none. turned_alike b c d Backup (alike.backup (no_copy_same b d c primary none));
    }

table_there : (b : ℕ) (c d : Sectors) (t : Table) → BothAlike b c d → TableIs b d t → TableIs b c t
table_there b c d t alike (inl copy) = inl (copy_same b c d Primary t alike.primary copy)
table_there b c d t alike (inr (none, copy)) =
    inr (no_copy_same b c d alike.primary none, copy_same b c d Backup t (alike.backup none) copy)

table_reads_there : (b : ℕ) (c d : Sectors) (s : ℕ) → BothAlike b c d → TableReads b d s → TableReads b c s
table_reads_there b c d s alike (inl reads) = inl (side_reads_same b c d Primary s alike.primary reads)
table_reads_there b c d s alike (inr (none, reads)) =
    inr (no_copy_same b c d alike.primary none, side_reads_same b c d Backup s (alike.backup none) reads)

tables_same : (b : ℕ) (c d : Sectors) → length c ≡ length d → ¬ IsMbrDisk d
    → ((s : ℕ) → TableReads b d s → IsAlike b d s (sector c s)) → SameTables b c d
tables_same b c d count none alike =
    let there : BothAlike b c d = record {
      primary = side_alike b c d Primary count none (λ s reads. alike s (inl reads));
      backup = λ lost. side_alike b c d Backup count none (λ s reads. alike s (inr (lost, reads)));
    } in
    let back = turned_both b c d there in
    record {
      table = λ t. (table_there b d c t back, table_there b c d t there);
      reads = λ s. (table_reads_there b d c s back, table_reads_there b c d s there);
    }

turned_tables : (b : ℕ) (c d : Sectors) → SameTables b c d → SameTables b d c
turned_tables b c d same = record { table = λ t. ((same.table t).1, (same.table t).0); reads = λ s. ((same.reads s).1, (same.reads s).0) }

-- two disks with one body, of the same sectors
record SameParts (b : ℕ) (c d : Sectors) : Type 0 where
  zeroth : SameHead c d
  extended : (m : List (Option Record)) → IsMbr d m → SameExtended (extended_of m) c d
  tables : ¬ IsMbrDisk d → HasRoom b (length d) → SameTables b c d

turned_parts : (b : ℕ) (c d : Sectors) → SameParts b c d → SameParts b d c
turned_parts b c d same =
    let back = turned c d same.zeroth in
    record {
      zeroth = back;
      extended = λ m mbr. turned_extended (extended_of m) c d (same.extended m (mbr_same d c m back mbr));
      tables =
          λ none room. turned_tables b c d (same.tables (λ disk. none (disk_same c d same.zeroth disk)) (room_same b d c back.count room));
    }

parts_same : (b : ℕ) (c d : Sectors) → length c ≡ length d → ((s : ℕ) → BodyReads b d s → IsAlike b d s (sector c s)) → SameParts b c d
parts_same b c d count alike = record {
  zeroth = record { count = count; zeroth = λ some. (alike 0 (head some refl)).says.head refl };
  extended = λ m mbr. extended_same (extended_of m) c d count (λ s reads. (alike s (chain m mbr reads)).says.ebr);
  tables = λ none room. tables_same b c d count none (λ s reads. alike s (table none room reads));
}

body_same : (b : ℕ) (c d : Sectors) (y : Body) → SameParts b c d → BodyIs b d y → BodyIs b c y
body_same b c d (Mbr records ebrs) same is = (mbr_same c d records same.zeroth is.0, ((same.extended records is.0).chain ebrs).1 is.1)
body_same b c d (Gpt t) same is = (
  λ disk. is.0 (disk_same d c (turned c d same.zeroth) disk),
  room_same b c d same.zeroth.count is.1,
  ((same.tables is.0 is.1).table t).1 is.2,
)

body_reads_same : (b : ℕ) (c d : Sectors) (s : ℕ) → SameParts b c d → BodyReads b d s → BodyReads b c s
body_reads_same b c d s same (head some at) = head (subst (λ (n : ℕ). 0 < n) (sym same.zeroth.count) some) at
body_reads_same b c d s same (chain m mbr reads) = chain m (mbr_same c d m same.zeroth mbr) (((same.extended m mbr).reads s).1 reads)
body_reads_same b c d s same (table none room reads) =
    table (λ disk. none (disk_same d c (turned c d same.zeroth) disk)) (room_same b c d same.zeroth.count room)
    (((same.tables none room).reads s).1 reads)

-- labels at the same places, alike
labels_same : (c d : Sectors) (ps : List Slice) (labels : List Labelled) → ((s : ℕ) → IsPlace ps s → SameLabels (sector c s) (sector d s))
    → LabelsAre d ps labels → LabelsAre c ps labels
labels_same c d [] labels same are = are
labels_same c d (p ∷ ps) labels same (inl here) =
    inl (
      here.0,
      here.1,
      here.2,
      (same (place_of p) (inl refl) here.0 p.first p.len).1 here.3,
      labels_same c d ps here.1 (λ s at. same s (inr at)) here.4,
    )
labels_same c d (p ∷ ps) labels same (inr without) =
    inr (
      λ has. without.0 (has.0, (same (place_of p) (inl refl) has.0 p.first p.len).0 has.1),
      labels_same c d ps labels (λ s at. same s (inr at)) without.1,
    )

back_labels : (x y : List ℕ) → SameLabels x y → SameLabels y x
back_labels x y same = λ l first len. let to = same l first len in (to.1, to.0)

-- two disks with one body, and alike at each label place
record SameAll (b : ℕ) (c d : Sectors) : Type 0 where
  parts : SameParts b c d
  places : (y : Body) → BodyIs b d y → (s : ℕ) → IsPlace (places_of b (length d) y) s → SameLabels (sector c s) (sector d s)

turned_all : (b : ℕ) (c d : Sectors) → SameAll b c d → SameAll b d c
turned_all b c d same =
    let back = turned_parts b c d same.parts in
    record {
      parts = back;
      places =
          λ y is s at. back_labels (sector c s) (sector d s) (same.places y (body_same b d c y back is) s
          (subst (λ (n : ℕ). IsPlace (places_of b n y) s) same.parts.zeroth.count at));
    }

denotes_same : (b : ℕ) (c d : Sectors) (o : Option Layout) → SameAll b c d → Denotes b d o → Denotes b c o
denotes_same b c d (Some o) same denotes =
    let count = sym same.parts.zeroth.count in (
      denotes.0 ∙ count,
      body_same b c d o.body same.parts denotes.1,
      subst (λ (n : ℕ). LabelsAre c (places_of b n o.body) o.labels) count
          (labels_same c d (places_of b (length d) o.body) o.labels (same.places o.body denotes.1) denotes.2),
    )
denotes_same b c d None same denotes = λ y is. denotes y (body_same b d c y (turned_parts b c d same.parts) is)

all_reads_same : (b : ℕ) (c d : Sectors) (s : ℕ) → SameAll b c d → Reads b d s → Reads b c s
all_reads_same b c d s same (body reads) = body (body_reads_same b c d s same.parts reads)
all_reads_same b c d s same (label y is at) =
    label y (body_same b c d y same.parts is) (subst (λ (n : ℕ). IsPlace (places_of b n y) s) (sym same.parts.zeroth.count) at)

pub alike_meaning : (b : ℕ) (c d : Sectors) → ReadsAlike b c d → SameMeaning b c d
alike_meaning b c d alike =
    let there : SameAll b c d = record {
      parts = parts_same b c d alike.count (λ s reads. alike.each s (body reads));
      places = λ y is s at. (alike.each s (label y is at)).says.label;
    } in
    let back = turned_all b c d there in
    record {
      denotes = λ o. (denotes_same b d c o back, denotes_same b c d o there);
      reads = λ s. (all_reads_same b d c s back, all_reads_same b c d s there);
    }
