-- What each sector of a plan must hold.
use Rattle.std.specs.Prelude.{◌≡◌, ◌≢◌, ◌<◌, ◌≤◌, ◌⊎◌, ◌+◌, ◌-◌, ◌^◌, ℕ, List, [], ◌∷◌, length, slice_index_or, Option, Some, None, zero}
use Rattle.std.specs.Prelude.{suc, ◌++◌, replicate, drop, slice_index, slice_range, take, Contains, ◌*◌, get_or}
use Rattle.pt_sector.specs.Sectors.{Span, InSpan, Writes, Sectors, sector, Puts, IsAscending}
use Rattle.pt_sector.specs.declared.address.Lba.{Lba}
use Rattle.pt_mbr.specs.Records.{IsBootIndicator, IsExtendedKind, extended_of, extent_of, IsProtective, AreRecords, record_bytes}
use Rattle.pt_mbr.specs.Chain.{IsUpward, lba, IsInside, StandsAt, EbrBytes}
use Rattle.pt_mbr.specs.declared.record.Record.{Record}
use Rattle.pt_mbr.specs.declared.ebr.Ebr.{Ebr}
use Rattle.pt_gpt.specs.Copies.{array_len, AllTyped, HasRoom, array_bytes, array_sector, header_place, array_place, HeaderBytes}
use Rattle.pt_gpt.specs.Copies.{header_size}
use Rattle.pt_gpt.specs.declared.table.Table.{Table}
use Rattle.pt_bsd.specs.Labels.{IsCounted, FitsSlice, LabelBytes, HasMagic, end_of}
use Rattle.pt_bsd.specs.declared.label.Label.{Label}
use Rattle.pt_members.specs.Members.{slices_of, places_of, place_of, IsPlace}
use Rattle.pt_members.specs.declared.layout.Slice.{Slice}
use Rattle.pt_members.specs.declared.layout.Labelled.{Labelled}
use Rattle.pt_members.specs.declared.layout.Layout.{Layout}
use Rattle.pt_members.specs.declared.layout.Body.{Body}
use Rattle.pt_members.specs.declared.layout.Body.TheVariants.{Mbr, Gpt}
use Rattle.pt_sum.specs.Sums.{crc_of}
use Rattle.pt_gpt.specs.declared.entry.Entry.{Entry}
use Rattle.pt_gpt.specs.declared.header.Header.{Header}
use Rattle.pt_gpt.specs.declared.table.Side.{Side}
use Rattle.pt_gpt.specs.declared.table.Side.TheVariants.{Primary, Backup}
use Rattle.pt_members.specs.Tables.{IsGptTable}
use Rattle.pt_mbr.specs.Changes.{LinksTo, reach_of}
use Rattle.pt_recover.specs.Denotes.{Reads, LabelAt, IsMbrSector}
use Rattle.pt_layout.specs.Healthy.{IsGuarded}

-- ## Layouts that a disk of their size may denote, as far as numbers and places tell.

-- a table of a GPT on n sectors: 1 to 128 entries, a usable range between the arrays, and a type in each used entry
pub record FitsTable (b n : ℕ) (t : Table) : Type 0 where
  pub room : HasRoom b n
  pub some : 1 ≤ length t.entries
  pub most : length t.entries ≤ 128
  pub low : array_len b + 2 ≤ t.first
  pub order : t.first ≤ t.last
  pub high : t.last ≤ n - (array_len b + 2)
  pub typed : AllTyped t.entries

-- a used record of an MBR: it has a type, not the protective one, a size, and a boot indicator, and its numbers have 32 bits
pub record FitsRecord (r : Record) : Type 0 where
  pub typed : r.kind ≢ 0
  pub plain : r.kind ≢ 0xEE
  pub sized : r.size ≢ 0
  pub start : r.start < 2 ^ 32
  pub size : r.size < 2 ^ 32
  pub boot : IsBootIndicator r.boot

abbrev pub FitsSlot : Option Record → Type 0
FitsSlot None = Unit {0}
FitsSlot (Some r) = FitsRecord r

-- a logical partition's: and it is none of an extended partition
abbrev pub FitsLogical : Option Record → Type 0
FitsLogical None = Unit {0}
FitsLogical (Some r) = FitsRecord r × (¬ IsExtendedKind r.kind)

-- extended boot records from a place on: each is where the one before it links to, they lead upward, and the last links to none
abbrev pub Linked : Span → Option Lba → List Ebr → Type 0
Linked x None [] = Unit {0}
Linked x (Some at) [] = ⊥
Linked x None (e ∷ es) = ⊥
Linked x (Some at) (e ∷ es) = (e.at ≡ at) × InSpan x at.0 × IsUpward at e.next × FitsLogical e.logical × Linked x e.next es

-- a chain of an extended partition: at most 128 of them from its first sector on
pub record FitsChain (x : Span) (chain : List Ebr) : Type 0 where
  pub few : length chain ≤ 128
  pub linked : Linked x (Some (lba x.first)) chain

-- no chain without an extended record, a chain of a lone one, and never two
abbrev pub FitsExtended : List Record → List Ebr → Type 0
FitsExtended [] chain = chain ≡ []
FitsExtended (r ∷ []) chain = FitsChain (extent_of r) chain
FitsExtended (r ∷ s ∷ rs) chain = ⊥

-- the records and the chain of an MBR
pub record FitsMbr (records : List (Option Record)) (chain : List Ebr) : Type 0 where
  pub four : length records ≡ 4
  pub each : (k : ℕ) → k < 4 → FitsSlot (slice_index_or records k None)
  pub extended : FitsExtended (extended_of records) chain

abbrev pub FitsBody : ℕ → ℕ → Body → Type 0
FitsBody b n (Mbr records chain) = FitsMbr records chain
FitsBody b n (Gpt t) = FitsTable b n t

-- a label that a slice may have: it has a second sector, and the label three to eight entries, of which c is the slice
pub record FitsLabel (s : Slice) (l : Label) : Type 0 where
  pub second : 2 ≤ s.len
  pub counted : IsCounted l
  pub slice : FitsSlice l s.first s.len

-- labels of these slices, in their order: a slice has one or none
abbrev pub AreLabelsOf : List Slice → List Labelled → Type 0
AreLabelsOf [] labels = labels ≡ []
AreLabelsOf (s ∷ ss) labels =
    ((l : Label) × (rest : List Labelled) × (labels ≡ record { number = s.number; label = l } ∷ rest) × FitsLabel s l × AreLabelsOf ss rest)
    ⊎ AreLabelsOf ss labels

-- a layout that a disk may denote: its table fits, and so do its labels. Whether it lies on the disk is soundness's business
pub record Shaped (b : ℕ) (o : Layout) : Type 0 where
  pub body : FitsBody b o.sectors o.body
  pub labels : AreLabelsOf (slices_of b o.body) o.labels

-- ## The writes of both copies of a table of n sectors with b bytes, and of the protective record.

-- a sector of the tables of a GPT, but for sector 0
abbrev pub IsOfCopy : ℕ → ℕ → ℕ → Type 0
IsOfCopy b n s = (0 < s) × IsGptTable b n s

abbrev pub other_side : Side → Side
other_side Primary = Backup
other_side Backup = Primary

-- a side's header for a table on n sectors
abbrev pub header_of : ℕ → ℕ → Table → Side → Header
header_of b n t side = record {
  my = header_place side n;
  alternate = header_place (other_side side) n;
  first = t.first;
  last = t.last;
  disk = t.disk;
  array = array_place b side n;
  count = length t.entries;
  entry_size = 128;
  array_crc = crc_of (array_bytes t.entries);
}

-- a sector as it is written for a header: of size 92, with zeros in the reserved bytes and behind the header
pub record IsWrittenHeader (b : ℕ) (h : Header) (bytes : List ℕ) : Type 0 where
  pub header : HeaderBytes b h bytes
  pub size : header_size bytes ≡ 92
  pub reserved : slice_range bytes 20 24 ≡ replicate 4 0
  pub rest : drop 92 bytes ≡ replicate (b - 92) 0

-- the writes of the first sectors of an array that begins at a sector
unfoldable pub array_writes : ℕ → List (Option Entry) → ℕ → ℕ → Writes
array_writes b es at zero = []
array_writes b es at (suc k) = array_writes b es at k ++ (at + k, array_sector b es k) ∷ []

-- all of a side's array
abbrev pub array_phase : ℕ → ℕ → Table → Side → Writes
array_phase b n t side = array_writes b t.entries (array_place b side n) (array_len b)

abbrev pub one_write : ℕ → List ℕ → Writes
one_write k v = (k, v) ∷ []

-- the header of the primary copy zeroed
abbrev pub closing : ℕ → Writes
closing b = one_write 1 (replicate b 0)

-- the backup copy: the array, and after it the header in the last sector
abbrev pub backup_phase : ℕ → ℕ → Table → List ℕ → Writes
backup_phase b n t header = array_phase b n t Backup ++ one_write (n - 1) header

-- sector 0 with the protective record put over it
pub record IsProtectedFrom (n : ℕ) (old new : List ℕ) : Type 0 where
  pub protective : IsProtective n new
  pub other : (i : ℕ) → (i < 446) ⊎ (512 ≤ i) → slice_index new i ≡ slice_index old i
  pub boot : take 440 new ≡ take 440 old

-- sector 0 last, where it isn't protective yet
abbrev pub Protects : ℕ → List ℕ → List Writes → Type 0
Protects n old phases = (IsProtective n old × (phases ≡ []))
    ⊎ ((¬ IsProtective n old) × ((new : List ℕ) × IsProtectedFrom n old new × (phases ≡ one_write 0 new ∷ [])))

-- ## The records, the extended boot records and the links of a shaped MBR.

-- where the first of these stands
abbrev pub start_of : List Ebr → Option Lba
start_of [] = None
start_of (e ∷ es) = Some e.at

-- each links to the one behind it, and the last to none
abbrev pub AllLeadOn : List Ebr → Type 0
AllLeadOn [] = Unit {0}
AllLeadOn (e ∷ es) = (e.next ≡ start_of es) × AllLeadOn es

-- each stands above the one before it, the first not below a place
abbrev pub Climbs : ℕ → List Ebr → Type 0
Climbs low [] = Unit {0}
Climbs low (e ∷ es) = (low ≤ e.at.0) × Climbs (e.at.0 + 1) es

-- each stands where the one before it links to, inside and upward, and the last links to none
abbrev pub LinkedOn : Span → ℕ → Option Lba → List Ebr → Type 0
LinkedOn x n None [] = Unit {0}
LinkedOn x n (Some at) [] = ⊥
LinkedOn x n None (e ∷ es) = ⊥
LinkedOn x n (Some at) (e ∷ es) = (e.at ≡ at) × IsInside x n at × IsUpward at e.next × LinkedOn x n e.next es

-- a chain of the lone extended record of n sectors, or none
abbrev pub IsLoneChain : ℕ → List Record → List Ebr → Type 0
IsLoneChain n [] chain = chain ≡ []
IsLoneChain n (r ∷ []) chain = (length chain ≤ 128) × LinkedOn (extent_of r) n (Some (lba (extent_of r).first)) chain
IsLoneChain n (r ∷ s ∷ rs) chain = ⊥

-- the link to the first of these, in an extended partition from `first` on
abbrev pub link_to : ℕ → List Ebr → Option Record
link_to first [] = None
link_to first (e ∷ es) = Some (record {
  boot = 0;
  start_chs = 0xFE ∷ 0xFF ∷ 0xFF ∷ [];
  kind = 0x05;
  end_chs = 0xFE ∷ 0xFF ∷ 0xFF ∷ [];
  start = e.at.0 - first;
  size = reach_of e.logical;
})

-- each leads to the one behind it by the link to that one
abbrev pub AllLinkOn : ℕ → List Ebr → Type 0
AllLinkOn first [] = Unit {0}
AllLinkOn first (e ∷ es) = LinksTo first e.next (link_to first es) × AllLinkOn first es

-- ## The label places of a layout and its labels, side by side.

-- slices in order, each with its label among these or with none
abbrev pub Along : (Slice → Option Label → Type 0) → List Slice → List Labelled → Type 0
Along P [] labels = labels ≡ []
Along P (w ∷ ws) labels =
    ((l : Label) × (rest : List Labelled) × (labels ≡ record { number = w.number; label = l } ∷ rest) × P w (Some l)
    × Along P ws rest)
    ⊎ (P w None × Along P ws labels)

-- a label fits the slice, and so does none
abbrev pub FitsPlace : Slice → Option Label → Type 0
FitsPlace w None = Unit {0}
FitsPlace w (Some l) = FitsLabel w l

-- ## What the label places of a wanted layout must hold, and what a plan's writes make of them.

-- the layout that d denotes had this label in sector s: some slice of it has its place there
pub record HadIn (b : ℕ) (d : Sectors) (l : Layout) (s : ℕ) (m : Label) : Type 0 where
  pub slice : Slice
  pub stands : Contains (places_of b (length d) l.body) slice
  pub place : place_of slice ≡ s
  pub label : LabelAt d slice m

abbrev pub Had : ℕ → Sectors → Option Layout → ℕ → Label → Type 0
Had b d o s m = (l : Layout) × (o ≡ Some l) × HadIn b d l s m

-- the label of the slice, written over these bytes
pub record IsEncoded (l : Label) (w : Slice) (under v : List ℕ) : Type 0 where
  pub reads : LabelBytes l w.first w.len v
  pub rest : drop (end_of l) v ≡ drop (end_of l) under

-- the label over zeros. It has one encoding: where one stands at the slice's place, it is that
pub record IsFresh (b : ℕ) (d : Sectors) (l : Label) (w : Slice) (v : List ℕ) : Type 0 where
  pub encoded : IsEncoded l w (replicate b 0) v
  pub one : IsEncoded l w (replicate b 0) (sector d (place_of w)) → v ≡ sector d (place_of w)

-- what the place of a slice with this label must hold: it was there, another was, or none
pub data IsLabelTarget (b : ℕ) (d : Sectors) (o : Option Layout) (w : Slice) (l : Label) (v : List ℕ) : Type 0 where
  kept : Had b d o (place_of w) l → LabelBytes l w.first w.len v → v ≡ sector d (place_of w) → IsLabelTarget b d o w l v
  changed : (m : Label) → Had b d o (place_of w) m → m ≢ l → IsEncoded l w (sector d (place_of w)) v → IsLabelTarget b d o w l v
  new : ((m : Label) → ¬ Had b d o (place_of w) m) → IsFresh b d l w v → IsLabelTarget b d o w l v

-- with these writes sector s comes to hold v: it is written, or holds it and isn't written
abbrev pub ComesToHold : Sectors → Writes → ℕ → List ℕ → Type 0
ComesToHold d ws s v = Puts ws s v ⊎ ((v ≡ sector d s) × ((x : List ℕ) → ¬ Puts ws s x))

-- a labelled place ends as its target; another bears no magic, and isn't written
abbrev pub Met : ℕ → Sectors → Option Layout → Writes → Slice → Option Label → Type 0
Met b d o ws w (Some l) = (v : List ℕ) × IsLabelTarget b d o w l v × ComesToHold d ws (place_of w) v
Met b d o ws w None = (¬ HasMagic (sector d (place_of w))) × ((x : List ℕ) → ¬ Puts ws (place_of w) x)

-- each label place of p is met by these writes
abbrev pub LabelsMet : ℕ → Sectors → Option Layout → Layout → Writes → Type 0
LabelsMet b d o p ws = Along (Met b d o ws) (places_of b p.sectors p.body) p.labels

-- how a label comes to stand where only new ones are written: it was there; or none was, and it is written, unless
-- recovery of d reads it there already
pub data IsLabelSet (b : ℕ) (d : Sectors) (o : Option Layout) (ws : Writes) (w : Slice) (l : Label) : Type 0 where
  stood : Had b d o (place_of w) l → LabelBytes l w.first w.len (sector d (place_of w)) → ((x : List ℕ) → ¬ Puts ws (place_of w) x)
      → IsLabelSet b d o ws w l
  set : (v : List ℕ) → ((m : Label) → ¬ Had b d o (place_of w) m) → IsFresh b d l w v
      → ¬ (Reads b d (place_of w) × (v ≡ sector d (place_of w))) → Puts ws (place_of w) v → IsLabelSet b d o ws w l
  there : ((m : Label) → ¬ Had b d o (place_of w) m) → IsEncoded l w (replicate b 0) (sector d (place_of w)) → Reads b d (place_of w)
      → ((x : List ℕ) → ¬ Puts ws (place_of w) x) → IsLabelSet b d o ws w l

abbrev pub Set : ℕ → Sectors → Option Layout → Writes → Slice → Option Label → Type 0
Set b d o ws w (Some l) = IsLabelSet b d o ws w l
Set b d o ws w None = (¬ HasMagic (sector d (place_of w))) × ((x : List ℕ) → ¬ Puts ws (place_of w) x)

-- the writes of the new labels, and of no other, in the order of their sectors
pub record WritesLabels (b : ℕ) (d : Sectors) (o : Option Layout) (p : Layout) (ws : Writes) : Type 0 where
  pub ascending : IsAscending ws
  pub few : length ws ≤ 128
  pub set : Along (Set b d o ws) (places_of b p.sectors p.body) p.labels
  pub each : (s : ℕ) (v : List ℕ) → Puts ws s v → IsPlace (places_of b p.sectors p.body) s

abbrev pub Unguarded : ℕ → Sectors → Writes → Type 0
Unguarded b d ws = (s : ℕ) (v : List ℕ) → Puts ws s v → ¬ IsGuarded b d s

-- ## What sector 0 and the extended boot records of a wanted layout must hold.

-- the 16 bytes of record k
abbrev pub record_at : ℕ → List ℕ → List ℕ
record_at k bytes = slice_range bytes (446 + 16 * k) (462 + 16 * k)

-- a record that stays keeps its bytes, and another is written anew
abbrev pub IsRecordTarget : Option Record → Option Record → ℕ → List ℕ → List ℕ → Type 0
IsRecordTarget old n k under v =
    ((old ≡ n) × (record_at k v ≡ record_at k under)) ⊎ ((old ≢ n) × (record_at k v ≡ record_bytes n))

-- what sector 0 must hold: what it held, but for the records that change
pub record IsHeadTarget (old new : List (Option Record)) (under v : List ℕ) : Type 0 where
  pub formed : IsMbrSector v
  pub records : AreRecords new v
  pub boot : take 440 v ≡ take 440 under
  pub count : length v ≡ length under
  pub other : (i : ℕ) → (i < 446) ⊎ (510 ≤ i) → slice_index v i ≡ slice_index under i
  pub each : (k : ℕ) → k < 4 → IsRecordTarget (get_or old k None) (get_or new k None) k under v

-- an extended boot record over one that read as w, with this link where it has to change
pub record IsEbrOver (first : ℕ) (e w : Ebr) (link : Option Record) (under v : List ℕ) : Type 0 where
  pub was : EbrBytes first e.at w under
  pub reads : EbrBytes first e.at e v
  pub count : length v ≡ length under
  pub other : (i : ℕ) → (i < 446) ⊎ (478 ≤ i) → slice_index v i ≡ slice_index under i
  pub logical : IsRecordTarget w.logical e.logical 0 under v
  pub next : ((w.next ≡ e.next) × (record_at 1 v ≡ record_at 1 under))
      ⊎ ((w.next ≢ e.next) × (record_at 1 v ≡ record_bytes link))

-- one where none was: zeros but for its records and the signature
pub record IsEbrMade (b first : ℕ) (e : Ebr) (link : Option Record) (v : List ℕ) : Type 0 where
  pub reads : EbrBytes first e.at e v
  pub bytes : v ≡ replicate 446 0 ++
      (record_bytes e.logical ++ (record_bytes link ++ (replicate 32 0 ++ (0x55 ∷ 0xAA ∷ replicate (b - 512) 0))))

-- what the sector of an extended boot record must hold: it stands in the old chain, or is new
pub data IsEbrTarget (b : ℕ) (d : Sectors) (old : List Ebr) (first : ℕ) (e : Ebr) (link : Option Record) (v : List ℕ) : Type 0 where
  over : (w : Ebr) → StandsAt e.at.0 old → IsEbrOver first e w link (sector d e.at.0) v → IsEbrTarget b d old first e link v
  made : ¬ StandsAt e.at.0 old → IsEbrMade b first e link v → IsEbrTarget b d old first e link v

-- each of these ends as its target
abbrev pub EbrsEnd : ℕ → Sectors → List Ebr → Writes → ℕ → List Ebr → Type 0
EbrsEnd b d old ws first [] = Unit {0}
EbrsEnd b d old ws first (e ∷ es) =
    ((v : List ℕ) × IsEbrTarget b d old first e (link_to first es) v × ComesToHold d ws e.at.0 v) × EbrsEnd b d old ws first es

-- of the lone extended record
abbrev pub ChainEnds : ℕ → Sectors → List Ebr → Writes → List Record → List Ebr → Type 0
ChainEnds b d old ws [] chain = Unit {0}
ChainEnds b d old ws (r ∷ rs) chain = EbrsEnd b d old ws (extent_of r).first chain

-- ## Slices stand in the order of their numbers.

-- each number is above the one before it
abbrev pub NumbersAscend : ℕ → List Slice → Type 0
NumbersAscend low [] = Unit {0}
NumbersAscend low (s ∷ ss) = (low ≤ s.number) × NumbersAscend (s.number + 1) ss
