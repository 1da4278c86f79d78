-- What an edit of a disk's layout keeps.
use Rattle.std.specs.Prelude.{◌≡◌, ◌<◌, ℕ, List, Contains, length, get_or, ◌+◌, ◌++◌, ◌∷◌, [], map, ◌⊎◌, is_some, slice_index_or, Some}
use Rattle.std.specs.Prelude.{None}
use Rattle.pt_mbr.specs.declared.ebr.Ebr.{Ebr}
use Rattle.pt_members.specs.Members.{places_of, place_of, slices_of, label_of, slice_from, number_path, top_group}
use Rattle.pt_members.specs.declared.layout.Slice.{Slice}
use Rattle.pt_members.specs.declared.layout.Body.{Body}
use Rattle.pt_members.specs.declared.layout.Body.TheVariants.{Mbr, Gpt}
use Rattle.std.proofs.Common.{◌*◌, ◌≤◌, Option}
use Rattle.pt_sector.specs.Sectors.{IsAscending, Sectors, Writes, Puts}
use Rattle.pt_bsd.specs.declared.label.Label.{Label}
use Rattle.pt_gpt.specs.Copies.{array_len}
use Rattle.pt_recover.specs.Denotes.{Denotes, LabelAt, SliceHasLabel}
use Rattle.pt_members.specs.declared.layout.Labelled.{Labelled}
use Rattle.pt_members.specs.declared.layout.Layout.{Layout}
use Rattle.pt_apply.specs.Plans.{writes_in}
use Rattle.pt_cases.specs.Writes.{Had, Shaped}
use Rattle.pt_mbr.specs.declared.record.Record.{Record}
use Rattle.pt_bsd.specs.Labels.{empty_of, entry_of}
use Rattle.pt_members.specs.declared.member.Kind.TheVariants as kind
use Rattle.pt_members.specs.declared.member.Member.{Member}

-- ## As many things as there are different sectors, one of each among them: no two are of one sector.

-- thing k of a list
abbrev pub IsNth : {X : Type 0} → List X → ℕ → X → Type 0
IsNth ts k t = (k < length ts) × (get_or ts k t ≡ t)

-- each of these sectors has a thing in the list
abbrev pub Covers : {X : Type 0} → (X → ℕ) → List X → List ℕ → Type 0
Covers f ts ys = (s : ℕ) → Contains ys s → (t : _) × Contains ts t × (f t ≡ s)

-- ## The sectors that a shaped and sound layout's records and labels stand in are different ones.

-- none of these is one of those behind it
abbrev pub AllDiffer : List ℕ → Type 0
AllDiffer [] = Unit {0}
AllDiffer (x ∷ xs) = (¬ Contains xs x) × AllDiffer xs

-- the places of the labels, and of the extended boot records
abbrev pub label_sectors : List Slice → List ℕ
label_sectors ws = map (λ (w : Slice). place_of w) ws

abbrev pub chain_sectors : List Ebr → List ℕ
chain_sectors chain = map (λ (e : Ebr). e.at.0) chain

-- the sectors of a layout's own records and labels: sector 0 and the chain of an MBR, and the label places
abbrev pub own_sectors : ℕ → ℕ → Body → List ℕ
own_sectors b n (Mbr records chain) = 0 ∷ (chain_sectors chain ++ label_sectors (places_of b n (Mbr records chain)))
own_sectors b n (Gpt t) = label_sectors (places_of b n (Gpt t))

-- ## How many writes a plan for a GPT has: those of both copies and of sector 0, and one for each new label.

-- sector s is the place of a slice of these, which gets this label where o has none
pub record IsNewAt (b : ℕ) (d : Sectors) (o : Option Layout) (slices : List Slice) (labels : List Labelled) (s : ℕ) : Type 0 where
  pub slice : Slice
  pub label : Label
  pub stands : Contains slices slice
  pub wanted : Contains labels (record { number = slice.number; label = label })
  pub place : place_of slice ≡ s
  pub none : (m : Label) → ¬ Had b d o s m

-- as many writes as a plan of both copies has at most: two arrays, two headers, a zeroed one, sector 0, and so many labels
abbrev pub copies_bound : ℕ → ℕ → ℕ
copies_bound b labels = 2 * array_len b + 4 + labels

-- the writes of new labels, each of another sector, and how many writes there are in all
pub record HasFewWrites (b : ℕ) (d : Sectors) (p : Layout) (phases : List Writes) : Type 0 where
  pub old : Option Layout
  pub from : Denotes b d old
  pub labels : Writes
  pub ascending : IsAscending labels
  pub new : (s : ℕ) (v : List ℕ) → Puts labels s v → IsNewAt b d old (places_of b p.sectors p.body) p.labels s
  pub count : length (writes_in phases) ≤ copies_bound b (length labels)

-- ## What an edit keeps of a layout, or of nothing.

-- two labels are the same but for entries other than c, and count the same ones
pub record SameButParts (l m : Label) : Type 0 where
  pub same : m ≡ record l { entries = m.entries }
  pub places : length m.entries ≡ length l.entries
  pub counted : (k : ℕ) → is_some (entry_of m k) ≡ is_some (entry_of l k)
  pub raw : entry_of m 2 ≡ entry_of l 2

-- a slice of the old layout on the same sectors
pub record WasSlice (b : ℕ) (o : Layout) (s was : Slice) : Type 0 where
  pub stands : Contains (slices_of b o.body) was
  pub first : was.first ≡ s.first
  pub len : was.len ≡ s.len

-- what was there had no label, or one that is the same but for partitions
abbrev pub LabelStays : Option Label → Option Label → Type 0
LabelStays None None = Unit {0}
LabelStays None (Some l) = ⊥
LabelStays (Some m) None = ⊥
LabelStays (Some m) (Some l) = SameButParts m l

-- the slice was there, with such a label
abbrev pub IsOldLabel : ℕ → Option Layout → Slice → Option Label → Type 0
IsOldLabel b None s l = ⊥
IsOldLabel b (Some o) s l = (was : Slice) × WasSlice b o s was × LabelStays (label_of o.labels was.number) l

-- the empty label, with what words put into it
abbrev pub IsNewLabel : Slice → Option Label → Type 0
IsNewLabel s None = ⊥
IsNewLabel s (Some l) = SameButParts (empty_of s.len) l

-- a record that an edit makes
pub record IsMadeRecord (r : Record) : Type 0 where
  pub boot : r.boot ≡ 0
  pub start_chs : r.start_chs ≡ 0xFE ∷ 0xFF ∷ 0xFF ∷ []
  pub end_chs : r.end_chs ≡ 0xFE ∷ 0xFF ∷ 0xFF ∷ []

-- a record with another type
abbrev pub IsRetyped : Record → Record → Type 0
IsRetyped old r = r ≡ record old { kind = r.kind }

-- the records of sector 0
abbrev pub records_in : Body → List (Option Record)
records_in (Mbr records chain) = records
records_in (Gpt t) = []

-- the extended boot records
abbrev pub chain_in : Body → List Ebr
chain_in (Mbr records chain) = chain
chain_in (Gpt t) = []

abbrev pub IsMbrBody : Body → Type 0
IsMbrBody (Mbr records chain) = Unit {0}
IsMbrBody (Gpt t) = ⊥

-- record k of the old layout, perhaps with another type
abbrev pub IsOldRecord : Option Layout → ℕ → Record → Type 0
IsOldRecord None k r = ⊥
IsOldRecord (Some o) k r = (old : Record) × (slice_index_or (records_in o.body) k None ≡ Some old) × IsRetyped old r

-- the logical partition of the old extended boot record in the same sector, perhaps with another type
pub record IsOldLogicalOf (o : Layout) (e : Ebr) (r : Record) : Type 0 where
  pub was : Ebr
  pub stands : Contains (chain_in o.body) was
  pub place : was.at ≡ e.at
  pub old : Record
  pub logical : was.logical ≡ Some old
  pub typed : IsRetyped old r

abbrev pub IsOldLogical : Option Layout → Ebr → Record → Type 0
IsOldLogical None e r = ⊥
IsOldLogical (Some o) e r = IsOldLogicalOf o e r

-- a logical partition that an edit makes begins in the sector after its extended boot record
pub record IsMadeLogical (r : Record) : Type 0 where
  pub made : IsMadeRecord r
  pub next : r.start ≡ 1

abbrev pub WasMbr : Option Layout → Type 0
WasMbr None = ⊥
WasMbr (Some o) = IsMbrBody o.body

-- what a layout that words make of another, or of nothing, on a disk of n sectors has of it
pub record Keeps (b n : ℕ) (old : Option Layout) (p : Layout) : Type 0 where
  pub sectors : p.sectors ≡ n
  pub shaped : Shaped b p
  pub mbr : IsMbrBody p.body → WasMbr old
  pub labels : (s : Slice) → Contains (slices_of b p.body) s
      → IsOldLabel b old s (label_of p.labels s.number) ⊎ IsNewLabel s (label_of p.labels s.number)
  pub records : (k : ℕ) (r : Record) → slice_index_or (records_in p.body) k None ≡ Some r → IsOldRecord old k r ⊎ IsMadeRecord r
  pub logicals : (e : Ebr) (r : Record) → Contains (chain_in p.body) e → e.logical ≡ Some r → IsOldLogical old e r ⊎ IsMadeLogical r

-- ## Label places, where they lie in a sound layout, and apart from one another.

-- the last usable sector of a GPT is one of the disk's n; an MBR has no other bound than the disk
abbrev pub EndsOnDisk : ℕ → Body → Type 0
EndsOnDisk n (Mbr records chain) = Unit {0}
EndsOnDisk n (Gpt t) = t.last < n

-- ## Slices as members, where they lie, and their label places.

-- the slice is this member
pub record IsSliceMember (s : Slice) (m : Member) : Type 0 where
  pub kind : m.kind ≡ kind.Slice
  pub path : m.path ≡ number_path s.number
  pub slice : s ≡ slice_from s.number m.first m.last

-- all its sectors are usable on the disk, and it has one
pub record LiesUsable (b : ℕ) (o : Layout) (s : Slice) : Type 0 where
  pub some : 1 ≤ s.len
  pub low : (top_group b o.sectors o.body).low ≤ s.first
  pub high : s.first + s.len ≤ (top_group b o.sectors o.body).high + 1

-- ## The labels of a layout at their places, on a disk that denotes it.

-- the slice has this label on the disk, or none
abbrev pub StandsOn : Sectors → Slice → Option Label → Type 0
StandsOn d w None = ¬ SliceHasLabel d w
StandsOn d w (Some l) = LabelAt d w l
