-- What a survey of a disk says: what private contracts cite.
use Rattle.std.specs.Prelude.{◌≡◌, ◌≢◌, ◌-◌, ◌↔◌, ◌⊎◌, ℕ, List, length, false, Option, Some, None, IsTrue}
use Rattle.std.specs.Prelude.{◌<◌, slice_index_or}
use Rattle.pt_sector.specs.Sectors.{Sectors}
use Rattle.pt_mbr.specs.Records.{IsProtective}
use Rattle.pt_gpt.specs.declared.table.Table.{Table}
use Rattle.pt_gpt.specs.declared.table.Side.TheVariants.{Primary, Backup}
use Rattle.pt_recover.specs.Denotes.{IsMbrSector, LabelsAre, BodyReads, told_reason}
use Rattle.pt_members.specs.Members.{places_of}
use Rattle.pt_recover.specs.Spans.{IsIn}
use Rattle.pt_recover.specs.declared.error.Reason.{Reason}
use Rattle.pt_members.specs.declared.layout.Layout.{Layout}
use Rattle.pt_members.specs.declared.layout.Slice.{Slice}
use Rattle.pt_members.specs.declared.layout.Body.{Body}
use Rattle.pt_members.specs.declared.layout.Body.TheVariants.{Gpt}
use Rattle.pt_recover.specs.declared.trace.TracedRun.{TracedRun}
use Rattle.pt_layout.specs.declared.sound.finding.Finding.{Finding}
use Rattle.pt_layout.specs.declared.sound.finding.Finding.TheVariants.{CopiesDiffer, Alternate, Protective}
use Rattle.pt_layout.specs.declared.sound.finding.Finding.TheVariants as finding
use Rattle.pt_layout.specs.declared.copies.Twin.{Twin}
use Rattle.pt_layout.specs.declared.health.Head.{Head}
use Rattle.pt_layout.specs.declared.health.Head.TheVariants as head
use Rattle.pt_layout.specs.declared.survey.Survey.{Survey}
use Rattle.pt_layout.specs.Healthy.{IsBodyWhole, IsBodyBroken, IsForeign, HasForeign, IsFirstForeign}
use Rattle.pt_gpt.specs.Copies.{TellsSame}
use Rattle.pt_gpt.specs.declared.header.Header.{Header}
use Rattle.pt_bsd.specs.Labels.{HasMagic, LabelBytes}
use Rattle.pt_bsd.specs.declared.label.Label.{Label}
use Rattle.pt_path.specs.declared.path.Path.{Path}

-- ## The steps to a verdict.

-- what sector 0 of n sectors says of the disk
abbrev pub HeadIs : ℕ → List ℕ → Head → Type 0
HeadIs n bytes head.Mbr = IsMbrSector bytes
HeadIs n bytes head.Protected = (¬ IsMbrSector bytes) × IsProtective n bytes
HeadIs n bytes head.Unprotected = (¬ IsMbrSector bytes) × (¬ IsProtective n bytes)

-- the first thing that is wrong with the copies of a body, none where they are whole
abbrev pub BrokenIs : ℕ → Sectors → Body → Option Finding → Type 0
BrokenIs b d y None = IsBodyWhole b d y
BrokenIs b d y (Some f) = IsBodyBroken b d y f

-- the sectors that decide the body, and no others
abbrev pub IsBodyTrace : ℕ → Sectors → List TracedRun → Type 0
IsBodyTrace b d runs = (s : ℕ) → IsIn runs s ↔ BodyReads b d s

-- a GPT of this table with the disk's labels
abbrev pub LayoutOf : ℕ → Sectors → Table → Layout → Type 0
LayoutOf b d t o = (o.sectors ≡ length d) × (o.body ≡ Gpt t) × LabelsAre d (places_of b (length d) (Gpt t)) o.labels

-- the survey of a disk that denotes nothing
abbrev pub nothing_of : Head → Reason → List TracedRun → List TracedRun → Survey
nothing_of h r guarded trace =
    record { head = h; layout = None; finding = Some (finding.NoTable (told_reason r)); primary = false; guarded = guarded; trace = trace }

-- ## The copies of a GPT.

-- the backup beside a primary copy of table t
abbrev pub TwinIs : ℕ → Sectors → Table → Twin → Type 0
TwinIs b d t w = (h : Header) × (w.alternate ≡ h.alternate) × TellsSame b d Backup h t w.same

-- the first thing that is wrong with two copies of n sectors, of which the primary has this header
abbrev pub PairIs : ℕ → Head → Header → Twin → Option Finding → Type 0
PairIs n h p q None = IsTrue q.same × (p.alternate ≡ n - 1) × (q.alternate ≡ 1) × (h ≡ head.Protected)
PairIs n h p q (Some CopiesDiffer) = ¬ IsTrue q.same
PairIs n h p q (Some (Alternate Primary)) = IsTrue q.same × (p.alternate ≢ n - 1)
PairIs n h p q (Some (Alternate Backup)) = IsTrue q.same × (p.alternate ≡ n - 1) × (q.alternate ≢ 1)
PairIs n h p q (Some Protective) = IsTrue q.same × (p.alternate ≡ n - 1) × (q.alternate ≡ 1) × (h ≢ head.Protected)
PairIs n h p q _ = ⊥

-- ## Label places that bear the magic of a label and hold none.

-- the bytes bear the magic, and are no label of the slice
abbrev pub ForeignBytes : Slice → List ℕ → Type 0
ForeignBytes p bytes = HasMagic bytes × (¬ ((l : Label) × LabelBytes l p.first p.len bytes))

-- the slice has this number and a foreign place
abbrev pub ForeignOf : Sectors → Slice → ℕ → Type 0
ForeignOf d p n = (n ≡ p.number) × IsForeign d p

abbrev pub no_slice : Slice
no_slice = record { number = 0; first = 0; len = 0 }

-- one of the slices has this number and a foreign place
abbrev pub ForeignAmong : Sectors → List Slice → ℕ → Type 0
ForeignAmong d slices n = (j : ℕ) × (j < length slices) × ForeignOf d (slice_index_or slices j no_slice) n

-- the first slice with a foreign place
abbrev pub ForeignIs : ℕ → Sectors → Layout → Option Path → Type 0
ForeignIs b d o None = (n : ℕ) → ¬ HasForeign b d o n
ForeignIs b d o (Some p) = IsFirstForeign b d o p
