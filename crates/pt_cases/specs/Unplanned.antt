-- Why there is no plan.
use Rattle.std.specs.Prelude.{ℕ, ◌≡◌, ◌≢◌, ◌⊎◌, ◌+◌, ◌<◌, ◌≤◌, List, ◌++◌, length, replicate, Contains, Option, [], ◌∷◌, Some, None}
use Rattle.pt_sector.specs.Sectors.{Sectors, sector}
use Rattle.pt_members.specs.declared.layout.Layout.{Layout}
use Rattle.pt_layout.specs.Healthy.{IsFirstForeign, IsBodyBroken, IsGuarded, IsHealthy}
use Rattle.pt_layout.specs.Sound.{Sound, IsUnsound}
use Rattle.pt_layout.specs.declared.sound.finding.Finding.{Finding}
use Rattle.pt_layout.specs.declared.sound.finding.Finding.TheVariants.{ForeignLabel}
use Rattle.pt_cases.specs.declared.targets.error.PlanError.{PlanError}
use Rattle.pt_cases.specs.declared.targets.error.PlanError.TheVariants.{Unsound, Device, Memory, NotOneSwitch, ReusedInOneBatch}
use Rattle.pt_cases.specs.declared.targets.error.PlanError.TheVariants.{NeedsRepair}
use Rattle.pt_bsd.specs.declared.label.Label.{Label}
use Rattle.pt_mbr.specs.Records.{IsProtective, MbrBytes, BearsProtective, extended_of, extent_of}
use Rattle.pt_gpt.specs.Copies.{array_len, HasCopy}
use Rattle.pt_gpt.specs.declared.table.Side.TheVariants.{Primary}
use Rattle.pt_gpt.specs.declared.table.Table.{Table}
use Rattle.pt_recover.specs.Denotes.{Reads, IsMbrDisk, Denotes}
use Rattle.pt_members.specs.Members.{places_of, place_of, number_path}
use Rattle.pt_members.specs.declared.layout.Body.{Body}
use Rattle.pt_members.specs.declared.layout.Body.TheVariants.{Mbr, Gpt}
use Rattle.pt_members.specs.declared.layout.Slice.{Slice}
use Rattle.pt_members.specs.Tables.{IsGptTable, OwnedOf}
use Rattle.pt_cases.specs.Cases.{ChangesLabels, HadMbr, IsLeft, MayBePlanned}
use Rattle.pt_cases.specs.Writes.{Had, IsEncoded, Along, IsLabelTarget, link_to, IsHeadTarget, IsEbrTarget}
use Rattle.pt_cases.specs.Targets.{AreLabelTargets, AreMbrTargets, HasTwoOfOne, IsChange}
use Rattle.pt_cases.specs.declared.targets.target.Target.{Target}
use Rattle.pt_bsd.specs.Labels.{IsCounted, FitsSlice}
use Rattle.pt_sector.specs.declared.address.Lba.{Lba}
use Rattle.pt_mbr.specs.Changes.{ArePlain, FitsLink, IsPlainLogical, mbr_of}
use Rattle.pt_mbr.specs.Chain.{StandsAt, EbrBytes}
use Rattle.pt_mbr.specs.declared.ebr.Ebr.{Ebr}
use Rattle.pt_mbr.specs.declared.record.Record.{Record}
use Rattle.pt_sector.specs.declared.disk.Fault.{Fault}
use Rattle.pt_sector.specs.declared.disk.Fault.TheVariants.{Read}
use Rattle.pt_sector.specs.declared.reading.Failure.{Failure}
use Rattle.pt_sector.specs.declared.reading.Failure.TheVariants as failure

-- ## What keeps a layout that a disk denotes from being mended.

-- the first of the findings that writing both copies anew can't mend: what is unsound, and then the first foreign label
abbrev pub IsUnmendable : ℕ → Sectors → Layout → Finding → Type 0
IsUnmendable b d o (ForeignLabel p) = Sound b o × IsFirstForeign b d o p
IsUnmendable b d o f = IsUnsound b o f

-- the planner's errors that such a finding, or a failure, gives
abbrev pub IsUnmendableBy : ℕ → Sectors → Layout → PlanError → Type 0
IsUnmendableBy b d o (Unsound f) = IsUnmendable b d o f
IsUnmendableBy b d o (Device fault) = Unit {0}
IsUnmendableBy b d o Memory = Unit {0}
IsUnmendableBy b d o _ = ⊥

-- ## Sectors that a plan for a layout p would write, on a disk d that denotes o: what may keep it from being one.

-- sector s is the label place of this slice of p, which has this label
pub record IsLabelled (b : ℕ) (p : Layout) (s : ℕ) (w : Slice) (l : Label) : Type 0 where
  pub stands : Contains (places_of b p.sectors p.body) w
  pub wanted : Contains p.labels (record { number = w.number; label = l })
  pub place : place_of w ≡ s

-- a label comes where o has none, and it doesn't stand there already, over zeros, for recovery of d to read
pub record LabelComes (b : ℕ) (d : Sectors) (o : Option Layout) (p : Layout) (s : ℕ) : Type 0 where
  pub slice : Slice
  pub label : Label
  pub labelled : IsLabelled b p s slice label
  pub none : (m : Label) → ¬ Had b d o s m
  pub unread : ¬ (Reads b d s × IsEncoded label slice (replicate b 0) (sector d s))

-- a label comes where o has another one
pub record IsOtherLabel (b : ℕ) (d : Sectors) (o : Option Layout) (p : Layout) (s : ℕ) : Type 0 where
  pub slice : Slice
  pub label : Label
  pub labelled : IsLabelled b p s slice label
  pub old : Label
  pub had : Had b d o s old
  pub differ : old ≢ label

-- p has a GPT, and more than labels change, or nothing does: both copies of its table are to be written
pub record WritesBoth (o : Option Layout) (p : Layout) : Type 0 where
  pub table : Table
  pub body : p.body ≡ Gpt table
  pub other : ¬ ChangesLabels o p

-- a sector that would be written then: of a copy, sector 0 where it isn't protective or is an MBR's, or a label's
pub data WouldWrite (b : ℕ) (d : Sectors) (o : Option Layout) (p : Layout) (s : ℕ) : Type 0 where
  copy : 0 < s → IsGptTable b (length d) s → WouldWrite b d o p s
  head : s ≡ 0 → (¬ IsProtective (length d) (sector d 0)) ⊎ IsMbrDisk d → WouldWrite b d o p s
  new : LabelComes b d o p s → WouldWrite b d o p s
  other : IsOtherLabel b d o p s → WouldWrite b d o p s

-- a sector that would be written before the disk turns: the backup copy where a primary one exists, else the primary
-- copy; on an MBR disk both; and new labels
pub data WouldPrecede (b : ℕ) (d : Sectors) (o : Option Layout) (p : Layout) (s : ℕ) : Type 0 where
  backup : ¬ IsMbrDisk d → HasCopy b d Primary → length d ≤ s + (array_len b + 1) → s < length d → WouldPrecede b d o p s
  primary : ¬ IsMbrDisk d → ¬ HasCopy b d Primary → 0 < s → s < array_len b + 2 → WouldPrecede b d o p s
  both : IsMbrDisk d → 0 < s → IsGptTable b (length d) s → WouldPrecede b d o p s
  new : LabelComes b d o p s → WouldPrecede b d o p s

-- what the sectors of p must hold where no copy is written: only labels of a GPT change, or p is an MBR in place of one
abbrev pub TargetsIn : (b : ℕ) → Sectors → Option Layout → Layout → Body → List (Target b) → Type 0
TargetsIn b d o p (Gpt t) ts = ChangesLabels o p × AreLabelTargets d o p ts
TargetsIn b d o p (Mbr records chain) ts =
    (was : HadMbr o) × (heads places : List (Target b)) × AreMbrTargets d was.records was.chain records chain heads
    × AreLabelTargets d o p places
    × (ts ≡ heads ++ places)

abbrev pub TargetsOf : (b : ℕ) → Sectors → Option Layout → Layout → List (Target b) → Type 0
TargetsOf b d o p ts = TargetsIn b d o p p.body ts

-- a sector that would be written
pub data ToWrite (b : ℕ) (d : Sectors) (o : Option Layout) (p : Layout) (s : ℕ) : Type 0 where
  both : WritesBoth o p → WouldWrite b d o p s → ToWrite b d o p s
  target : (ts : List (Target b)) (t : Target b) → TargetsOf b d o p ts → IsChange ts t → t.at.0 ≡ s → ToWrite b d o p s

-- of the sectors that change, none is one with which the disk turns, or two are
abbrev pub NotOneTurn : (b : ℕ) → Sectors → List (Target b) → Type 0
NotOneTurn b d ts =
    ((t : Target b) → IsChange ts t → ¬ IsGuarded b d t.at.0)
    ⊎ ((t u : Target b) × IsChange ts t × IsChange ts u × IsGuarded b d t.at.0 × IsGuarded b d u.at.0 × (t.at.0 < u.at.0))

-- two targets of one sector
abbrev pub SharesSector : (b : ℕ) → Sectors → Option Layout → Layout → Type 0
SharesSector b d o p = (ts : List (Target b)) × (TargetsOf b d o p ts ⊎ (WritesBoth o p × AreLabelTargets d o p ts)) × HasTwoOfOne ts

-- a sector that would be written is owned in o
abbrev pub IsReused : ℕ → Sectors → Option Layout → Layout → Type 0
IsReused b d o p = (s : ℕ) × ToWrite b d o p s × OwnedOf b o s

-- no sector that changes is owned in o
abbrev pub NoneOwned : {b : _} → Option Layout → List (Target b) → Type 0
NoneOwned {b = b} o ts = (t : Target b) → IsChange ts t → ¬ OwnedOf b o t.at.0

-- no sector that would be written with both copies is
abbrev pub NoneTaken : ℕ → Sectors → Option Layout → Layout → Type 0
NoneTaken b d o p = (s : ℕ) → WouldWrite b d o p s → ¬ OwnedOf b o s

-- of the sectors that change in the turn none is owned, and none or two are guarded
abbrev pub TurnsAmiss : ℕ → Sectors → Option Layout → Layout → Type 0
TurnsAmiss b d o p = (ts : List (Target b)) × TargetsOf b d o p ts × NoneOwned o ts × NotOneTurn b d ts

-- so it is; or two targets are of one sector
abbrev pub HasNoTurn : ℕ → Sectors → Option Layout → Layout → Type 0
HasNoTurn b d o p = TurnsAmiss b d o p ⊎ SharesSector b d o p

-- both copies are to be written, and of what would be written nothing is owned; but a label changes beside the turn, or a
-- guarded sector would be written before it
pub record CopiesAmiss (b : ℕ) (d : Sectors) (o : Option Layout) (p : Layout) : Type 0 where
  pub both : WritesBoth o p
  pub free : NoneTaken b d o p
  pub place : ℕ
  pub amiss : IsOtherLabel b d o p place ⊎ (WouldPrecede b d o p place × IsGuarded b d place)

-- so it is; or two labels have one sector
abbrev pub HasNoCopies : ℕ → Sectors → Option Layout → Layout → Type 0
HasNoCopies b d o p = CopiesAmiss b d o p ⊎ SharesSector b d o p

-- one sector changes, it isn't owned, and all that changes is there
pub record IsLoneChange {b : _} (o : Option Layout) (ts : List (Target b)) (t : Target b) : Type 0 where
  pub change : IsChange ts t
  pub free : ¬ OwnedOf b o t.at.0
  pub one : (u : Target b) → IsChange ts u → u.at.0 ≡ t.at.0

-- only labels change, in one sector, and a copy is broken
pub record IsUnmended (b : ℕ) (d : Sectors) (o : Option Layout) (p : Layout) : Type 0 where
  pub changes : ChangesLabels o p
  pub finding : Finding
  pub broken : IsBodyBroken b d changes.old.body finding
  pub items : List (Target b)
  pub places : AreLabelTargets d o p items
  pub target : Target b
  pub lone : IsLoneChange o items target

-- ## What the label places of a wanted layout p may come to, on a disk d that denotes o, where they have no targets.

-- each label of p goes with a label place, in their order
abbrev pub LabelsFit : ℕ → Layout → Type 0
LabelsFit b p = Along (λ (w : Slice) (l : Option Label). Unit {0}) (places_of b p.sectors p.body) p.labels

-- the first slice of p that has no label of it, on whose place stands the magic of one
pub record IsFirstLeft (b : ℕ) (d : Sectors) (p : Layout) (n : ℕ) : Type 0 where
  pub slice : Slice
  pub left : IsLeft b d p slice
  pub number : slice.number ≡ n
  pub first : (w : Slice) → IsLeft b d p w → n ≤ w.number

-- a label of p that no bytes of its place would hold: it isn't one that fits its slice
pub record HasUnreadable (b : ℕ) (d : Sectors) (o : Option Layout) (p : Layout) : Type 0 where
  pub slice : Slice
  pub label : Label
  pub stands : Contains (places_of b p.sectors p.body) slice
  pub wanted : Contains p.labels (record { number = slice.number; label = label })
  pub none : (v : List ℕ) → ¬ IsLabelTarget b d o slice label v
  pub unfit : ¬ (IsCounted label × FitsSlice label slice.first slice.len)

abbrev pub NoneLeft : ℕ → Sectors → Layout → Type 0
NoneLeft b d p = (w : Slice) → ¬ IsLeft b d p w

-- ## Sectors of a wanted MBR layout that no bytes would do for, on a disk d.

-- the sector is an MBR of these records, and no protective one
pub record HoldsRecords (d : Sectors) (records : List (Option Record)) : Type 0 where
  pub bytes : MbrBytes (mbr_of records) (sector d 0)
  pub plain : ¬ BearsProtective (sector d 0)

-- sector 0 has no target: a new record isn't one that is read again, or the sector isn't that of the old ones
pub record IsUnmadeHead (d : Sectors) (old new : List (Option Record)) : Type 0 where
  pub none : (v : List ℕ) → ¬ IsHeadTarget old new (sector d 0) v
  pub unfit : ¬ (ArePlain new × HoldsRecords d old)

-- it leads to the first of these, with a link whose numbers have 32 bits, or there is none
abbrev pub LeadsOn : ℕ → Option Lba → List Ebr → Type 0
LeadsOn first next [] = next ≡ None
LeadsOn first next (e ∷ es) = (next ≡ Some e.at) × FitsLink first e

-- in an extended partition from `first` on, an extended boot record with these behind it that is read again as written
pub record FitsEbr (first : ℕ) (e : Ebr) (es : List Ebr) : Type 0 where
  pub logical : IsPlainLogical e.logical
  pub next : LeadsOn first e.next es

-- the sector is one, under some first sector
abbrev pub HoldsEbr : Sectors → Ebr → Type 0
HoldsEbr d e = (first : ℕ) × (w : Ebr) × EbrBytes first e.at w (sector d e.at.0)

-- an extended boot record has no target: it isn't one that is read again, or its sector isn't one though it stood in the
-- old chain
pub record IsUnmadeEbr (b : ℕ) (d : Sectors) (old : List Ebr) (first : ℕ) (e : Ebr) (es : List Ebr) : Type 0 where
  pub none : (v : List ℕ) → ¬ IsEbrTarget b d old first e (link_to first es) v
  pub unfit : ¬ (FitsEbr first e es × (StandsAt e.at.0 old → HoldsEbr d e))

-- one of a chain, in an extended partition from `first` on
abbrev pub HasUnmadeEbr : ℕ → Sectors → List Ebr → ℕ → List Ebr → Type 0
HasUnmadeEbr b d old first [] = ⊥
HasUnmadeEbr b d old first (e ∷ es) = IsUnmadeEbr b d old first e es ⊎ HasUnmadeEbr b d old first es

abbrev pub HasUnmadeIn : ℕ → Sectors → List Ebr → List Record → List Ebr → Type 0
HasUnmadeIn b d old [] chain = ⊥
HasUnmadeIn b d old (r ∷ rs) chain = HasUnmadeEbr b d old (extent_of r).first chain

-- sector 0 or an extended boot record has no target
abbrev pub HasUnmade : ℕ → Sectors → List (Option Record) → List Ebr → List (Option Record) → List Ebr → Type 0
HasUnmade b d old_records old_chain records chain =
    IsUnmadeHead d old_records records ⊎ HasUnmadeIn b d old_chain (extended_of records) chain

-- ## Why there is no plan for a layout p on a disk d that denotes o.

-- why the sectors of p don't come with one switch: one would not read back as written; or what recovery reads would
-- change beside the switch, or before it
pub data HasNoSwitch (b : ℕ) (d : Sectors) (o : Option Layout) (p : Layout) : Type 0 where
  unreadable : HasUnreadable b d o p → HasNoSwitch b d o p
  unmade : (records : List (Option Record)) (chain : List Ebr) → p.body ≡ Mbr records chain → (was : HadMbr o)
      → HasUnmade b d was.records was.chain records chain → HasNoSwitch b d o p
  turn : HasNoTurn b d o p → HasNoSwitch b d o p
  copies : HasNoCopies b d o p → HasNoSwitch b d o p

-- why no plan has one switch: the layout may not be one of this disk, or its labels don't go with its slices; or, where
-- no foreign label would remain, its sectors don't come with one
pub data NoSwitch (b : ℕ) (d : Sectors) (o : Option Layout) (p : Layout) : Type 0 where
  other_disk : ¬ MayBePlanned b d o p → NoSwitch b d o p
  misplaced : ¬ LabelsFit b p → NoSwitch b d o p
  targets : NoneLeft b d p → HasNoSwitch b d o p → NoSwitch b d o p

-- a foreign label would remain, on the first slice with this number
pub record LeavesForeign (b : ℕ) (d : Sectors) (p : Layout) (f : Finding) : Type 0 where
  pub sound : Sound b p
  pub number : ℕ
  pub first : IsFirstLeft b d p number
  pub is : f ≡ ForeignLabel (number_path number)

-- p is sound, the disk isn't healthy with it yet, and this holds of what it denotes
pub record Stops (b : ℕ) (d : Sectors) (p : Layout) (C : Option Layout → Type 0) : Type 0 where
  pub sound : Sound b p
  pub not_done : ¬ IsHealthy b d p
  pub old : Option Layout
  pub from : Denotes b d old
  pub cause : C old

-- why there is no plan. Foreign labels are reported before what hinders the targets
abbrev pub Unplanned : ℕ → Sectors → Layout → PlanError → Type 0
Unplanned b d p (Unsound f) = IsUnsound b p f ⊎ LeavesForeign b d p f
Unplanned b d p ReusedInOneBatch = Stops b d p (λ o. NoneLeft b d p × IsReused b d o p)
Unplanned b d p NotOneSwitch = Stops b d p (λ o. NoSwitch b d o p)
Unplanned b d p NeedsRepair = Stops b d p (λ o. NoneLeft b d p × IsUnmended b d o p)
Unplanned b d p (Device fault) = Unit {0}
Unplanned b d p Memory = Unit {0}

-- ## Errors of the planner: their numbers, and the failures that go with them.

abbrev pub plan_error_number : PlanError → ℕ
plan_error_number NotOneSwitch = 1
plan_error_number ReusedInOneBatch = 2
plan_error_number NeedsRepair = 3
plan_error_number (Unsound f) = 4
plan_error_number (Device fault) = 5
plan_error_number Memory = 6

-- a failure of the device or of memory, and no cause in the disk or in the layout
abbrev pub IsFailure : PlanError → Type 0
IsFailure (Device fault) = Unit {0}
IsFailure Memory = Unit {0}
IsFailure _ = ⊥

-- the fault that the planner's error carries
abbrev pub fault_in : PlanError → Option Fault
fault_in (Device fault) = Some fault
fault_in _ = None

-- what the planner tells of a failure
abbrev pub plan_failure : Failure → PlanError
plan_failure (failure.Device at) = Device (Read at)
plan_failure failure.Memory = Memory

-- ## What stands when the writes of a plan are put together.

-- the disk d denotes o, and p is a sound layout of so many sectors with which d isn't healthy yet
pub record Start (b : ℕ) (d : Sectors) (o : Option Layout) (p : Layout) : Type 0 where
  pub from : Denotes b d o
  pub sound : Sound b p
  pub sectors : p.sectors ≡ length d
  pub stays : (o ≡ Some p) ⊎ ¬ (o ≡ Some p)
  pub not_done : ¬ IsHealthy b d p

-- why the writes are no plan; `NoSwitch` is why they have no one switch
abbrev pub StopsBy : ℕ → Sectors → Option Layout → Layout → Type 0 → PlanError → Type 0
StopsBy b d o p NoSwitch NotOneSwitch = NoSwitch
StopsBy b d o p NoSwitch ReusedInOneBatch = IsReused b d o p
StopsBy b d o p NoSwitch NeedsRepair = IsUnmended b d o p
StopsBy b d o p NoSwitch Memory = Unit {0}
StopsBy b d o p NoSwitch (Device fault) = ⊥
StopsBy b d o p NoSwitch (Unsound f) = ⊥
