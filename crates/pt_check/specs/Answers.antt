-- The checker's answer, and the first reason for its no.
use Rattle.std.specs.Prelude.{◌≡◌, ◌⊎◌, ℕ, ◌≤◌, ◌<◌, List, [], length, take, slice_index_or, Option, Some, None, slice_get, ◌+◌, ◌*◌, ◌↔◌}
use Rattle.pt_sector.specs.Sectors.{Sectors, Writes, Puts, after}
use Rattle.pt_apply.specs.Plans.{boot_code, writes_in, NoneIs, InRange, Safe}
use Rattle.pt_layout.specs.declared.sound.finding.Finding.{Finding}
use Rattle.pt_check.specs.declared.answer.Answer.{Answer}
use Rattle.pt_check.specs.declared.answer.Answer.TheVariants.{No, Yes}
use Rattle.pt_check.specs.declared.answer.Outcome.{Outcome}
use Rattle.pt_check.specs.declared.answer.Outcome.TheVariants as outcome
use Rattle.pt_check.specs.declared.answer.Why.{Why}
use Rattle.pt_check.specs.declared.answer.Why.TheVariants.{TooManyWrites, OutOfRange, BootCode, ReadSector, Neither, NotATable, Owned}
use Rattle.pt_check.specs.declared.answer.Why.TheVariants.{Final}
use Rattle.pt_apply.specs.declared.plan.Plan.{Plan}
use Rattle.pt_recover.specs.Denotes.{Denotes, Reads}
use Rattle.pt_layout.specs.Healthy.{IsFinding, Healthy, VerdictReads}
use Rattle.pt_members.specs.Tables.{OwnedOf, TableOf, IsGptTable}
use Rattle.pt_members.specs.declared.layout.Layout.{Layout}
use Rattle.pt_members.specs.declared.layout.Body.{Body}
use Rattle.pt_members.specs.declared.layout.Body.TheVariants.{Mbr, Gpt}
use Rattle.pt_sector.specs.Device.{IsReadIn}
use Rattle.pt_sector.specs.declared.disk.Fault.{Fault}
use Rattle.pt_sector.specs.declared.disk.Fault.TheVariants.{Read}
use Rattle.pt_sector.specs.declared.reading.Failure.{Failure}
use Rattle.pt_sector.specs.declared.reading.Failure.TheVariants as failure
use Rattle.pt_check.specs.declared.error.CheckError.{CheckError}
use Rattle.pt_check.specs.declared.error.CheckError.TheVariants.{Device, Memory}

-- ## The layouts after each phase of a plan, as far as they have been looked at.

-- phase i, counted from 0
abbrev pub phase_at : List Writes → ℕ → Writes
phase_at phases i = slice_index_or phases i []

-- the disk after i phases
abbrev pub disk_after : List Writes → Sectors → ℕ → Sectors
disk_after phases d i = after (take i phases) d

-- a switch as it is reported, 0 where there was none
abbrev pub switch_number : Option ℕ → ℕ
switch_number None = 0
switch_number (Some s) = s

module _ {L : Type 0} (denotes : Sectors → Option L → Type 0) (reads : Sectors → ℕ → Type 0) (phases : List Writes) (d : Sectors) where
  -- phase i has at most one write, or none of its writes is of a sector that recovery reads on the disk before it
  abbrev pub IsCalm : ℕ → Type 0
  IsCalm i = (length (phase_at phases i) ≤ 1) ⊎ ((s : ℕ) (v : List ℕ) → Puts (phase_at phases i) s v → ¬ reads (disk_after phases d i) s)

  -- the layout after each of so many phases: the old one so far, or from phase s on the new one
  abbrev pub LayoutsAre : Option L → Option L → ℕ → Option ℕ → Type 0
  LayoutsAre old new done None = (i : ℕ) → i ≤ done → denotes (disk_after phases d i) old
  LayoutsAre old new done (Some s) =
      (0 < s) × (s ≤ done) × (¬ (old ≡ new)) × ((i : ℕ) → i < s → denotes (disk_after phases d i) old)
      × ((i : ℕ) → s ≤ i → i ≤ done → denotes (disk_after phases d i) new)

  -- so many phases were passed, with the switch that was met
  pub record Course (old new : Option L) (done : ℕ) (switch : Option ℕ) : Type 0 where
    pub calm : (i : ℕ) → i < done → IsCalm i
    pub layouts : LayoutsAre old new done switch

-- ## The first write of which something holds.

-- x stands at k, counted from 0, and is the first of which P holds
pub record IsFirst {X : Type 0} (P : X → Type 0) (xs : List X) (k : ℕ) (x : X) : Type 0 where
  pub at : slice_get xs k ≡ Some x
  pub is : P x
  pub none_before : (j : ℕ) (y : X) → j < k → slice_get xs j ≡ Some y → ¬ P y

-- ## Why a plan is refused, and when it is accepted.

-- how many writes a plan may have
abbrev pub most_writes : ℕ
most_writes = 4096

-- the reasons in the order in which they are looked for; those of the phases are looked for together
abbrev pub stage : Why → ℕ
stage TooManyWrites = 0
stage (OutOfRange n) = 1
stage (BootCode n) = 2
stage (ReadSector p lba) = 3
stage (Neither p) = 3
stage (NotATable lba) = 4
stage (Owned lba) = 5
stage (Final f) = 6

-- phase by phase, and in each phase first the sectors that are read
abbrev pub turn : Why → ℕ
turn (ReadSector p lba) = 2 * p
turn (Neither p) = 2 * p + 1
turn _ = 0

abbrev pub IsBefore : Why → Why → Type 0
IsBefore v w = (stage v < stage w) ⊎ ((stage v ≡ stage w) × (turn v < turn w))

-- the write of this number, counted from 1, is the first of which P holds
pub record FirstWrite (phases : List Writes) (P : ℕ × List ℕ → Type 0) (number : ℕ) : Type 0 where
  pub at : ℕ
  pub write : ℕ × List ℕ
  pub is : number ≡ at + 1
  pub first : IsFirst P (writes_in phases) at write

-- the first write of which P holds is of this sector
pub record FirstSector (phases : List Writes) (P : ℕ × List ℕ → Type 0) (lba : ℕ) : Type 0 where
  pub at : ℕ
  pub write : ℕ × List ℕ
  pub is : lba ≡ write.0
  pub first : IsFirst P (writes_in phases) at write

-- a write of a sector past the last
abbrev pub IsPastLast : Sectors → ℕ × List ℕ → Type 0
IsPastLast d w = ¬ (w.0 < length d)

-- a write of sector 0 with another boot code
abbrev pub ChangesBoot : Sectors → ℕ × List ℕ → Type 0
ChangesBoot d w = (w.0 ≡ 0) × ¬ (take 440 w.1 ≡ boot_code d)

-- not too many writes, each within the disk, and none that changes the boot code
pub record IsFit (d : Sectors) (phases : List Writes) : Type 0 where
  pub few : length (writes_in phases) ≤ most_writes
  pub inside : NoneIs (IsPastLast d) (writes_in phases)
  pub boot : NoneIs (ChangesBoot d) (writes_in phases)

-- this phase, counted from 1, has several writes, and the first of a sector that recovery reads on the disk before it is of this one
pub record ReadsSector (reads : Sectors → ℕ → Type 0) (d : Sectors) (phases : List Writes) (phase lba : ℕ) : Type 0 where
  pub i : ℕ
  pub number : phase ≡ i + 1
  pub below : i < length phases
  pub several : 1 < length (phase_at phases i)
  pub at : ℕ
  pub write : ℕ × List ℕ
  pub is : lba ≡ write.0
  pub first : IsFirst (λ w. reads (disk_after phases d i) w.0) (phase_at phases i) at write

module _ {L : Type 0} (denotes : Sectors → Option L → Type 0) (d : Sectors) (phases : List Writes) where
  -- old is what d denotes, and new what it denotes with the whole plan written
  pub record Leads (old new : Option L) : Type 0 where
    pub from : denotes d old
    pub to : denotes (after phases d) new

  -- one of the first i phases gave it
  abbrev pub WasGiven : Option L → ℕ → Type 0
  WasGiven o i = (j : ℕ) × (0 < j) × (j ≤ i) × denotes (disk_after phases d j) o

  -- after i + 1 phases the disk denotes neither, or where they differ the old one after a phase that gave the new one
  abbrev pub IsNeither : Option L → Option L → ℕ → Type 0
  IsNeither old new i =
      ((¬ denotes (disk_after phases d (i + 1)) old) × (¬ denotes (disk_after phases d (i + 1)) new))
      ⊎ ((¬ (old ≡ new)) × denotes (disk_after phases d (i + 1)) old × WasGiven new i)

  -- that is so after this phase, counted from 1
  pub record GivesNeither (phase : ℕ) : Type 0 where
    pub old : Option L
    pub new : Option L
    pub leads : Leads old new
    pub i : ℕ
    pub number : phase ≡ i + 1
    pub below : i < length phases
    pub neither : IsNeither old new i

  -- the first phase after which the disk denotes the new layout, counted from 1; 0 where the old one is equal
  pub record IsSwitch (switch : ℕ) : Type 0 where
    pub old : Option L
    pub new : Option L
    pub leads : Leads old new
    pub first : ((old ≡ new) × (switch ≡ 0))
        ⊎ ((¬ (old ≡ new)) × (0 < switch) × (switch ≤ length phases) × denotes (disk_after phases d switch) new
        × ((j : ℕ) → 0 < j → j < switch → ¬ denotes (disk_after phases d j) new))

module _ {L : Type 0} (denotes : Sectors → Option L → Type 0) (reads : Sectors → ℕ → Type 0) (table owned : Option L → ℕ → Type 0)
    (finds : Sectors → Finding → Type 0) (d : Sectors) (phases : List Writes) where
  -- a write of a sector in the tables of neither
  abbrev pub IsStray : Option L → Option L → ℕ × List ℕ → Type 0
  IsStray old new w = (¬ table old w.0) × (¬ table new w.0)

  -- a write of a sector that is owned in one of them
  abbrev pub IsOwned : Option L → Option L → ℕ × List ℕ → Type 0
  IsOwned old new w = owned old w.0 ⊎ owned new w.0

  -- each reason
  abbrev pub Holds : Why → Type 0
  Holds TooManyWrites = most_writes < length (writes_in phases)
  Holds (OutOfRange n) = FirstWrite phases (IsPastLast d) n
  Holds (BootCode n) = FirstWrite phases (ChangesBoot d) n
  Holds (ReadSector p lba) = ReadsSector reads d phases p lba.0
  Holds (Neither p) = GivesNeither denotes d phases p
  Holds (NotATable lba) = (old : Option L) × (new : Option L) × Leads denotes d phases old new × FirstSector phases (IsStray old new) lba.0
  Holds (Owned lba) = (old : Option L) × (new : Option L) × Leads denotes d phases old new × FirstSector phases (IsOwned old new) lba.0
  Holds (Final f) = finds (after phases d) f

  -- a no with the first reason that holds, and a yes where none holds
  abbrev pub IsAnswer : Answer → Type 0
  IsAnswer (No w) = Holds w × ((v : Why) → IsBefore v w → ¬ Holds v)
  IsAnswer (Yes s) = ((v : Why) → ¬ Holds v) × IsSwitch denotes d phases s

-- ## What the checker's answer says of a disk with sectors of b bytes and the phases of a plan.

-- a no with the first reason that holds, a yes where none holds
abbrev pub Answers : ℕ → Sectors → List Writes → Answer → Type 0
Answers b d phases answer = IsAnswer (Denotes b) (Reads b) (TableOf b) (OwnedOf b) (IsFinding b) d phases answer

-- after a yes: each disk that a stop within the phases may leave has what is promised
abbrev pub Promises : ℕ → Sectors → List Writes → Answer → Type 0
Promises b d phases (No why) = Unit {0}
Promises b d phases (Yes switch) = Safe (Denotes b) (Healthy b) (TableOf b) (OwnedOf b) phases d switch

-- the answer of an outcome
abbrev pub answer_of : Outcome → Answer
answer_of (outcome.No why) = No why
answer_of (outcome.Yes switch layout) = Yes switch

-- the layout that it leads to after a yes
abbrev pub layout_of : Outcome → Option Layout
layout_of (outcome.No why) = None
layout_of (outcome.Yes switch layout) = Some layout

-- that answer, and the layout of the finished disk
pub record OutcomeIs (b : ℕ) (d : Sectors) (phases : List Writes) (x : Outcome) : Type 0 where
  pub answers : Answers b d phases (answer_of x)
  pub promises : Promises b d phases (answer_of x)
  pub layout : (o : Layout) → layout_of x ≡ Some o → Denotes b (after phases d) (Some o)

-- after a yes: each write is of a sector below n
abbrev pub WritesFit : {b : _} → ℕ → Plan b → Answer → Type 0
WritesFit n plan (No why) = Unit {0}
WritesFit n plan (Yes switch) = InRange n plan

-- ## Which sectors a check of a plan reads.

-- one of the writes is to sector 0
abbrev pub WritesHead : List Writes → Type 0
WritesHead phases = (bytes : List ℕ) × Puts (writes_in phases) 0 bytes

-- none of the writes of these phases is of s
abbrev pub IsUnwritten : List Writes → ℕ → Type 0
IsUnwritten phases s = (bytes : List ℕ) → ¬ Puts (writes_in phases) s bytes

-- the sectors that decide the verdict of the disk after all phases, but for those that the phases write
abbrev pub FinishReads : ℕ → Sectors → List Writes → ℕ → Type 0
FinishReads b d phases s = VerdictReads b (after phases d) s × IsUnwritten phases s

-- the sectors that a check reads: sector 0 where the plan writes it, for its boot code; those that recovery reads, of the disk and of
-- the disk after each phase; and those that decide the verdict of the disk after all phases. What the plan wrote until then isn't read
pub data CheckReads (b : ℕ) (d : Sectors) (phases : List Writes) (s : ℕ) : Type 0 where
  boot : s ≡ 0 → WritesHead phases → CheckReads b d phases s
  phase : (i : ℕ) → i ≤ length phases → Reads b (disk_after phases d i) s → IsUnwritten (take i phases) s → CheckReads b d phases s
  finish : FinishReads b d phases s → CheckReads b d phases s

-- ## Writes in the wrong place.

-- a table that each layout of the kind has on n sectors, whatever its chain and its slices
abbrev pub IsFixed : ℕ → ℕ → Body → ℕ → Type 0
IsFixed b n (Mbr records chain) s = s ≡ 0
IsFixed b n (Gpt t) s = IsGptTable b n s

-- such a table of what is denoted; nothing has none
abbrev pub FixedOf : ℕ → Option Layout → ℕ → Type 0
FixedOf b None s = ⊥
FixedOf b (Some o) s = IsFixed b o.sectors o.body s

-- in the tables of neither layout
abbrev pub InNoTable : ℕ → Option Layout → Option Layout → ℕ × List ℕ → Type 0
InNoTable b old new w = (¬ TableOf b old w.0) × (¬ TableOf b new w.0)

-- owned in one of them
abbrev pub InOwned : ℕ → Option Layout → Option Layout → ℕ × List ℕ → Type 0
InOwned b old new w = OwnedOf b old w.0 ⊎ OwnedOf b new w.0

-- ## The numbers that stand for the checker's reasons in what is printed.

abbrev pub why_number : Why → ℕ
why_number TooManyWrites = 1
why_number (OutOfRange write) = 2
why_number (BootCode write) = 3
why_number (ReadSector p at) = 4
why_number (Neither p) = 5
why_number (NotATable at) = 6
why_number (Owned at) = 7
why_number (Final finding) = 8

-- ## Failures, as the checker tells them.

-- the fault that an error carries
abbrev pub fault_in : CheckError → Option Fault
fault_in (Device fault) = Some fault
fault_in Memory = None

-- the fault is a read's, and its sector one of these
abbrev pub FailedInCheck : (ℕ → Type 0) → CheckError → Type 0
FailedInCheck S (Device fault) = IsReadIn S fault
FailedInCheck S Memory = Unit {0}

-- what the checker tells of a failure
abbrev pub told_failure : Failure → CheckError
told_failure (failure.Device at) = Device (Read at)
told_failure failure.Memory = Memory

-- ## One answer at most is right.

-- two reasons against a plan that ends in x are the same, or each is a finding of x
abbrev pub SameReason : (Sectors → Finding → Type 0) → Sectors → Why → Why → Type 0
SameReason finds x v w = (v ≡ w) ⊎ ((f : Finding) × (g : Finding) × (v ≡ Final f) × (w ≡ Final g) × finds x f × finds x g)

-- a yes and a no exclude each other, and two of a kind are the same
abbrev pub SameAnswer : (Sectors → Finding → Type 0) → Sectors → Answer → Answer → Type 0
SameAnswer finds x (Yes s) (Yes t) = s ≡ t
SameAnswer finds x (No v) (No w) = SameReason finds x v w
SameAnswer finds x _ _ = ⊥
