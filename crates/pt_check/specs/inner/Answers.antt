-- The checker's answer, and the first reason for its no: what private contracts cite.
use Rattle.std.specs.Prelude.{◌≡◌, ℕ, ◌+◌, List, Option, Some, None, ◌≤◌, length, ◌⊎◌, ◌<◌, IsSome}
use Rattle.pt_sector.specs.Sectors.{Writes, Sectors, Puts}
use Rattle.pt_recover.specs.Alike.{IsAlike}
use Rattle.pt_apply.specs.Plans.{NoneIs, writes_in, InRange, phases_of}
use Rattle.pt_check.specs.declared.writes.Found.{Found}
use Rattle.pt_check.specs.Answers.{IsFirst, FirstWrite, IsFit, most_writes, switch_number, Answers, InNoTable, InOwned, phase_at, Course}
use Rattle.pt_check.specs.Answers.{IsCalm, IsNeither, ReadsSector}
use Rattle.pt_apply.specs.declared.plan.Plan.{Plan}
use Rattle.pt_layout.specs.declared.sound.finding.Finding.{Finding}
use Rattle.pt_check.specs.declared.answer.Answer.{Answer}
use Rattle.pt_check.specs.declared.answer.Answer.TheVariants.{No, Yes}
use Rattle.pt_check.specs.declared.answer.Why.{Why}
use Rattle.pt_check.specs.declared.answer.Why.TheVariants.{Final, NotATable, Owned, ReadSector, Neither}
use Rattle.pt_check.specs.declared.checker.Judged.{Judged}
use Rattle.pt_check.specs.declared.checker.Judged.TheVariants as judged
use Rattle.pt_check.specs.declared.trial.Trial.{Trial}
use Rattle.pt_check.specs.declared.trial.Trial.TheVariants.{Passed, Refused}
use Rattle.pt_members.specs.declared.layout.Layout.{Layout}
use Rattle.pt_sector.specs.declared.address.Lba.{Lba}
use Rattle.pt_recover.specs.Denotes.{Denotes, IsTraceOf}
use Rattle.pt_recover.specs.declared.trace.TracedRun.{TracedRun}
use Rattle.pt_check.specs.declared.trial.Step.{Step}
use Rattle.pt_check.specs.declared.trial.Step.TheVariants as step

-- ## The first write of which something holds.

abbrev pub FirstIs : {X : Type 0} → (X → Type 0) → List X → Option ℕ → Type 0
FirstIs P xs None = NoneIs P xs
FirstIs P xs (Some k) = (x : _) × IsFirst P xs k x

abbrev pub FirstWriteIs : (ℕ × List ℕ → Type 0) → Writes → Option Found → Type 0
FirstWriteIs P ws None = NoneIs P ws
FirstWriteIs P ws (Some f) = (k : ℕ) × (w : ℕ × List ℕ) × (f.number ≡ k + 1) × (f.lba.0 ≡ w.0) × IsFirst P ws k w

-- ## Why a plan is refused, and when it is accepted.

abbrev pub NumberIs : List Writes → (ℕ × List ℕ → Type 0) → Option ℕ → Type 0
NumberIs phases P None = NoneIs P (writes_in phases)
NumberIs phases P (Some n) = FirstWrite phases P n

-- ## What the checker's answer says of a disk with sectors of b bytes and the phases of a plan.

-- writes that fit are as many as is reported, not too many, and each of a sector below n
abbrev pub AreInRange : {b : _} → ℕ → Plan b → Judged → Type 0
AreInRange n plan (judged.Refused why) = Unit {0}
AreInRange n plan (judged.Fit count) =
    (count ≡ length (writes_in (phases_of plan))) × (length (writes_in (phases_of plan)) ≤ most_writes) × InRange n plan

-- a reason against the writes by themselves is the answer's; writes that fit are as they have to be on d
abbrev pub AreJudged : ℕ → Sectors → List Writes → Judged → Type 0
AreJudged b d phases (judged.Refused why) = Answers b d phases (No why)
AreJudged b d phases (judged.Fit count) = IsFit d phases

-- the answer from its parts: the reason of the phases, that of the writes' places, that of the finished disk, else the switch
abbrev pub concluded : Trial → Option Why → Option Finding → Answer
concluded (Refused w) misplaced finding = No w
concluded (Passed switch) (Some w) finding = No w
concluded (Passed switch) None (Some f) = No (Final f)
concluded (Passed switch) None None = Yes (switch_number switch)

-- ## Writes in the wrong place.

-- the first write in the tables of neither, else the first that is owned, else none of either kind
abbrev pub MisplacedIs : ℕ → Writes → Option Layout → Option Layout → Option Why → Type 0
MisplacedIs b ws old new None = NoneIs (InNoTable b old new) ws × NoneIs (InOwned b old new) ws
MisplacedIs b ws old new (Some (NotATable lba)) = (f : Found) × (f.lba ≡ lba) × FirstWriteIs (InNoTable b old new) ws (Some f)
MisplacedIs b ws old new (Some (Owned lba)) =
    NoneIs (InNoTable b old new) ws × ((f : Found) × (f.lba ≡ lba) × FirstWriteIs (InOwned b old new) ws (Some f))
MisplacedIs b ws old new (Some _) = ⊥

-- ## How the phases of a plan are tried.

-- the first of several writes whose sector is in S is of this one; none where there is one write at most, or none in S
abbrev pub TouchedIs : (ℕ → Type 0) → Writes → Option Lba → Type 0
TouchedIs S ws None = (length ws ≤ 1) ⊎ NoneIs (λ (w : ℕ × List ℕ). S w.0) ws
TouchedIs S ws (Some lba) = (1 < length ws) × ((k : ℕ) × (w : ℕ × List ℕ) × (lba.0 ≡ w.0) × IsFirst (λ (v : ℕ × List ℕ). S v.0) ws k w)

-- each write of a sector in S is alike to the bytes that d has there
abbrev pub KeepsRead : ℕ → (ℕ → Type 0) → Sectors → Writes → Type 0
KeepsRead b S d ws = (s : ℕ) (v : List ℕ) → Puts ws s v → S s → IsAlike b d s v

-- the layout after phases with this switch: the old one before it, the new one from it on
abbrev pub current_of : {L : Type 0} → Option L → Option L → Option ℕ → Option L
current_of old new None = old
current_of old new (Some s) = new

-- the switch so far, which is the phase of this number where it gave the new layout as the first; or neither layout
abbrev pub StepIs : {L : Type 0} → Option L → Option L → Option L → Option ℕ → ℕ → Step → Type 0
StepIs found old new switch number (step.Goes None) = (found ≡ old) × (switch ≡ None)
StepIs found old new switch number (step.Goes (Some s)) =
    (¬ (found ≡ old)) × (found ≡ new) × ((switch ≡ Some s) ⊎ ((switch ≡ None) × (s ≡ number)))
StepIs found old new switch number step.Neither = ((found ≡ old) × IsSome switch) ⊎ ((¬ (found ≡ old)) × (¬ (found ≡ new)))

-- what the phases came to where the one of this number gave the new layout, and no later one changes that
abbrev pub LastIs : {L : Type 0} → Option L → Option L → Option ℕ → ℕ → Trial → Type 0
LastIs old new switch number (Passed t) = StepIs new old new switch number (step.Goes t)
LastIs old new switch number (Refused (Neither p)) = (p ≡ number) × StepIs new old new switch number step.Neither
LastIs old new switch number (Refused _) = ⊥

-- from phase m on, counted from 0, no write is of a sector in S
abbrev pub SettlesFrom : (ℕ → Type 0) → List Writes → ℕ → Type 0
SettlesFrom S phases m = (j : ℕ) → m ≤ j → j < length phases → NoneIs (λ (w : ℕ × List ℕ). S w.0) (phase_at phases j)

module _ {L : Type 0} (denotes : Sectors → Option L → Type 0) (reads : Sectors → ℕ → Type 0) (phases : List Writes) (d : Sectors) where
  -- a phase of several writes is of a sector that is read, and those before it were passed
  pub record RefusedRead (old new : Option L) (phase lba : ℕ) : Type 0 where
    pub why : ReadsSector reads d phases phase lba
    pub switch : Option ℕ
    pub course : Course denotes reads phases d old new why.i switch

  -- a phase gave neither, and those before it were passed
  pub record RefusedNeither (old new : Option L) (phase : ℕ) : Type 0 where
    pub i : ℕ
    pub number : phase ≡ i + 1
    pub below : i < length phases
    pub switch : Option ℕ
    pub course : Course denotes reads phases d old new i switch
    pub calm : IsCalm denotes reads phases d i
    pub neither : IsNeither denotes d phases old new i

  -- what the phases came to
  abbrev pub TrialIs : Option L → Option L → Trial → Type 0
  TrialIs old new (Passed switch) = Course denotes reads phases d old new (length phases) switch
  TrialIs old new (Refused (ReadSector p lba)) = RefusedRead old new p lba.0
  TrialIs old new (Refused (Neither p)) = RefusedNeither old new p
  TrialIs old new (Refused _) = ⊥

-- ## What is known of a disk before a plan is tried.

-- d denotes this, and the trace has the sectors that recovery of d reads
pub record IsKnown (b : ℕ) (d : Sectors) (o : Option Layout) (trace : List TracedRun) : Type 0 where
  pub denotes : Denotes b d o
  pub reads : IsTraceOf b d trace
