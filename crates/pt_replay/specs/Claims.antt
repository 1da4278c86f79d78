-- What a reply says of each disk that has the sectors that were shown.
use Rattle.std.specs.Prelude.{◌≡◌, ◌≤◌, ◌-◌, ◌⊎◌, ℕ, ℤ, List, Some, None, nat_eq, if◌then◌else◌, ◌≢◌}
use Rattle.pt_sector.specs.Sectors.{Sectors, Writes}
use Rattle.pt_recover.specs.Denotes.{IsReason, Denotes, Reads}
use Rattle.pt_recover.specs.declared.error.NoTable.{NoTable as Reason}
use Rattle.pt_members.specs.declared.layout.Layout.{Layout}
use Rattle.pt_layout.specs.Healthy.{IsFinding, VerdictReads, Healthy}
use Rattle.pt_members.specs.Tables.{IsPlaceOf, OwnedOf, TableOf}
use Rattle.pt_layout.specs.declared.sound.finding.Finding.{Finding as FindingValue}
use Rattle.pt_path.specs.declared.path.Path.{Path}
use Rattle.pt_plan.specs.Batches.{Words, IsReady, IsRefusal, IsReadyToMend, IsMendRefusal, CommitReads, RepairReads}
use Rattle.pt_plan.specs.declared.error.CommitError.{CommitError}
use Rattle.pt_plan.specs.declared.repair_error.RepairError.{RepairError}
use Rattle.pt_replay.specs.Given.{AreSomeEdits, AreGroups, ToldOfWords, IsAskedFor, Buffers, Stands, HasNoPlace, AreTaken, ArePlan}
use Rattle.pt_replay.specs.Given.{ToldOfRows}
use Rattle.pt_replay.specs.Listed.{Listing, IsListed, HasNoRoom}
use Rattle.pt_replay.specs.declared.rows.WriteRow.{WriteRow}
use Rattle.pt_apply.specs.Plans.{Safe}
use Rattle.pt_check.specs.Answers.{Answers, CheckReads}
use Rattle.pt_check.specs.declared.answer.Answer.TheVariants.{No as AnswerNo}
use Rattle.pt_check.specs.declared.answer.Why.{Why}
use Rattle.pt_replay.specs.Replies.{status_code, the_path, the_random_bytes, nothing, answer, at_sector, switching, finding_answer}
use Rattle.pt_replay.specs.Replies.{table_answer, commit_answer, repair_answer, why_reply, the_other_size, the_other_view, other_count}
use Rattle.pt_replay.specs.Replies.{like_answer}
use Rattle.pt_cases.specs.declared.primary.Primary.{Primary as Choice}
use Rattle.pt_cases.specs.declared.primary.Primary.TheVariants as choice
use Rattle.pt_replay.specs.Wanted.{IsWanted, Judged, Tells, OfView, OrMemory, NoBuffers, IsView, choice_of}
use Rattle.pt_replay.specs.declared.answers.Status.{Status}
use Rattle.pt_replay.specs.declared.answers.Status.TheVariants.{Done, No, Usage, Refused, NoTable, Device, Memory, Want, Room, WantOther}
use Rattle.pt_replay.specs.declared.answers.Reply.{Reply}
use Rattle.pt_replay.specs.declared.view.View.{View}
use Rattle.pt_plan.specs.Layouts.{LikeReads, IsReadyLike, NotLike}
use Rattle.pt_plan.specs.declared.like_error.LikeError.{LikeError}

-- ## What a status says of the disk d, of which the caller has given the view v.

-- the disk denotes nothing, for the reason that the reply tells
abbrev pub SaysNothing : ℕ → Sectors → Reply → Type 0
SaysNothing b d r = (e : Reason) × Denotes b d None × IsReason b d e × (table_answer e ≡ answer NoTable r)

-- a sector of the disk is wanted that isn't in the view and is one of those that are read, and the reply has nothing else
abbrev pub Wants : ℕ → View → (ℕ → Type 0) → Reply → Type 0
Wants b v reads r = IsWanted b v r.sector × reads r.sector × (r ≡ at_sector r.sector)

-- no layout: the disk denotes nothing, or no answer yet
abbrev pub NoLayout : ℕ → View → Sectors → Status → Reply → Type 0
NoLayout b v d Done r = ⊥
NoLayout b v d No r = ⊥
NoLayout b v d Usage r = ⊥
NoLayout b v d Refused r = ⊥
NoLayout b v d NoTable r = SaysNothing b d r
NoLayout b v d Device r = ⊥
NoLayout b v d Memory r = r ≡ nothing
NoLayout b v d Want r = Wants b v (Reads b d) r
NoLayout b v d Room r = ⊥
NoLayout b v d WantOther r = ⊥

-- the disk is healthy, or the first finding is the one that the reply tells
abbrev pub Verified : ℕ → View → Sectors → Status → Reply → Type 0
Verified b v d Done r = Healthy b d × (r ≡ nothing)
Verified b v d No r = (f : FindingValue) × IsFinding b d f × (r ≡ (finding_answer f).reply)
Verified b v d Usage r = ⊥
Verified b v d Refused r = ⊥
Verified b v d NoTable r = ⊥
Verified b v d Device r = ⊥
Verified b v d Memory r = r ≡ nothing
Verified b v d Want r = Wants b v (VerdictReads b d) r
Verified b v d Room r = ⊥
Verified b v d WantOther r = ⊥

-- the same, once the view is judged
abbrev pub VerifiedFor : ℕ → View → Sectors → Status → Reply → Type 0
VerifiedFor b v d = OfView b v NoBuffers (Verified b v d)

-- a number and a letter of C name a partition: numbers begin at 1, and the letter is 0 for none, or from a to h
pub record IsNamed (number letter : ℕ) : Type 0 where
  pub number_is : 1 ≤ number
  pub letter_is : (letter ≡ 0) ⊎ ((97 ≤ letter) × (letter ≤ 104))

-- their path
abbrev pub path_in : ℕ → ℕ → Path
path_in number letter = record { number = number; letter = if nat_eq letter 0 then None else Some (letter - 97) }

-- the sector is that of the partition, or the partition has none there
abbrev pub Located : ℕ → View → Sectors → ℕ → ℕ → ℕ → Status → Reply → Type 0
Located b v d number letter k Done r =
    (o : Layout) × Denotes b d (Some o) × IsPlaceOf b o (path_in number letter) k r.sector × (r ≡ at_sector r.sector)
Located b v d number letter k No r =
    (o : Layout) × Denotes b d (Some o) × ((s : ℕ) → ¬ IsPlaceOf b o (path_in number letter) k s) × (r ≡ nothing)
Located b v d number letter k Usage r = ⊥
Located b v d number letter k Refused r = ⊥
Located b v d number letter k NoTable r = SaysNothing b d r
Located b v d number letter k Device r = ⊥
Located b v d number letter k Memory r = r ≡ nothing
Located b v d number letter k Want r = Wants b v (Reads b d) r
Located b v d number letter k Room r = ⊥
Located b v d number letter k WantOther r = ⊥

-- the same, once the number and letter are judged, and then the view
abbrev pub LocatedFor : ℕ → View → Sectors → ℕ → ℕ → ℕ → Status → Reply → Type 0
LocatedFor b v d number letter k =
    Judged (IsNamed number letter) (Tells the_path NoBuffers) (OfView b v NoBuffers (Located b v d number letter k))

-- what becomes of the primary copy: of words and of repairs, and of the layout of another disk
abbrev pub by_table : View → Choice
by_table v = choice_of choice.Zeroed v.primary

abbrev pub kept : View → Choice
kept v = choice_of choice.Kept v.primary

-- the words are refused for the reason that the answer tells, with this status
abbrev pub IsRefused : ℕ → View → Sectors → Words → Status → Reply → Type 0
IsRefused b v d batch s r = (e : CommitError) × IsRefusal (by_table v) b v.sectors batch d e × (commit_answer e ≡ answer s r)

-- no plan for the words: they are refused for the reason that the reply tells, or the disk denotes nothing, or no answer yet
abbrev pub NoPlan : ℕ → View → Sectors → Words → Status → Reply → Type 0
NoPlan b v d batch Done r = ⊥
NoPlan b v d batch No r = ⊥
NoPlan b v d batch Usage r = ⊥
NoPlan b v d batch Refused r = IsRefused b v d batch Refused r
NoPlan b v d batch NoTable r = IsRefused b v d batch NoTable r
NoPlan b v d batch Device r = ⊥
NoPlan b v d batch Memory r = r ≡ nothing
NoPlan b v d batch Want r = Wants b v (CommitReads (by_table v) b v.sectors batch d) r
NoPlan b v d batch Room r = ⊥
NoPlan b v d batch WantOther r = ⊥

-- a checked plan for the words stands in the buffers, or it has no room there; or there is none, and they stay as they were
abbrev pub Planned : ℕ → View → Sectors → Words → Buffers → Buffers → Status → Reply → Type 0
Planned b v d batch old new Done r = (phases : List Writes) × IsReady (by_table v) b v.sectors batch d phases × Stands phases old new r
Planned b v d batch old new No r = ⊥
Planned b v d batch old new Usage r = ⊥
Planned b v d batch old new Refused r = NoPlan b v d batch Refused r × (new ≡ old)
Planned b v d batch old new NoTable r = NoPlan b v d batch NoTable r × (new ≡ old)
Planned b v d batch old new Device r = ⊥
Planned b v d batch old new Memory r = (r ≡ nothing) × (new ≡ old)
Planned b v d batch old new Want r = NoPlan b v d batch Want r × (new ≡ old)
Planned b v d batch old new Room r = (phases : List Writes) × IsReady (by_table v) b v.sectors batch d phases × HasNoPlace phases old new r
Planned b v d batch old new WantOther r = ⊥

-- the disk isn't repaired for the reason that the answer tells, with this status
abbrev pub IsUnmended : ℕ → Sectors → Status → Reply → Type 0
IsUnmended b d s r = (e : RepairError) × IsMendRefusal b d e × (repair_answer e ≡ answer s r)

-- no plan for a repair
abbrev pub NoMending : ℕ → View → Sectors → Status → Reply → Type 0
NoMending b v d Done r = ⊥
NoMending b v d No r = ⊥
NoMending b v d Usage r = ⊥
NoMending b v d Refused r = IsUnmended b d Refused r
NoMending b v d NoTable r = IsUnmended b d NoTable r
NoMending b v d Device r = ⊥
NoMending b v d Memory r = r ≡ nothing
NoMending b v d Want r = Wants b v (RepairReads (by_table v) b v.sectors d) r
NoMending b v d Room r = ⊥
NoMending b v d WantOther r = ⊥

-- a checked plan for a repair stands in the buffers, or it has no room there; or there is none, and they stay as they were
abbrev pub Mended : ℕ → View → Sectors → Buffers → Buffers → Status → Reply → Type 0
Mended b v d old new Done r = (phases : List Writes) × IsReadyToMend (by_table v) b d phases × Stands phases old new r
Mended b v d old new No r = ⊥
Mended b v d old new Usage r = ⊥
Mended b v d old new Refused r = NoMending b v d Refused r × (new ≡ old)
Mended b v d old new NoTable r = NoMending b v d NoTable r × (new ≡ old)
Mended b v d old new Device r = ⊥
Mended b v d old new Memory r = (r ≡ nothing) × (new ≡ old)
Mended b v d old new Want r = NoMending b v d Want r × (new ≡ old)
Mended b v d old new Room r = (phases : List Writes) × IsReadyToMend (by_table v) b d phases × HasNoPlace phases old new r
Mended b v d old new WantOther r = ⊥

-- the same, once the view is judged
abbrev pub MendedFor : ℕ → View → Sectors → Buffers → Buffers → Status → Reply → Type 0
MendedFor b v d old new = OfView b v (new ≡ old) (Mended b v d old new)

-- the plan with these phases is safe, and the reply has its switch; or it isn't, for the first reason, which the reply tells
abbrev pub Checked : ℕ → View → Sectors → List Writes → Status → Reply → Type 0
Checked b v d phases Done r = Safe (Denotes b) (Healthy b) (TableOf b) (OwnedOf b) phases d r.a × (r ≡ switching r.a)
Checked b v d phases No r = (why : Why) × Answers b d phases (AnswerNo why) × (r ≡ why_reply why)
Checked b v d phases Usage r = ⊥
Checked b v d phases Refused r = ⊥
Checked b v d phases NoTable r = ⊥
Checked b v d phases Device r = ⊥
Checked b v d phases Memory r = r ≡ nothing
Checked b v d phases Want r = Wants b v (CheckReads b d phases) r
Checked b v d phases Room r = ⊥
Checked b v d phases WantOther r = ⊥

-- the same of what C asks for: the random bytes are judged, then the words, then the view
abbrev pub PlannedFor : ℕ → View → Sectors → List ℕ → List ℕ → Buffers → Buffers → Status → Reply → Type 0
PlannedFor b v d words drawn old new =
    OrMemory (new ≡ old) (Judged (AreGroups drawn) (Tells the_random_bytes (new ≡ old))
    (Judged (AreSomeEdits words) (λ r. ToldOfWords words r × (new ≡ old)) (OfView b v (new ≡ old)
    (λ s r. (batch : Words) × IsAskedFor words drawn batch × Planned b v d batch old new s r))))

-- the same of the plan that C gives by rows: these are judged, then the view
abbrev pub CheckedFor : ℕ → View → Sectors → List WriteRow → List ℕ → Status → Reply → Type 0
CheckedFor b v d rows bytes =
    OrMemory NoBuffers (Judged (ArePlan b rows bytes) (ToldOfRows b rows bytes) (OfView b v NoBuffers
    (λ s r. (plan : List Writes) × AreTaken b plan rows bytes × Checked b v d plan s r)))

-- what the disk denotes is listed, or has no room; else the buffers stay as they were
abbrev pub Members : ℕ → View → Sectors → Listing → Listing → Status → Reply → Type 0
Members b v d old new Done r = (o : Layout) × Denotes b d (Some o) × IsListed b o old new r
Members b v d old new No r = ⊥
Members b v d old new Usage r = ⊥
Members b v d old new Refused r = ⊥
Members b v d old new NoTable r = SaysNothing b d r × (new ≡ old)
Members b v d old new Device r = ⊥
Members b v d old new Memory r = (r ≡ nothing) × (new ≡ old)
Members b v d old new Want r = NoLayout b v d Want r × (new ≡ old)
Members b v d old new Room r = (o : Layout) × Denotes b d (Some o) × HasNoRoom b o old new r
Members b v d old new WantOther r = ⊥

-- the same, once the view is judged
abbrev pub MembersFor : ℕ → View → Sectors → Listing → Listing → Status → Reply → Type 0
MembersFor b v d old new = OfView b v (new ≡ old) (Members b v d old new)

-- a code that C gets is that of a status, and what the status says is so
abbrev pub Says : (Status → Reply → Type 0) → ℤ → Reply → Type 0
Says claim code r = (s : Status) × (code ≡ status_code s) × claim s r

-- ## What a status says of a plan by which the disk d becomes like the disk e, of which the caller has given the views v and o.

-- the disk doesn't become like the other one for the reason that the answer tells, with this status
abbrev pub IsUnlike : ℕ → View → Sectors → Sectors → Status → Reply → Type 0
IsUnlike b v d e s r = (x : LikeError) × NotLike (kept v) b e d x × (like_answer x ≡ answer s r)

-- no plan to become like the other disk; a sector that is wanted is one of the disk's or one of the other's, as the status says
abbrev pub NoAdopting : ℕ → View → View → Sectors → Sectors → Status → Reply → Type 0
NoAdopting b v o d e Done r = ⊥
NoAdopting b v o d e No r = ⊥
NoAdopting b v o d e Usage r = ⊥
NoAdopting b v o d e Refused r = IsUnlike b v d e Refused r
NoAdopting b v o d e NoTable r = IsUnlike b v d e NoTable r
NoAdopting b v o d e Device r = ⊥
NoAdopting b v o d e Memory r = r ≡ nothing
NoAdopting b v o d e Want r = Wants b v (LikeReads (kept v) b e d) r
NoAdopting b v o d e Room r = ⊥
NoAdopting b v o d e WantOther r = Wants b o (Reads b e) r

-- a checked plan for the layout of the other disk stands in the buffers, or it has no room there; or there is none, and they stay as
-- they were
abbrev pub Adopted : ℕ → View → View → Sectors → Sectors → Buffers → Buffers → Status → Reply → Type 0
Adopted b v o d e old new Done r = (phases : List Writes) × IsReadyLike (kept v) b e d phases × Stands phases old new r
Adopted b v o d e old new No r = ⊥
Adopted b v o d e old new Usage r = ⊥
Adopted b v o d e old new Refused r = NoAdopting b v o d e Refused r × (new ≡ old)
Adopted b v o d e old new NoTable r = NoAdopting b v o d e NoTable r × (new ≡ old)
Adopted b v o d e old new Device r = ⊥
Adopted b v o d e old new Memory r = (r ≡ nothing) × (new ≡ old)
Adopted b v o d e old new Want r = NoAdopting b v o d e Want r × (new ≡ old)
Adopted b v o d e old new Room r = (phases : List Writes) × IsReadyLike (kept v) b e d phases × HasNoPlace phases old new r
Adopted b v o d e old new WantOther r = NoAdopting b v o d e WantOther r × (new ≡ old)

-- the view of the other disk is judged
abbrev pub OfOther : ℕ → View → Type 0 → (Status → Reply → Type 0) → Status → Reply → Type 0
OfOther b o stay = Judged (IsView b o) (Tells the_other_view stay)

-- its size of sectors is judged: it is that of the disk
abbrev pub OfOtherSize : ℕ → View → Type 0 → (Status → Reply → Type 0) → Status → Reply → Type 0
OfOtherSize b o stay = Judged (o.sector_size ≡ b) (Tells the_other_size stay)

-- the numbers of sectors of both disks are compared: where they differ, this is refused
abbrev pub OfOtherCount : View → View → Type 0 → (Status → Reply → Type 0) → Status → Reply → Type 0
OfOtherCount v o stay rest s r =
    ((o.sectors ≢ v.sectors) × (s ≡ Refused) × (r ≡ other_count) × stay) ⊎ ((o.sectors ≡ v.sectors) × rest s r)

-- the same, once the other view's size of sectors is judged, then the view, then the other view, and then the numbers of sectors
abbrev pub AdoptedFor : ℕ → View → View → Sectors → Sectors → Buffers → Buffers → Status → Reply → Type 0
AdoptedFor b v o d e old new =
    OfOtherSize b o (new ≡ old) (OfView b v (new ≡ old) (OfOther b o (new ≡ old) (OfOtherCount v o (new ≡ old)
    (Adopted b v o d e old new))))
