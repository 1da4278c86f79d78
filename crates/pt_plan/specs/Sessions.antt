-- Sessions, and runs of calls and crashes.
use Rattle.std.specs.Prelude.{◌≡◌, List, [], ◌∷◌, ◌++◌, Option, Some, Result, Ok, Err, ◌⊎◌, ℕ, IfOk, IfErr}
use Rattle.pt_sector.specs.Sectors.{Sectors, Writes, after}
use Rattle.pt_check.specs.declared.answer.Answer.{Answer}
use Rattle.pt_check.specs.declared.answer.Answer.TheVariants.{No, Yes}
use Rattle.pt_sector.specs.Device.{Told, LeavesOnly, Moment, MayLeave, LeftBy, Flushed, FailedFlush}
use Rattle.pt_plan.specs.Commits.{Past, Has, Holds, past, Done, Unchanged, Either, Carries, Applied, ApplyFailed, SafelyStopped}
use Rattle.pt_sector.specs.declared.disk.Fault.{Fault}
use Rattle.pt_plan.specs.declared.error.CommitError.{CommitError}
use Rattle.pt_plan.specs.declared.error.CommitError.TheVariants.{Device}
use Rattle.pt_plan.specs.declared.runs.sessions.Reply.{Reply}
use Rattle.pt_plan.specs.declared.runs.sessions.Reply.TheVariants as reply
use Rattle.pt_apply.specs.Plans.{Settled}
use Rattle.pt_plan.specs.declared.repair_error.RepairError.{RepairError}
use Rattle.pt_recover.specs.Denotes.{Denotes}
use Rattle.pt_plan.specs.Batches.{Words, Change, ChangedBy, CommitsAny, Commits, RepairsAny, FailedInCommit, CommitReads, to_layout}
use Rattle.pt_cases.specs.declared.primary.Primary.{Primary as Choice}
use Rattle.pt_members.specs.declared.layout.Layout.{Layout}
use Rattle.pt_plan.specs.declared.runs.sessions.Batch.{Batch}

-- ## Calls one after another, and what a crash may have left of them. L is a layout, W the words of a call, R a refusal of words.

-- a call: what is known of it where a crash was inside it, and once it answered
pub record Call (W : Type 0) : Type 0 where
  pub inside : Past W
  pub done : Past W

-- what is known of calls that all answered
abbrev pub answered : {W : Type 0} → List (Call W) → List (Past W)
answered [] = []
answered (call ∷ calls) = call.done ∷ answered calls

-- what is known of calls where a crash was inside one of them: those before it answered, and those after it never began
pub record IsCutShort {W : Type 0} (calls : List (Call W)) (past : List (Past W)) : Type 0 where
  pub before : List (Call W)
  pub call : Call W
  pub after : List (Call W)
  pub are : calls ≡ before ++ call ∷ after
  pub is : past ≡ answered before ++ call.inside ∷ []

module _ {L W R : Type 0} (denotes : Sectors → Option L → Type 0) (edited : Option L → W → Result L R → Type 0) where
  -- c denotes what those calls and a crash inside one of these may have made of o
  abbrev pub HasCutShort : Option L → List (Past W) → List (Call W) → Sectors → Type 0
  HasCutShort o earlier calls c = (past : List (Past W)) × IsCutShort calls past × Has denotes edited o (earlier ++ past) c

  -- these calls in order carry every history on: each disk that a crash in them may leave is one that a crash could leave
  -- at their start, or has one that ends inside one of them, whichever; and each that a crash may leave at the last one's
  -- return has one with all their answers. Which calls had answered before a crash is for KeepsHistory to say
  pub record CarryOn (calls : List (Call W)) (old new : Told) : Type 0 where
    pub any_moment : (o : Option L) (earlier : List (Past W)) → Holds denotes edited o earlier old
        → LeavesOnly old new (HasCutShort o earlier calls)
    pub at_return : (o : Option L) (earlier : List (Past W)) → Holds denotes edited o earlier old
        → Holds denotes edited o (earlier ++ answered calls) new

-- ## A session is its commits, one after the other, up to the first fault. W is the words of a batch, C what one commit does.

-- a commit's answer as a reply
abbrev pub reply_of : Result Unit CommitError → Reply
reply_of (Ok x) = reply.Done
reply_of (Err (Device fault)) = reply.Fault fault
reply_of (Err e) = reply.Refused e

-- batches after a fault: not one is tried
abbrev pub NoneTried : {W : Type 0} → List W → List Reply → Type 0
NoneTried [] [] = Unit {0}
NoneTried (w ∷ ws) (reply.NotTried ∷ rs) = NoneTried ws rs
NoneTried ws rs = ⊥

-- one reply for each batch: of a commit, up to the first fault, and after it, and only there, that it wasn't tried
abbrev pub AreReplies : {W : Type 0} → List W → List Reply → Type 0
AreReplies [] [] = Unit {0}
AreReplies (w ∷ ws) (reply.Done ∷ rs) = AreReplies ws rs
AreReplies (w ∷ ws) (reply.Refused (Device fault) ∷ rs) = ⊥
AreReplies (w ∷ ws) (reply.Refused e ∷ rs) = AreReplies ws rs
AreReplies (w ∷ ws) (reply.Fault fault ∷ rs) = NoneTried ws rs
AreReplies ws rs = ⊥

-- the faults that replies tell
abbrev pub faults_in : List Reply → List Fault
faults_in [] = []
faults_in (reply.Fault fault ∷ rs) = fault ∷ faults_in rs
faults_in (r ∷ rs) = faults_in rs

module _ {W : Type 0} (commits : W → Result Unit CommitError → Told → Told → Type 0) where
  -- the batches that were tried were committed in order, each with the answer that its reply tells; the others did nothing
  abbrev pub Session : List W → List Reply → Told → Told → Type 0
  Session [] [] old new = new ≡ old
  Session (w ∷ ws) (reply.NotTried ∷ rs) old new = Session ws rs old new
  Session (w ∷ ws) (r ∷ rs) old new =
      (result : Result Unit CommitError) × (mid : Told) × (r ≡ reply_of result) × commits w result old mid × Session ws rs mid new
  Session ws rs old new = ⊥

-- what is known of a batch by its reply, as a call
abbrev pub call_of_reply : {W : Type 0} → W → Reply → Call W
call_of_reply w reply.Done = record { inside = Either w; done = past w (Ok tt) }
call_of_reply w (reply.Refused e) = record { inside = Either w; done = past w (Err e) }
call_of_reply w (reply.Fault fault) = record { inside = Either w; done = past w (Err (Device fault)) }
call_of_reply w reply.NotTried = record { inside = Unchanged; done = Unchanged }

-- the batches of a session as calls
abbrev pub calls_of : {W : Type 0} → List W → List Reply → List (Call W)
calls_of [] rs = []
calls_of (w ∷ ws) [] = []
calls_of (w ∷ ws) (r ∷ rs) = call_of_reply w r ∷ calls_of ws rs

-- ## Runs: calls that write on one disk, one after the other, and what a crash leaves of them. L is a layout, W the change that a
-- call is to make, R a refusal of it.

-- a call, with what it answered. Of a plan from elsewhere that is checked and applied it is given what is known of it as a call. A
-- session that got no memory for its replies did nothing, and so did a call that failed before it asked anything of the disk
pub data Step (W : Type 0) : Type 0 where
  a_commit : W → Result Unit CommitError → Step W
  a_repair : Result Unit RepairError → Step W
  a_session : List W → List Reply → Step W
  a_plan : Call W → Step W
  nothing : Step W

-- what is known of its calls: a session has one for each batch
abbrev pub calls_in : {W : Type 0} → Step W → List (Call W)
calls_in (a_commit w result) = record { inside = Either w; done = past w result } ∷ []
calls_in (a_repair result) = record { inside = Unchanged; done = Unchanged } ∷ []
calls_in (a_session ws rs) = calls_of ws rs
calls_in (a_plan call) = call ∷ []
calls_in nothing = []

-- what is known of the calls of all steps, in order
abbrev pub calls_of_all : {W : Type 0} → List (Step W) → List (Call W)
calls_of_all [] = []
calls_of_all (step ∷ steps) = calls_in step ++ calls_of_all steps

-- a crash at one of the moments since old, or a crash now, leaves c
abbrev pub IsLeftBy : Told → Told → Sectors → Type 0
IsLeftBy old new c = ((more : List Moment) × (new.past ≡ old.past ++ more) × LeftBy more c) ⊎ MayLeave new c

-- one flush was called, done or failed, and nothing else: a read gives what it gave, and every crash since old leaves that
pub record OnlyFlushes (old new : Told) : Type 0 where
  pub called : Flushed old new ⊎ FailedFlush old new
  pub seen : new.seen ≡ old.seen
  pub left : (c : Sectors) → IsLeftBy old new c → c ≡ old.seen

module _ {W : Type 0} (commits : W → Result Unit CommitError → Told → Told → Type 0)
    (repairs : Result Unit RepairError → Told → Told → Type 0) (applies : Call W → Told → Told → Type 0) where
  -- what the contract of the call says of the disk before and after it
  abbrev pub Did : Step W → Told → Told → Type 0
  Did (a_commit w result) old new = commits w result old new
  Did (a_repair result) old new = repairs result old new
  Did (a_session ws rs) old new = Session commits ws rs old new
  Did (a_plan call) old new = applies call old new
  Did nothing old new = new ≡ old

  -- these calls in order, each on the disk that the one before it left
  abbrev pub Ran : List (Step W) → Told → Told → Type 0
  Ran [] old new = new ≡ old
  Ran (step ∷ steps) old new = (mid : Told) × Did step old mid × Ran steps mid new

  -- one call, and the disk before and after it: a commit, a plan from elsewhere, a repair, or a session's batch that wasn't tried, which
  -- did nothing
  abbrev pub DidCall : Call W → Told → Told → Type 0
  DidCall call old new =
      ((w : W) × (result : Result Unit CommitError) × (call ≡ record { inside = Either w; done = past w result })
      × commits w result old new)
      ⊎ (applies call old new
      ⊎ ((call ≡ record { inside = Unchanged; done = Unchanged })
      × (((result : Result Unit RepairError) × repairs result old new) ⊎ (new ≡ old))))

  -- these calls in order, each on the disk that the one before it left
  abbrev pub DidCalls : List (Call W) → Told → Told → Type 0
  DidCalls [] old new = new ≡ old
  DidCalls (call ∷ calls) old new = (mid : Told) × DidCall call old mid × DidCalls calls mid new

  -- a crash before the first of these calls, between two of them, or after the last leaves c. Of those begun so far this is
  -- known: each answered
  pub record CrashBetween (calls : List (Call W)) (old new : Told) (known : List (Past W)) (c : Sectors) : Type 0 where
    pub before : List (Call W)
    pub after : List (Call W)
    pub are : calls ≡ before ++ after
    pub now : Told
    pub earlier : DidCalls before old now
    pub later : DidCalls after now new
    pub left : MayLeave now c
    pub is : known ≡ answered before

  -- a crash inside one of these calls leaves c. Of those begun so far this is known: each before that one answered, and
  -- that one was done or not
  pub record CrashInside (calls : List (Call W)) (old new : Told) (known : List (Past W)) (c : Sectors) : Type 0 where
    pub before : List (Call W)
    pub call : Call W
    pub after : List (Call W)
    pub are : calls ≡ before ++ call ∷ after
    pub start : Told
    pub return : Told
    pub earlier : DidCalls before old start
    pub did : DidCall call start return
    pub later : DidCalls after return new
    pub left : IsLeftBy start return c
    pub is : known ≡ answered before ++ call.inside ∷ []

  -- a crash between these calls or inside one of them
  abbrev pub CrashIn : List (Call W) → Told → Told → List (Past W) → Sectors → Type 0
  CrashIn calls old new known c = CrashBetween calls old new known c ⊎ CrashInside calls old new known c

  -- runs with a crash in or after each of them: the first begins on d, each other one on the disk that the crash before it
  -- left, with nothing pending, and the last crash leaves e
  abbrev pub Lives : List (List (Step W)) → Sectors → Sectors → Type 0
  Lives [] d e = e ≡ d
  Lives (steps ∷ runs) d e =
      (old : Told) × (new : Told) × (c : Sectors) × Settled old d × Ran steps old new × IsLeftBy old new c × Lives runs c e

  -- the same, where this is known of the calls that were begun before each crash, run by run
  abbrev pub LivesKnown : List (List (Step W)) → List (Past W) → Sectors → Sectors → Type 0
  LivesKnown [] known d e = (known ≡ []) × (e ≡ d)
  LivesKnown (steps ∷ runs) known d e = (old : Told) × (new : Told) × (c : Sectors) × (here : List (Past W)) × (rest : List (Past W))
      × (known ≡ here ++ rest) × Settled old d × Ran steps old new × CrashIn (calls_of_all steps) old new here c × LivesKnown runs rest c e

  module _ {L R : Type 0} (denotes : Sectors → Option L → Type 0) (edited : Option L → W → Result L R → Type 0) where
    -- these calls, on a disk that earlier ones left, lost nothing of its history from o at any moment
    pub record KeepsHistory (o : Option L) (earlier : List (Past W)) (calls : List (Call W)) (old new : Told) : Type 0 where
      pub did : DidCalls calls old new
      -- the moments since old: one before each write and flush
      pub more : List Moment
      pub past : new.past ≡ old.past ++ more
      -- a crash at one of them, or now, is one between the calls or inside one of them
      pub each : (c : Sectors) → LeftBy more c ⊎ MayLeave new c → (known : List (Past W)) × CrashIn calls old new known c
      -- whichever it is, it leaves a disk that denotes what the earlier calls, and then those begun so far, make of o
      pub keeps : (c : Sectors) (known : List (Past W)) → CrashIn calls old new known c → Has denotes edited o (earlier ++ known) c

-- ## Changes as calls, and sessions and runs of them, on a disk of n sectors of b bytes.

-- a commit of the change that answered so, as a call
abbrev pub call_of : Change → Result Unit CommitError → Call Change
call_of change result = record { inside = Either change; done = past change result }

-- a call that changes nothing
abbrev pub unchanged : Call Change
unchanged = record { inside = Unchanged; done = Unchanged }

-- a call carries every history on, and so do calls in order
abbrev pub CallCarries : ℕ → ℕ → Call Change → Told → Told → Type 0
CallCarries b n call = Carries (Denotes b) (ChangedBy b n) call.inside call.done

abbrev pub CallsCarry : ℕ → ℕ → List (Call Change) → Told → Told → Type 0
CallsCarry b n = CarryOn (Denotes b) (ChangedBy b n)

-- a plan from elsewhere, whose writes make the layout l, as a call: once it is done it is a change to l; where one of its calls failed
-- it is done or not
abbrev pub plan_done : Layout → Call Change
plan_done l = record { inside = Either (to_layout l); done = Done (to_layout l) }

abbrev pub plan_failed : Layout → Call Change
plan_failed l = record { inside = Either (to_layout l); done = Either (to_layout l) }

-- which call it is by its answer: a yes is a change to the layout that the plan makes. A no changes nothing, nor does an error where the
-- first flush was called and nothing else
abbrev pub IsPlanCall : ℕ → List Writes → Result Answer CommitError → Told → Told → Call Change → Type 0
IsPlanCall b phases (Ok (Yes switch)) old new call = (l : Layout) × Denotes b (after phases old.seen) (Some l) × (call ≡ plan_done l)
IsPlanCall b phases (Ok (No why)) old new call = call ≡ unchanged
IsPlanCall b phases (Err (Device fault)) old new call = ((call ≡ unchanged) × (Flushed old new ⊎ FailedFlush old new))
    ⊎ ((l : Layout) × Denotes b (after phases old.seen) (Some l) × (call ≡ plan_failed l))
IsPlanCall b phases (Err e) old new call = call ≡ unchanged

-- what the contract of `apply_checked` says of these phases, on a disk that a crash may leave as a read gives it
pub record AppliesPlan (b : ℕ) (phases : List Writes) (result : Result Answer CommitError) (old new : Told) : Type 0 where
  pub seen : MayLeave old old.seen
  pub applied : IfOk result (Applied b phases old new)
  pub failed : IfErr result (ApplyFailed b phases old new)
  pub any_moment : LeavesOnly old new (SafelyStopped b phases old.seen)

-- a plan was checked and applied, as this call
abbrev pub Applies : ℕ → Call Change → Told → Told → Type 0
Applies b call old new = (phases : List Writes) × (result : Result Answer CommitError)
    × AppliesPlan b phases result old new × IsPlanCall b phases result old new call

-- the words of a batch of the code
abbrev pub batch_of : Batch → Words
batch_of batch = record { edits = batch.edits.items; guids = batch.guids.items }

-- a commit of the batch that answered so. Where a read failed, its sector is one that the commit reads
abbrev pub CommitsByReads : Choice → ℕ → ℕ → Words → Result Unit CommitError → Told → Told → Type 0
CommitsByReads primary b n batch result old new =
    Commits primary b n batch result old new × IfErr result (FailedInCommit (CommitReads primary b n batch old.seen))

-- a session of batches on a disk of n sectors of b bytes
abbrev pub SessionOf : Choice → ℕ → ℕ → List Words → List Reply → Told → Told → Type 0
SessionOf primary b n = Session (Commits primary b n)

-- the same, and where a read failed, its sector is one that the commit reads
abbrev pub SessionByReads : Choice → ℕ → ℕ → List Words → List Reply → Told → Told → Type 0
SessionByReads primary b n = Session (CommitsByReads primary b n)

-- calls in order, on such a disk
abbrev pub RunOf : ℕ → ℕ → List (Step Change) → Told → Told → Type 0
RunOf b n = Ran (CommitsAny b n) (RepairsAny b n) (Applies b)

-- the calls of a run on such a disk, after earlier ones, lost nothing of its history from o at any moment
abbrev pub RunKeepsHistory : ℕ → ℕ → Option Layout → List (Past Change) → List (Step Change) → Told → Told → Type 0
RunKeepsHistory b n o earlier steps =
    KeepsHistory (CommitsAny b n) (RepairsAny b n) (Applies b) (Denotes b) (ChangedBy b n) o earlier (calls_of_all steps)
