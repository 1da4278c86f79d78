-- What answers say of plans by which a disk takes the table of a text.
use Rattle.std.proofs.Common.{◌≡◌, ℕ, List, inl, inr, Some, Result, Ok, Err, refl, sym, subst}
use Rattle.std.specs.Str.{IsUtf8}
use Rattle.pt_guid.specs.declared.guid.Guid.{Guid}
use Rattle.pt_sector.specs.Sectors.{Sectors, Writes}
use Rattle.pt_sector.specs.Device.{Told}
use Rattle.pt_sector.specs.declared.disk.Fault.{Fault}
use Rattle.pt_sector.specs.declared.disk.Fault.TheVariants as fault
use Rattle.pt_cases.specs.declared.primary.Primary.{Primary as Choice}
use Rattle.pt_members.specs.declared.layout.Layout.{Layout}
use Rattle.pt_drafts.specs.Tables.{draft_of, Tells}
use Rattle.pt_drafts.specs.declared.draft.Draft.{Draft}
use Rattle.pt_drafts.specs.declared.fault.DraftError.{DraftError}
use Rattle.pt_drafts.specs.declared.fault.DraftError.TheVariants as draft_error
use Rattle.pt_drafts.specs.declared.fault.TextFault.{TextFault}
use Rattle.pt_plan.specs.Batches.{FailedInCommit, LayoutReads}
use Rattle.pt_plan.specs.Layouts.{IsReadyFor}
use Rattle.pt_plan.specs.declared.error.CommitError.{CommitError}
use Rattle.pt_plan.specs.declared.error.CommitError.TheVariants as commit
use Rattle.pt_set.specs.Sets.{draft_failure, set_fault_in}
use Rattle.pt_set.specs.declared.error.SetError.{SetError}
use Rattle.pt_set.specs.declared.error.SetError.TheVariants as set_error
use Rattle.pt_replay.specs.Claims.{kept}
use Rattle.pt_replay.specs.Given.{Buffers, AreDrawn}
use Rattle.pt_replay.specs.Replies.{answer, bad_argument, set_answer, the_text}
use Rattle.pt_replay.specs.Tables.{IsReadyToSet, MadeBy, NoSetting, NotSet, Set, SetFor, SetReads, set_old, set_plan, TextMakes}
use Rattle.pt_replay.specs.Wanted.{OfView, NoBuffers}
use Rattle.pt_replay.specs.inner.Given.{Gives}
use Rattle.pt_replay.specs.inner.Tables.{FailedInSet, NotMade, NotMadeOf, ReadsOld}
use Rattle.pt_replay.specs.inner.Wanted.{IsUnasked, NoGroups}
use Rattle.pt_replay.proofs.Saying.{viewed}
use Rattle.pt_replay.proofs.ViewLemmas.{IsAsked}
use Rattle.pt_replay.specs.declared.answers.Status.{Status}
use Rattle.pt_replay.specs.declared.answers.Status.TheVariants as status
use Rattle.pt_replay.specs.declared.answers.Answer.{Answer}
use Rattle.pt_replay.specs.declared.answers.Reply.{Reply}
use Rattle.pt_replay.specs.declared.view.View.{View}

-- what a draft makes is made by its text
pub text_makes : (b n : ℕ) (d : Sectors) (fresh : List Guid) (text : List ℕ) (drafted : Result Draft TextFault)
    (r : Result Layout TextFault) → draft_of text ≡ drafted → MadeBy b n d fresh drafted r → TextMakes b n d fresh text r
text_makes b n d fresh text drafted r is made =
    subst (λ (x : Result Draft TextFault). MadeBy b n d fresh x r) (sym is) made

-- where a text has no draft
pub text_fails : (b n : ℕ) (d : Sectors) (fresh : List Guid) (text : List ℕ) (e : DraftError) → Tells (draft_of text) e
    → NotMade b n d fresh text (draft_failure e)
text_fails b n d fresh text (draft_error.Fault f) told = text_makes b n d fresh text (Err f) (Err f) told refl
text_fails b n d fresh text draft_error.Memory told = tt

-- where its draft makes no layout
pub draft_fails : (b n : ℕ) (d : Sectors) (fresh : List Guid) (text : List ℕ) (draft : Draft) (e : SetError) → draft_of text ≡ Ok draft
    → NotMadeOf b n d fresh draft e → NotMade b n d fresh text e
draft_fails b n d fresh text draft (set_error.Fault f) is made = text_makes b n d fresh text (Ok draft) (Err f) is made
draft_fails b n d fresh text draft (set_error.Disk e) is unread = unread

-- a plan after calls that only read
pub ready_after : (primary : Choice) (b n m : ℕ) (wanted : Layout) (phases : List Writes) (old between : Told) → m ≡ n → between ≡ old
    → IsReadyFor primary b m wanted between.seen phases → IsReadyFor primary b n wanted old.seen phases
ready_after primary b n m wanted phases old between count same ready =
    subst (λ (k : ℕ). IsReadyFor primary b k wanted old.seen phases) count
    (subst (λ (t : Told). IsReadyFor primary b m wanted t.seen phases) same ready)

-- a read that recovery makes, and one of the plan
failed_on : (S T : ℕ → Type 0) → ((s : ℕ) → S s → T s) → (e : CommitError) → FailedInCommit S e → FailedInCommit T e
failed_on S T on (commit.NoTable e) failed = tt
failed_on S T on (commit.Edit e) failed = tt
failed_on S T on (commit.Plan e) failed = tt
failed_on S T on (commit.Check e) failed = tt
failed_on S T on (commit.Device (fault.Read at)) failed = on at.0 failed
failed_on S T on (commit.Device (fault.Write at)) failed = tt
failed_on S T on (commit.Device fault.Flush) failed = tt
failed_on S T on commit.Memory failed = tt

module _ (primary : Choice) (b n : ℕ) (d : Sectors) (fresh : List Guid) (text : List ℕ) where
  pub old_failed : (e : SetError) → FailedInSet (ReadsOld b d text) e → FailedInSet (SetReads primary b n d fresh text) e
  old_failed (set_error.Fault f) failed = tt
  old_failed (set_error.Disk e) failed =
      failed_on (ReadsOld b d text) (SetReads primary b n d fresh text) (λ s is. set_old is.draft is.drafted is.reads) e failed

  -- why there is no plan: there is no layout
  pub not_made : (e : SetError) → NotMade b n d fresh text e → NotSet primary b n d fresh text e
  not_made (set_error.Fault f) is = is
  not_made (set_error.Disk e) is = inl is

  pub plan_failed : (wanted : Layout) (e : CommitError) → TextMakes b n d fresh text (Ok wanted)
      → FailedInCommit (LayoutReads primary b wanted d) e → FailedInCommit (SetReads primary b n d fresh text) e
  plan_failed wanted e made failed =
      failed_on (LayoutReads primary b wanted d) (SetReads primary b n d fresh text) (λ s is. set_plan wanted made is) e failed

module _ (b : ℕ) (v : View) (d : Sectors) (fresh : List Guid) (text : List ℕ) where
  abbrev SaysOf : SetError → Type 0
  SaysOf e = NoSetting b v d fresh text (set_answer e).status (set_answer e).reply

  asks_setting : (f : Fault) → IsAsked b v f → FailedInCommit (SetReads (kept v) b v.sectors d fresh text) (commit.Device f)
      → SaysOf (set_error.Disk (commit.Device f))
  asks_setting (fault.Read at) is failed = (is, failed, refl)
  asks_setting (fault.Write at) is failed = absurd is
  asks_setting fault.Flush is failed = absurd is

  -- an error of the text or of the planner
  pub says_unset : (e : SetError) → NotSet (kept v) b v.sectors d fresh text e → ((f : Fault) → set_fault_in e ≡ Some f → IsAsked b v f)
      → FailedInSet (SetReads (kept v) b v.sectors d fresh text) e → SaysOf e
  says_unset (set_error.Fault f) is asked failed = (set_error.Fault f, is, refl)
  says_unset (set_error.Disk (commit.NoTable x)) (inl none) asked failed = absurd none
  says_unset (set_error.Disk (commit.NoTable x)) (inr is) asked failed = absurd (is.2.2 tt)
  says_unset (set_error.Disk (commit.Edit x)) is asked failed = (set_error.Disk (commit.Edit x), is, refl)
  says_unset (set_error.Disk (commit.Plan x)) is asked failed = (set_error.Disk (commit.Plan x), is, refl)
  says_unset (set_error.Disk (commit.Check x)) (inl none) asked failed = absurd none
  says_unset (set_error.Disk (commit.Check x)) (inr is) asked failed = absurd is.2
  says_unset (set_error.Disk (commit.Device f)) is asked failed = asks_setting f (asked f refl) failed
  says_unset (set_error.Disk commit.Memory) is asked failed = refl

  -- a plan that is given, or not
  pub gives_set : (phases : List Writes) (old new : Buffers) (s : Status) (r : Reply)
      → IsReadyToSet (kept v) b v.sectors d fresh text phases → Gives phases old new s r → Set b v d fresh text old new s r
  gives_set phases old new status.Done r ready given = (phases, ready, given)
  gives_set phases old new status.No r ready given = absurd given
  gives_set phases old new status.Usage r ready given = absurd given
  gives_set phases old new status.Refused r ready given = absurd given
  gives_set phases old new status.NoTable r ready given = absurd given
  gives_set phases old new status.Device r ready given = absurd given
  gives_set phases old new status.Memory r ready given = given
  gives_set phases old new status.Want r ready given = absurd given
  gives_set phases old new status.Room r ready given = (phases, ready, given)
  gives_set phases old new status.WantOther r ready given = absurd given

  not_set : (old new : Buffers) → new ≡ old → (s : Status) (r : Reply) → NoSetting b v d fresh text s r → Set b v d fresh text old new s r
  not_set old new same status.Done r is = absurd is
  not_set old new same status.No r is = is
  not_set old new same status.Usage r is = is
  not_set old new same status.Refused r is = (is, same)
  not_set old new same status.NoTable r is = is
  not_set old new same status.Device r is = is
  not_set old new same status.Memory r is = (is, same)
  not_set old new same status.Want r is = (is, same)
  not_set old new same status.Room r is = absurd is
  not_set old new same status.WantOther r is = is

  pub sets_not : (old new : Buffers) (s : Status) (r : Reply) → new ≡ old → OfView b v NoBuffers (NoSetting b v d fresh text) s r
      → OfView b v (new ≡ old) (Set b v d fresh text old new) s r
  sets_not old new s r same is = viewed NoBuffers (new ≡ old) (λ none. same) (not_set old new same) s r is

module _ (b : ℕ) (v : View) (d : Sectors) (text drawn : List ℕ) (old new : Buffers) where
  -- random bytes that are no groups
  pub no_fresh : (s : Status) (r : Reply) → new ≡ old → IsUnasked (NoGroups drawn) s r → SetFor b v d text drawn old new s r
  no_fresh status.Done r same is = absurd is
  no_fresh status.No r same is = absurd is
  no_fresh status.Usage r same is = inr (inl (is.0, refl, (is.1, same)))
  no_fresh status.Refused r same is = absurd is
  no_fresh status.NoTable r same is = absurd is
  no_fresh status.Device r same is = absurd is
  no_fresh status.Memory r same is = inl (refl, is, same)
  no_fresh status.Want r same is = absurd is
  no_fresh status.Room r same is = absurd is
  no_fresh status.WantOther r same is = absurd is

  -- a text that isn't UTF-8
  pub not_utf8 : (fresh : List Guid) (a : Answer) → AreDrawn drawn fresh → ¬ IsUtf8 text → new ≡ old
      → a ≡ answer status.Usage (bad_argument the_text) → SetFor b v d text drawn old new a.status a.reply
  not_utf8 fresh a are not same is =
      subst (λ (x : Answer). SetFor b v d text drawn old new x.status x.reply) (sym is)
      (inr (inr ((fresh, are), inl (not, refl, (refl, same)))))

  -- both are given
  pub set_for : (fresh : List Guid) (s : Status) (r : Reply) → IsUtf8 text → AreDrawn drawn fresh
      → OfView b v (new ≡ old) (Set b v d fresh text old new) s r → SetFor b v d text drawn old new s r
  set_for fresh s r utf8 are is =
      inr (inr (
        (fresh, are),
        inr (
          utf8,
          viewed {later = λ t q. (gs : List Guid) × AreDrawn drawn gs × Set b v d gs text old new t q}
              (new ≡ old) (new ≡ old) (λ same. same) (λ t q set. (fresh, are, set)) s r is,
        ),
      ))
