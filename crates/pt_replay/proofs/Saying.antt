-- What answers say.
use Rattle.std.proofs.Common.{◌≡◌, inl, inr, sym, subst, ap, ◌∙◌, List, to_z, of_z, w32, ℤ, ℕ, Some, None, refl}
use Rattle.pt_sector.specs.Sectors.{Sectors, IsSectorSize, Writes}
use Rattle.pt_sector.specs.Device.{IsReadIn}
use Rattle.pt_sector.specs.Overlays.{FailedIn, fault_of}
use Rattle.pt_sector.specs.declared.disk.Fault.{Fault}
use Rattle.pt_sector.specs.declared.disk.Fault.TheVariants as fault
use Rattle.pt_sector.specs.declared.reading.Failure.{Failure}
use Rattle.pt_sector.specs.declared.reading.Failure.TheVariants as failure
use Rattle.pt_mbr.specs.declared.chain.ChainError.{ChainError}
use Rattle.pt_mbr.specs.declared.chain.ChainError.TheVariants as chain
use Rattle.pt_recover.specs.Denotes.{IsReason, TellsNothing, FailedInDisk, fault_in, Denotes, Reads}
use Rattle.pt_recover.specs.declared.error.NoTable.{NoTable}
use Rattle.pt_recover.specs.declared.error.NoTable.TheVariants as table
use Rattle.pt_members.specs.declared.layout.Layout.{Layout}
use Rattle.pt_layout.specs.Healthy.{IsFinding, VerdictReads}
use Rattle.pt_members.specs.Tables.{IsPlaceOf}
use Rattle.pt_layout.specs.declared.sound.finding.Finding.{Finding}
use Rattle.pt_layout.specs.declared.sound.finding.Finding.TheVariants as finding
use Rattle.pt_path.specs.declared.path.Path.{Path}
use Rattle.pt_check.specs.Answers.{CheckReads, FailedInCheck, fault_in as check_fault_in}
use Rattle.pt_check.specs.declared.error.CheckError.{CheckError}
use Rattle.pt_check.specs.declared.error.CheckError.TheVariants as check
use Rattle.pt_plan.specs.Batches.{Words, IsReady, IsRefusal, IsReadyToMend, IsMendRefusal, FailedInCommit, FailedInRepair, CommitReads}
use Rattle.pt_plan.specs.Batches.{RepairReads}
use Rattle.pt_plan.specs.Commits.{commit_fault_in}
use Rattle.pt_plan.specs.Repairs.{repair_fault_in}
use Rattle.pt_plan.specs.declared.error.CommitError.{CommitError}
use Rattle.pt_plan.specs.declared.error.CommitError.TheVariants as commit
use Rattle.pt_plan.specs.declared.repair_error.RepairError.{RepairError}
use Rattle.pt_plan.specs.declared.repair_error.RepairError.TheVariants as repair
use Rattle.pt_replay.specs.Claims.{NoLayout, Verified, Located, LocatedFor, NoPlan, Planned, PlannedFor, NoMending, Mended, MendedFor}
use Rattle.pt_replay.specs.Claims.{by_table, Checked, CheckedFor, IsNamed, path_in, Says}
use Rattle.pt_replay.specs.Given.{Buffers, AreTaken, AreEdits, AreDrawn, IsAskedFor}
use Rattle.pt_replay.specs.inner.Given.{Gives, batch_of}
use Rattle.pt_replay.specs.Replies.{status_code, the_size, nothing, failure_answer, finding_answer, table_answer, chain_answer}
use Rattle.pt_replay.specs.Replies.{commit_answer, repair_answer, bad_argument}
use Rattle.pt_replay.specs.Wanted.{OfView, OfSize, NoBuffers, IsView, disk_of, IsPartOf}
use Rattle.pt_replay.specs.inner.Wanted.{IsUnasked, NoWords, NoGroups, NoRows}
use Rattle.pt_replay.proofs.ViewLemmas.{IsAsked}
use Rattle.pt_replay.proofs.Parts.{part_is}
use Rattle.pt_replay.specs.inner.Replies.{check_answer}
use Rattle.pt_replay.specs.declared.answers.Status.{Status}
use Rattle.pt_replay.specs.declared.answers.Status.TheVariants as status
use Rattle.pt_replay.specs.declared.answers.Reply.{Reply}
use Rattle.pt_replay.specs.declared.answers.Answer.{Answer}
use Rattle.pt_replay.specs.declared.rows.WriteRow.{WriteRow}
use Rattle.pt_replay.specs.declared.view.View.{View}
use Rattle.pt_words.specs.declared.word.Edit.{Edit}
use Rattle.pt_guid.specs.declared.guid.Guid.{Guid}

-- the view is judged, and something follows of what stays and of the rest
pub viewed : {b : ℕ} {v : View} {rest later : Status → Reply → Type 0} (before stay : Type 0) → (before → stay)
    → ((s : Status) (r : Reply) → rest s r → later s r) → (s : Status) (r : Reply) → OfView b v before rest s r → OfView b v stay later s r
viewed before stay keep after s r (inl (none, is, (told, same))) = inl (none, is, (told, keep same))
viewed before stay keep after s r (inr (view, is)) = inr (view, after s r is)

module _ (b : ℕ) (v : View) (d : Sectors) where
  chain_says : (e : ChainError) → Denotes b d None → IsReason b d (table.Chain e)
      → NoLayout b v d (chain_answer e).status (chain_answer e).reply
  chain_says (chain.NoSignature at) none is = (table.Chain (chain.NoSignature at), none, is, refl)
  chain_says (chain.BadRecord at) none is = (table.Chain (chain.BadRecord at), none, is, refl)
  chain_says (chain.NotUpward at) none is = (table.Chain (chain.NotUpward at), none, is, refl)
  chain_says (chain.OutsideExtended at) none is = (table.Chain (chain.OutsideExtended at), none, is, refl)
  chain_says chain.TooLong none is = (table.Chain chain.TooLong, none, is, refl)
  chain_says (chain.Device at) none (m, r, mbr, lone, fault, disk) = absurd (disk tt)

  inside : (e : NoTable) → Denotes b d None → IsReason b d e → NoLayout b v d (table_answer e).status (table_answer e).reply
  inside (table.NoCopy e f) none is = (table.NoCopy e f, none, is, refl)
  inside (table.Chain e) none is = chain_says e none is
  inside table.TwoExtended none is = (table.TwoExtended, none, is, refl)
  inside table.TooSmall none is = (table.TooSmall, none, is, refl)
  inside (table.Device at) none is = absurd is
  inside table.Memory none is = absurd is

  -- an error of recovery
  pub says_nothing : (e : NoTable) → TellsNothing b d e → ((f : Fault) → fault_in e ≡ Some f → IsAsked b v f)
      → FailedInDisk (Reads b d) e → NoLayout b v d (table_answer e).status (table_answer e).reply
  says_nothing e (inr (none, is)) asked failed = inside e none is
  says_nothing table.Memory (inl outside) asked failed = refl
  says_nothing (table.NoCopy e f) (inl outside) asked failed = absurd outside
  says_nothing (table.Chain e) (inl outside) asked failed = absurd outside
  says_nothing table.TwoExtended (inl outside) asked failed = absurd outside
  says_nothing table.TooSmall (inl outside) asked failed = absurd outside
  says_nothing (table.Device at) (inl outside) asked failed = (asked (fault.Read at) refl, failed, refl)

  -- a finding is a no
  pub says_finding : (f : Finding) → IsFinding b d f → Verified b v d (finding_answer f).status (finding_answer f).reply
  says_finding (finding.NoTable e) is = (finding.NoTable e, is, refl)
  says_finding (finding.PrimaryCopy e) is = (finding.PrimaryCopy e, is, refl)
  says_finding (finding.BackupCopy e) is = (finding.BackupCopy e, is, refl)
  says_finding finding.CopiesDiffer is = (finding.CopiesDiffer, is, refl)
  says_finding (finding.Alternate side) is = (finding.Alternate side, is, refl)
  says_finding finding.Protective is = (finding.Protective, is, refl)
  says_finding (finding.OutsideUsable p) is = (finding.OutsideUsable p, is, refl)
  says_finding (finding.Overlap p q) is = (finding.Overlap p q, is, refl)
  says_finding (finding.OnTable p at) is = (finding.OnTable p at, is, refl)
  says_finding (finding.SameGuid i j) is = (finding.SameGuid i j, is, refl)
  says_finding (finding.ForeignLabel p) is = (finding.ForeignLabel p, is, refl)

  -- where there is no layout nothing is located
  none_at : (number letter k : ℕ) (s : Status) (r : Reply) → NoLayout b v d s r → Located b v d number letter k s r
  none_at number letter k status.Done r is = absurd is
  none_at number letter k status.No r is = absurd is
  none_at number letter k status.Usage r is = is
  none_at number letter k status.Refused r is = is
  none_at number letter k status.NoTable r is = is
  none_at number letter k status.Device r is = is
  none_at number letter k status.Memory r is = is
  none_at number letter k status.Want r is = is
  none_at number letter k status.Room r is = is
  none_at number letter k status.WantOther r is = is

  pub located_not : (number letter k : ℕ) (s : Status) (r : Reply) → IsNamed number letter → OfView b v NoBuffers (NoLayout b v d) s r
      → LocatedFor b v d number letter k s r
  located_not number letter k s r named is = inr (named, viewed NoBuffers NoBuffers (λ none. none) (none_at number letter k) s r is)

module _ (b : ℕ) (v : View) (d : Sectors) where
  -- words that want a table, of a disk that denotes nothing
  chain_refuses : (batch : Words) (e : ChainError) → IsRefusal (by_table v) b v.sectors batch d (commit.NoTable (table.Chain e))
      → NoPlan b v d batch (chain_answer e).status (chain_answer e).reply
  chain_refuses batch (chain.NoSignature at) is = (commit.NoTable (table.Chain (chain.NoSignature at)), is, refl)
  chain_refuses batch (chain.BadRecord at) is = (commit.NoTable (table.Chain (chain.BadRecord at)), is, refl)
  chain_refuses batch (chain.NotUpward at) is = (commit.NoTable (table.Chain (chain.NotUpward at)), is, refl)
  chain_refuses batch (chain.OutsideExtended at) is = (commit.NoTable (table.Chain (chain.OutsideExtended at)), is, refl)
  chain_refuses batch chain.TooLong is = (commit.NoTable (table.Chain chain.TooLong), is, refl)
  chain_refuses batch (chain.Device at) (none, is, may) = absurd (is.5 tt)

  table_refuses : (batch : Words) (e : NoTable) → IsRefusal (by_table v) b v.sectors batch d (commit.NoTable e)
      → NoPlan b v d batch (table_answer e).status (table_answer e).reply
  table_refuses batch (table.NoCopy e f) is = (commit.NoTable (table.NoCopy e f), is, refl)
  table_refuses batch (table.Chain e) is = chain_refuses batch e is
  table_refuses batch table.TwoExtended is = (commit.NoTable table.TwoExtended, is, refl)
  table_refuses batch table.TooSmall is = (commit.NoTable table.TooSmall, is, refl)
  table_refuses batch (table.Device at) (none, is, may) = absurd is
  table_refuses batch table.Memory (none, is, may) = absurd is

  asks_plan : (batch : Words) (f : Fault) → IsAsked b v f → FailedInCommit (CommitReads (by_table v) b v.sectors batch d) (commit.Device f)
      → NoPlan b v d batch (commit_answer (commit.Device f)).status (commit_answer (commit.Device f)).reply
  asks_plan batch (fault.Read at) is failed = (is, failed, refl)
  asks_plan batch (fault.Write at) is failed = absurd is
  asks_plan batch fault.Flush is failed = absurd is

  -- an error of the planner
  pub says_refused : (batch : Words) (e : CommitError) → IsRefusal (by_table v) b v.sectors batch d e
      → ((f : Fault) → commit_fault_in e ≡ Some f → IsAsked b v f) → FailedInCommit (CommitReads (by_table v) b v.sectors batch d) e
      → NoPlan b v d batch (commit_answer e).status (commit_answer e).reply
  says_refused batch (commit.NoTable e) is asked failed = table_refuses batch e is
  says_refused batch (commit.Edit r) is asked failed = (commit.Edit r, is, refl)
  says_refused batch (commit.Plan e) is asked failed = (commit.Plan e, is, refl)
  says_refused batch (commit.Check w) is asked failed = absurd is
  says_refused batch (commit.Device f) is asked failed = asks_plan batch f (asked f refl) failed
  says_refused batch commit.Memory is asked failed = refl

  -- a repair of a disk that denotes nothing
  chain_unmends : (e : ChainError) → IsMendRefusal b d (repair.NoTable (table.Chain e))
      → NoMending b v d (chain_answer e).status (chain_answer e).reply
  chain_unmends (chain.NoSignature at) is = (repair.NoTable (table.Chain (chain.NoSignature at)), is, refl)
  chain_unmends (chain.BadRecord at) is = (repair.NoTable (table.Chain (chain.BadRecord at)), is, refl)
  chain_unmends (chain.NotUpward at) is = (repair.NoTable (table.Chain (chain.NotUpward at)), is, refl)
  chain_unmends (chain.OutsideExtended at) is = (repair.NoTable (table.Chain (chain.OutsideExtended at)), is, refl)
  chain_unmends chain.TooLong is = (repair.NoTable (table.Chain chain.TooLong), is, refl)
  chain_unmends (chain.Device at) (none, is) = absurd (is.5 tt)

  table_unmends : (e : NoTable) → IsMendRefusal b d (repair.NoTable e) → NoMending b v d (table_answer e).status (table_answer e).reply
  table_unmends (table.NoCopy e f) is = (repair.NoTable (table.NoCopy e f), is, refl)
  table_unmends (table.Chain e) is = chain_unmends e is
  table_unmends table.TwoExtended is = (repair.NoTable table.TwoExtended, is, refl)
  table_unmends table.TooSmall is = (repair.NoTable table.TooSmall, is, refl)
  table_unmends (table.Device at) (none, is) = absurd is
  table_unmends table.Memory (none, is) = absurd is

  asks_mending : (f : Fault) → IsAsked b v f → FailedInRepair (RepairReads (by_table v) b v.sectors d) (repair.Device f)
      → NoMending b v d (repair_answer (repair.Device f)).status (repair_answer (repair.Device f)).reply
  asks_mending (fault.Read at) is failed = (is, failed, refl)
  asks_mending (fault.Write at) is failed = absurd is
  asks_mending fault.Flush is failed = absurd is

  -- an error of a repair
  pub says_unmended : (e : RepairError) → IsMendRefusal b d e → ((f : Fault) → repair_fault_in e ≡ Some f → IsAsked b v f)
      → FailedInRepair (RepairReads (by_table v) b v.sectors d) e
      → NoMending b v d (repair_answer e).status (repair_answer e).reply
  says_unmended (repair.NoTable e) is asked failed = table_unmends e is
  says_unmended (repair.Unsound f) is asked failed = (repair.Unsound f, is, refl)
  says_unmended (repair.Plan e) is asked failed = absurd is
  says_unmended (repair.Check w) is asked failed = absurd is
  says_unmended (repair.Device f) is asked failed = asks_mending f (asked f refl) failed
  says_unmended repair.Memory is asked failed = refl

  -- a plan that is given, or not
  pub gives_plan : (batch : Words) (phases : List Writes) (old new : Buffers) (s : Status) (r : Reply)
      → IsReady (by_table v) b v.sectors batch d phases → Gives phases old new s r → Planned b v d batch old new s r
  gives_plan batch phases old new status.Done r ready given = (phases, ready, given)
  gives_plan batch phases old new status.No r ready given = absurd given
  gives_plan batch phases old new status.Usage r ready given = absurd given
  gives_plan batch phases old new status.Refused r ready given = absurd given
  gives_plan batch phases old new status.NoTable r ready given = absurd given
  gives_plan batch phases old new status.Device r ready given = absurd given
  gives_plan batch phases old new status.Memory r ready given = given
  gives_plan batch phases old new status.Want r ready given = absurd given
  gives_plan batch phases old new status.Room r ready given = (phases, ready, given)
  gives_plan batch phases old new status.WantOther r ready given = absurd given

  not_given : (batch : Words) (old new : Buffers) → new ≡ old → (s : Status) (r : Reply) → NoPlan b v d batch s r
      → Planned b v d batch old new s r
  not_given batch old new same status.Done r is = absurd is
  not_given batch old new same status.No r is = is
  not_given batch old new same status.Usage r is = is
  not_given batch old new same status.Refused r is = (is, same)
  not_given batch old new same status.NoTable r is = (is, same)
  not_given batch old new same status.Device r is = is
  not_given batch old new same status.Memory r is = (is, same)
  not_given batch old new same status.Want r is = (is, same)
  not_given batch old new same status.Room r is = absurd is
  not_given batch old new same status.WantOther r is = is

  pub gives_not : (batch : Words) (old new : Buffers) (s : Status) (r : Reply) → new ≡ old
      → OfView b v NoBuffers (NoPlan b v d batch) s r → OfView b v (new ≡ old) (Planned b v d batch old new) s r
  gives_not batch old new s r same is = viewed NoBuffers (new ≡ old) (λ none. same) (not_given batch old new same) s r is

  gives_mended : (phases : List Writes) (old new : Buffers) (s : Status) (r : Reply) → IsReadyToMend (by_table v) b d phases
      → Gives phases old new s r → Mended b v d old new s r
  gives_mended phases old new status.Done r ready given = (phases, ready, given)
  gives_mended phases old new status.No r ready given = absurd given
  gives_mended phases old new status.Usage r ready given = absurd given
  gives_mended phases old new status.Refused r ready given = absurd given
  gives_mended phases old new status.NoTable r ready given = absurd given
  gives_mended phases old new status.Device r ready given = absurd given
  gives_mended phases old new status.Memory r ready given = given
  gives_mended phases old new status.Want r ready given = absurd given
  gives_mended phases old new status.Room r ready given = (phases, ready, given)
  gives_mended phases old new status.WantOther r ready given = absurd given

  pub gives_mending : (phases : List Writes) (old new : Buffers) (s : Status) (r : Reply) → IsView b v
      → IsReadyToMend (by_table v) b d phases
      → Gives phases old new s r → MendedFor b v d old new s r
  gives_mending phases old new s r view ready given = inr (view, gives_mended phases old new s r ready given)

  not_mended : (old new : Buffers) → new ≡ old → (s : Status) (r : Reply) → NoMending b v d s r → Mended b v d old new s r
  not_mended old new same status.Done r is = absurd is
  not_mended old new same status.No r is = is
  not_mended old new same status.Usage r is = is
  not_mended old new same status.Refused r is = (is, same)
  not_mended old new same status.NoTable r is = (is, same)
  not_mended old new same status.Device r is = is
  not_mended old new same status.Memory r is = (is, same)
  not_mended old new same status.Want r is = (is, same)
  not_mended old new same status.Room r is = absurd is
  not_mended old new same status.WantOther r is = is

  pub mends_not : (old new : Buffers) (s : Status) (r : Reply) → new ≡ old → OfView b v NoBuffers (NoMending b v d) s r
      → MendedFor b v d old new s r
  mends_not old new s r same is = viewed NoBuffers (new ≡ old) (λ none. same) (not_mended old new same) s r is

module _ (b : ℕ) (v : View) (d : Sectors) (words drawn : List ℕ) (old new : Buffers) where
  -- random bytes that are no groups
  pub no_guids : (s : Status) (r : Reply) → new ≡ old → IsUnasked (NoGroups drawn) s r → PlannedFor b v d words drawn old new s r
  no_guids status.Done r same is = absurd is
  no_guids status.No r same is = absurd is
  no_guids status.Usage r same is = inr (inl (is.0, refl, (is.1, same)))
  no_guids status.Refused r same is = absurd is
  no_guids status.NoTable r same is = absurd is
  no_guids status.Device r same is = absurd is
  no_guids status.Memory r same is = inl (refl, is, same)
  no_guids status.Want r same is = absurd is
  no_guids status.Room r same is = absurd is
  no_guids status.WantOther r same is = absurd is

  -- bytes that are no words
  pub no_edits : (guids : List Guid) (s : Status) (r : Reply) → AreDrawn drawn guids → new ≡ old → IsUnasked (NoWords words) s r
      → PlannedFor b v d words drawn old new s r
  no_edits guids status.Done r are same is = absurd is
  no_edits guids status.No r are same is = absurd is
  no_edits guids status.Usage r are same is = inr (inr ((guids, are), inl (is.0, refl, (is.1, same))))
  no_edits guids status.Refused r are same is = absurd is
  no_edits guids status.NoTable r are same is = absurd is
  no_edits guids status.Device r are same is = absurd is
  no_edits guids status.Memory r are same is = inl (refl, is, same)
  no_edits guids status.Want r are same is = absurd is
  no_edits guids status.Room r are same is = absurd is
  no_edits guids status.WantOther r are same is = absurd is

  -- both are a batch's
  pub asked_for : (edits : List Edit) (guids : List Guid) (s : Status) (r : Reply) → AreEdits words edits → AreDrawn drawn guids
      → OfView b v (new ≡ old) (Planned b v d (batch_of edits guids) old new) s r → PlannedFor b v d words drawn old new s r
  asked_for edits guids s r es gs is =
      inr (inr (
        (guids, gs),
        inr (
          (edits, es),
          viewed {later = λ t q. (batch : Words) × IsAskedFor words drawn batch × Planned b v d batch old new t q}
              (new ≡ old) (new ≡ old) (λ same. same)
              (λ t q planned. (batch_of edits guids, record { edits = es; guids = gs }, planned)) s r is,
        ),
      ))

module _ (b : ℕ) (v : View) (d : Sectors) (rows : List WriteRow) (bytes : List ℕ) where
  -- rows that are no plan
  pub no_rows : (s : Status) (r : Reply) → IsUnasked (NoRows b rows bytes) s r → CheckedFor b v d rows bytes s r
  no_rows status.Done r is = absurd is
  no_rows status.No r is = absurd is
  no_rows status.Usage r is = inr (inl (is.0, refl, is.1))
  no_rows status.Refused r is = absurd is
  no_rows status.NoTable r is = absurd is
  no_rows status.Device r is = absurd is
  no_rows status.Memory r is = inl (refl, is, tt)
  no_rows status.Want r is = absurd is
  no_rows status.Room r is = absurd is
  no_rows status.WantOther r is = absurd is

  pub taken_is : (plan : List Writes) (s : Status) (r : Reply) → AreTaken b plan rows bytes
      → OfView b v NoBuffers (Checked b v d plan) s r → CheckedFor b v d rows bytes s r
  taken_is plan s r taken is =
      inr (inr (
        (plan, taken),
        viewed {later = λ t q. (p : List Writes) × AreTaken b p rows bytes × Checked b v d p t q}
            NoBuffers NoBuffers (λ none. none)
            (λ t q checked. (plan, taken, checked)) s r is,
      ))

module _ (b : ℕ) (v : View) (d : Sectors) (phases : List Writes) where
  asks_check : (f : Fault) → IsAsked b v f → IsReadIn (CheckReads b d phases) f
      → Checked b v d phases (check_answer (check.Device f)).status (check_answer (check.Device f)).reply
  asks_check (fault.Read at) is failed = (is, failed, refl)
  asks_check (fault.Write at) is failed = absurd is
  asks_check fault.Flush is failed = absurd is

  -- a failure of the checker
  pub says_unchecked : (e : CheckError) → ((f : Fault) → check_fault_in e ≡ Some f → IsAsked b v f)
      → FailedInCheck (CheckReads b d phases) e → Checked b v d phases (check_answer e).status (check_answer e).reply
  says_unchecked (check.Device f) asked failed = asks_check f (asked f refl) failed
  says_unchecked check.Memory asked failed = refl

pub says_failure : (b : ℕ) (v : View) (d : Sectors) (f : Failure) → ((x : Fault) → fault_of f ≡ Some x → IsAsked b v x)
    → FailedIn (VerdictReads b d) f → Verified b v d (failure_answer f).status (failure_answer f).reply
says_failure b v d (failure.Device at) asked failed = (asked (fault.Read at) refl, failed, refl)
says_failure b v d failure.Memory asked failed = refl

pub none_located : (b : ℕ) (v : View) (d : Sectors) (number letter : ℕ) (q : Path) (k : ℕ) (o : Layout) (a : Answer)
    → a ≡ record { status = status.No; reply = nothing } → q ≡ path_in number letter → IsNamed number letter → IsView b v
    → Denotes b d (Some o) → ((s : ℕ) → ¬ IsPlaceOf b o q k s) → LocatedFor b v d number letter k a.status a.reply
none_located b v d number letter q k o a is same named view from none =
    subst (λ (x : Answer). LocatedFor b v d number letter k x.status x.reply) (sym is)
    (inr (named, inr (view, (o, from, subst (λ (x : Path). (s : ℕ) → ¬ IsPlaceOf b o x k s) same none, refl))))

-- why nothing was asked, for another reason that follows
pub unasked_on : {P Q : Reply → Type 0} → ((r : Reply) → P r → Q r) → (s : Status) (r : Reply) → IsUnasked P s r → IsUnasked Q s r
unasked_on on status.Done r is = is
unasked_on on status.No r is = is
unasked_on on status.Usage r is = on r is
unasked_on on status.Refused r is = is
unasked_on on status.NoTable r is = is
unasked_on on status.Device r is = is
unasked_on on status.Memory r is = is
unasked_on on status.Want r is = is
unasked_on on status.Room r is = is
unasked_on on status.WantOther r is = is

pub code_round : (s : Status) → to_z w32 (of_z w32 (status_code s)) ≡ status_code s
code_round status.Done = refl
code_round status.No = refl
code_round status.Usage = refl
code_round status.Refused = refl
code_round status.NoTable = refl
code_round status.Device = refl
code_round status.Memory = refl
code_round status.Want = refl
code_round status.Room = refl
code_round status.WantOther = refl

-- what C gets says what the answer says, of each disk of which the view is a part
pub says_it : (claim : ℕ → Sectors → Status → Reply → Type 0) (stay : Type 0) (v : View) (d : Sectors) (b : ℕ) (elsewhere : Sectors)
    (code : ℤ) (s : Status) (r given : Reply)
    → v.sector_size ≡ b → IsSectorSize b → elsewhere ≡ d → code ≡ status_code s → given ≡ r → claim b (disk_of b v elsewhere) s r
    → IsPartOf v d → Says (OfSize v stay (claim v.sector_size d)) (to_z w32 (of_z w32 code)) given
says_it claim stay v d b elsewhere code s r given same size there is replied holds part =
    let of_size : claim v.sector_size (disk_of v.sector_size v elsewhere) s r =
    subst (λ (x : ℕ). claim x (disk_of x v elsewhere) s r) (sym same) holds in
    let of_disk : claim v.sector_size d s r =
    subst (λ (x : Sectors). claim v.sector_size x s r) (ap (disk_of v.sector_size v) there ∙ part_is v d part) of_size in (
      s,
      ap (λ (x : ℤ). to_z w32 (of_z w32 x)) is ∙ code_round s,
      inr (subst IsSectorSize (sym same) size, subst (λ (x : Reply). claim v.sector_size d s x) (sym replied) of_disk),
    )

-- sectors of another size
pub says_no_size : (claim : Status → Reply → Type 0) (stay : Type 0) (v : View) (code : ℤ) (a : Answer) (given : Reply)
    → ¬ IsSectorSize v.sector_size → a ≡ record { status = status.Usage; reply = bad_argument the_size } → stay
    → code ≡ status_code a.status → given ≡ a.reply → Says (OfSize v stay claim) (to_z w32 (of_z w32 code)) given
says_no_size claim stay v code a given not is same code_is replied = (
  status.Usage,
  ap (λ (x : ℤ). to_z w32 (of_z w32 x)) (code_is ∙ ap (λ (x : Answer). status_code x.status) is) ∙ code_round status.Usage,
  inl (not, refl, (replied ∙ ap (λ (x : Answer). x.reply) is, same)),
)
