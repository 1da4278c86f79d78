-- What answers say of plans by which a disk becomes like another one.
use Rattle.std.proofs.Common.{◌≡◌, ◌≢◌, inl, inr, sym, subst, ap, ◌∙◌, List, to_z, of_z, w32, ℤ, ℕ, Some, refl, arith}
use Rattle.pt_sector.specs.Sectors.{Sectors, IsSectorSize, Writes}
use Rattle.pt_sector.specs.declared.disk.Fault.{Fault}
use Rattle.pt_sector.specs.declared.disk.Fault.TheVariants as fault
use Rattle.pt_mbr.specs.declared.chain.ChainError.{ChainError}
use Rattle.pt_mbr.specs.declared.chain.ChainError.TheVariants as chain
use Rattle.pt_recover.specs.Denotes.{TellsNothing, FailedInDisk, fault_in, Reads}
use Rattle.pt_recover.specs.declared.error.NoTable.{NoTable}
use Rattle.pt_recover.specs.declared.error.NoTable.TheVariants as table
use Rattle.pt_plan.specs.Commits.{commit_fault_in}
use Rattle.pt_plan.specs.Layouts.{fault_in_disk, fault_in_other, FailedInLike, FailedInOther, LikeReads, IsReadyLike, NotLike}
use Rattle.pt_plan.specs.Batches.{FailedInCommit}
use Rattle.pt_plan.specs.declared.error.CommitError.{CommitError}
use Rattle.pt_plan.specs.declared.error.CommitError.TheVariants as commit
use Rattle.pt_plan.specs.declared.like_error.LikeError.{LikeError}
use Rattle.pt_plan.specs.declared.like_error.LikeError.TheVariants as like
use Rattle.pt_replay.specs.Claims.{kept, NoAdopting, Adopted, AdoptedFor, OfOther, OfOtherSize, OfOtherCount, Says}
use Rattle.pt_replay.specs.Replies.{status_code, like_answer}
use Rattle.pt_replay.specs.Given.{Buffers}
use Rattle.pt_replay.specs.inner.Given.{Gives}
use Rattle.pt_replay.specs.Wanted.{OfView, OfSize, NoBuffers, IsView, IsPartOf, disk_of}
use Rattle.pt_replay.proofs.ViewLemmas.{IsAsked}
use Rattle.pt_replay.proofs.Parts.{part_is}
use Rattle.pt_replay.proofs.Saying.{viewed, code_round}
use Rattle.pt_replay.specs.declared.answers.Status.{Status}
use Rattle.pt_replay.specs.declared.answers.Status.TheVariants as status
use Rattle.pt_replay.specs.declared.answers.Reply.{Reply}
use Rattle.pt_replay.specs.declared.view.View.{View}

-- numbers that aren't unequal
pub equal : (m n : ℕ) → (m ≢ n → ⊥) → m ≡ n
equal m n not = grind (arith, not)

module _ (b : ℕ) (v o : View) (d e : Sectors) where
  abbrev SaysOf : LikeError → Type 0
  SaysOf x = NoAdopting b v o d e (like_answer x).status (like_answer x).reply

  -- where the other disk denotes nothing
  chain_unlike : (x : ChainError) → NotLike (kept v) b e d (like.Other (table.Chain x)) → SaysOf (like.Other (table.Chain x))
  chain_unlike (chain.NoSignature at) is = (like.Other (table.Chain (chain.NoSignature at)), is, refl)
  chain_unlike (chain.BadRecord at) is = (like.Other (table.Chain (chain.BadRecord at)), is, refl)
  chain_unlike (chain.NotUpward at) is = (like.Other (table.Chain (chain.NotUpward at)), is, refl)
  chain_unlike (chain.OutsideExtended at) is = (like.Other (table.Chain (chain.OutsideExtended at)), is, refl)
  chain_unlike chain.TooLong is = (like.Other (table.Chain chain.TooLong), is, refl)
  chain_unlike (chain.Device at) (inl outside) = absurd outside
  chain_unlike (chain.Device at) (inr (none, is)) = absurd (is.5 tt)

  other_unlike : (x : NoTable) → TellsNothing b e x → ((f : Fault) → fault_in x ≡ Some f → IsAsked b o f) → FailedInDisk (Reads b e) x
      → SaysOf (like.Other x)
  other_unlike (table.NoCopy f g) is asked failed = (like.Other (table.NoCopy f g), is, refl)
  other_unlike (table.Chain x) is asked failed = chain_unlike x is
  other_unlike table.TwoExtended is asked failed = (like.Other table.TwoExtended, is, refl)
  other_unlike table.TooSmall is asked failed = (like.Other table.TooSmall, is, refl)
  other_unlike (table.Device at) is asked failed = (asked (fault.Read at) refl, failed, refl)
  other_unlike table.Memory is asked failed = refl

  asks_adopting : (f : Fault) → IsAsked b v f → FailedInCommit (LikeReads (kept v) b e d) (commit.Device f)
      → SaysOf (like.Disk (commit.Device f))
  asks_adopting (fault.Read at) is failed = (is, failed, refl)
  asks_adopting (fault.Write at) is failed = absurd is
  asks_adopting fault.Flush is failed = absurd is

  disk_unlike : (x : CommitError) → NotLike (kept v) b e d (like.Disk x) → ((f : Fault) → commit_fault_in x ≡ Some f → IsAsked b v f)
      → FailedInCommit (LikeReads (kept v) b e d) x → SaysOf (like.Disk x)
  disk_unlike (commit.NoTable x) is asked failed = absurd (is.2.2 tt)
  disk_unlike (commit.Edit r) is asked failed = (like.Disk (commit.Edit r), is, refl)
  disk_unlike (commit.Plan x) is asked failed = (like.Disk (commit.Plan x), is, refl)
  disk_unlike (commit.Check w) is asked failed = absurd is.2
  disk_unlike (commit.Device f) is asked failed = asks_adopting f (asked f refl) failed
  disk_unlike commit.Memory is asked failed = refl

  -- an error of the planner
  pub says_unlike : (x : LikeError) → NotLike (kept v) b e d x → (x ≡ like.OtherSize → o.sectors ≢ v.sectors)
      → (o.sectors ≢ v.sectors → x ≡ like.OtherSize) → ((f : Fault) → fault_in_disk x ≡ Some f → IsAsked b v f)
      → ((f : Fault) → fault_in_other x ≡ Some f → IsAsked b o f) → FailedInLike (LikeReads (kept v) b e d) x → FailedInOther (Reads b e) x
      → OfOtherCount v o NoBuffers (NoAdopting b v o d e) (like_answer x).status (like_answer x).reply
  says_unlike like.OtherSize is differ same asked asked_other failed failed_other = inl (differ refl, refl, refl, tt)
  says_unlike (like.Other x) is differ same asked asked_other failed failed_other =
      inr (equal o.sectors v.sectors (λ not. let no = same not in cc), other_unlike x is asked_other failed_other)
  says_unlike (like.Disk x) is differ same asked asked_other failed failed_other =
      inr (equal o.sectors v.sectors (λ not. let no = same not in cc), disk_unlike x is asked failed)

  -- a plan that is given, or not
  gives_adopted : (phases : List Writes) (old new : Buffers) (s : Status) (r : Reply) → IsReadyLike (kept v) b e d phases
      → Gives phases old new s r → Adopted b v o d e old new s r
  gives_adopted phases old new status.Done r ready given = (phases, ready, given)
  gives_adopted phases old new status.No r ready given = absurd given
  gives_adopted phases old new status.Usage r ready given = absurd given
  gives_adopted phases old new status.Refused r ready given = absurd given
  gives_adopted phases old new status.NoTable r ready given = absurd given
  gives_adopted phases old new status.Device r ready given = absurd given
  gives_adopted phases old new status.Memory r ready given = given
  gives_adopted phases old new status.Want r ready given = absurd given
  gives_adopted phases old new status.Room r ready given = (phases, ready, given)
  gives_adopted phases old new status.WantOther r ready given = absurd given

  not_adopted : (old new : Buffers) → new ≡ old → (s : Status) (r : Reply) → NoAdopting b v o d e s r → Adopted b v o d e old new s r
  not_adopted old new same status.Done r is = absurd is
  not_adopted old new same status.No r is = is
  not_adopted old new same status.Usage r is = is
  not_adopted old new same status.Refused r is = (is, same)
  not_adopted old new same status.NoTable r is = (is, same)
  not_adopted old new same status.Device r is = is
  not_adopted old new same status.Memory r is = (is, same)
  not_adopted old new same status.Want r is = (is, same)
  not_adopted old new same status.Room r is = absurd is
  not_adopted old new same status.WantOther r is = (is, same)

  pub gives_adopting : (phases : List Writes) (old new : Buffers) (s : Status) (r : Reply) → o.sector_size ≡ b → IsView b v → IsView b o
      → o.sectors ≡ v.sectors → IsReadyLike (kept v) b e d phases → Gives phases old new s r → AdoptedFor b v o d e old new s r
  gives_adopting phases old new s r size view other count ready given =
      inr (size, inr (view, inr (other, inr (count, gives_adopted phases old new s r ready given))))

  -- the other view and the numbers of sectors are judged, and something follows of what stays and of the rest
  counted : (old new : Buffers) → new ≡ old → (s : Status) (r : Reply) → OfOtherCount v o NoBuffers (NoAdopting b v o d e) s r
      → OfOtherCount v o (new ≡ old) (Adopted b v o d e old new) s r
  counted old new same s r (inl (differ, is, told, stay)) = inl (differ, is, told, same)
  counted old new same s r (inr (count, is)) = inr (count, not_adopted old new same s r is)

  other_viewed : (old new : Buffers) → new ≡ old → (s : Status) (r : Reply)
      → OfOther b o NoBuffers (OfOtherCount v o NoBuffers (NoAdopting b v o d e)) s r
      → OfOther b o (new ≡ old) (OfOtherCount v o (new ≡ old) (Adopted b v o d e old new)) s r
  other_viewed old new same s r (inl (none, is, (told, stay))) = inl (none, is, (told, same))
  other_viewed old new same s r (inr (other, is)) = inr (other, counted old new same s r is)

  pub adopts_not : (old new : Buffers) (s : Status) (r : Reply) → new ≡ old → o.sector_size ≡ b
      → OfView b v NoBuffers (OfOther b o NoBuffers (OfOtherCount v o NoBuffers (NoAdopting b v o d e))) s r
      → AdoptedFor b v o d e old new s r
  adopts_not old new s r same size is =
      inr (size, viewed NoBuffers (new ≡ old) (λ none. same) (other_viewed old new same) s r is)

-- what C gets says what the answer says, of each two disks of which the views are parts
module _ (claim : ℕ → Sectors → Sectors → Status → Reply → Type 0) (stay : Type 0) (v o : View) (d e : Sectors) where
  -- the disks are those of the views
  of_disks : (b : ℕ) (elsewhere beyond : Sectors) (s : Status) (r : Reply) → v.sector_size ≡ b → elsewhere ≡ d → beyond ≡ e
      → IsPartOf v d → IsPartOf o e → OfOtherSize b o stay (claim b (disk_of b v elsewhere) (disk_of b o beyond)) s r
      → OfOtherSize b o stay (claim b d e) s r
  of_disks b elsewhere beyond s r same there behind part other_part (inl not) = inl not
  of_disks b elsewhere beyond s r same there behind part other_part (inr (size, holds)) =
      let disk : disk_of b v elsewhere ≡ d =
      subst (λ (n : ℕ). disk_of n v elsewhere ≡ d) same (ap (disk_of v.sector_size v) there ∙ part_is v d part) in
      let other : disk_of b o beyond ≡ e =
      subst (λ (n : ℕ). disk_of n o beyond ≡ e) size (ap (disk_of o.sector_size o) behind ∙ part_is o e other_part) in
      inr (
        size,
        subst (λ (x : Sectors). claim b d x s r) other (subst (λ (x : Sectors). claim b x (disk_of b o beyond) s r) disk holds),
      )

  pub says_of_both : (b : ℕ) (elsewhere beyond : Sectors) (code : ℤ) (s : Status) (r given : Reply) → v.sector_size ≡ b
      → IsSectorSize b → elsewhere ≡ d → beyond ≡ e → code ≡ status_code s → given ≡ r
      → OfOtherSize b o stay (claim b (disk_of b v elsewhere) (disk_of b o beyond)) s r → IsPartOf v d → IsPartOf o e
      → Says (OfSize v stay (OfOtherSize v.sector_size o stay (claim v.sector_size d e))) (to_z w32 (of_z w32 code)) given
  says_of_both b elsewhere beyond code s r given same size there behind is replied holds part other_part = (
    s,
    ap (λ (x : ℤ). to_z w32 (of_z w32 x)) is ∙ code_round s,
    inr (
      subst IsSectorSize (sym same) size,
      subst (λ (n : ℕ). OfOtherSize n o stay (claim n d e) s given) (sym same)
          (subst (λ (x : Reply). OfOtherSize b o stay (claim b d e) s x) (sym replied)
          (of_disks b elsewhere beyond s r same there behind part other_part holds)),
    ),
  )
