-- A plan that was checked, and not applied to its end: how it failed.
use Rattle.std.proofs.Common.{◌≡◌, inr, ℕ, List, [], sym, subst, Some, slice_index_or}
use Rattle.pt_sector.specs.Sectors.{Sectors, Writes}
use Rattle.pt_sector.specs.Device.{Told, Flushed, IsReadIn, ReadFaults, with_fault}
use Rattle.pt_sector.specs.declared.disk.Fault.{Fault}
use Rattle.pt_sector.specs.declared.disk.Fault.TheVariants.{Read, Write, Flush}
use Rattle.pt_apply.specs.Plans.{CallFailed}
use Rattle.pt_check.specs.Answers.{Answers, Promises, fault_in}
use Rattle.pt_check.specs.declared.answer.Answer.{Answer}
use Rattle.pt_check.specs.declared.answer.Answer.TheVariants.{Yes}
use Rattle.pt_check.specs.declared.error.CheckError.{CheckError}
use Rattle.pt_check.specs.declared.error.CheckError.TheVariants.{Device, Memory}
use Rattle.pt_plan.specs.Commits.{commit_unchecked, FailedApplying, FailsBy, ApplyFailed}
use Rattle.pt_plan.proofs.Exits.{met_read, reads_nothing}

module _ (b : ℕ) (phases : List Writes) (old : Told) where
  by_read : (fault : Fault) (new : Told) → IsReadIn (λ s. Unit {0}) fault → Flushed old new → FailsBy b phases fault old new
  by_read (Read at) new read flushed = flushed
  by_read (Write at) new read flushed = absurd read
  by_read Flush new read flushed = absurd read

  by_call : (fault : Fault) (new : Told) → FailedApplying b phases old new fault → FailsBy b phases fault old new
  by_call (Read at) new applying =
      absurd (reads_nothing (slice_index_or phases applying.failed.phase []) applying.failed.call at applying.failed.is)
  by_call (Write at) new applying = applying
  by_call Flush new applying = inr applying

  module _ (mid now : Told) (flush : Flushed old mid) (same : now ≡ mid) where
    -- the checker failed, by reads alone
    pub unchecked : (e : CheckError) (before after : List Fault) → after ≡ with_fault before (fault_in e) → ReadFaults before after
        → ApplyFailed b phases old now (commit_unchecked e)
    unchecked (Device fault) before after blames came =
        by_read fault now (met_read (Some fault) before after blames came) (subst (λ (x : Told). Flushed old x) (sym same) flush)
    unchecked Memory before after blames came = subst (λ (x : Told). Flushed old x) (sym same) flush

    pub unapplied : (switch : ℕ) (answer : Answer) → answer ≡ Yes switch → Answers b mid.seen phases answer
        → Promises b mid.seen phases answer
        → (new : Told) (fault : Fault) → CallFailed phases now.seen now new fault → FailsBy b phases fault old new
    unapplied switch answer is right safe new fault failed = by_call fault new (record {
      mid = mid;
      flushed = flush;
      switch = switch;
      answers = subst (λ (d : Sectors). Answers b d phases (Yes switch)) flush.seen
          (subst (λ (a : Answer). Answers b mid.seen phases a) is right);
      safe = subst (λ (d : Sectors). Promises b d phases (Yes switch)) flush.seen
          (subst (λ (a : Answer). Promises b mid.seen phases a) is safe);
      failed = subst (λ (x : Told). CallFailed phases x.seen x new fault) same failed;
    })
