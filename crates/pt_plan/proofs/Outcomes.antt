-- What a commit and a repair did, by how their flush, plan and writes went.
use Rattle.std.proofs.Common.{◌≡◌, ◌∙◌, ℕ, List, [], length, Option, Some, refl, sym, ap, subst, Result, Ok, Err}
use Rattle.pt_sector.specs.Sectors.{Sectors, Writes, after}
use Rattle.pt_sector.specs.Device.{Told, MayLeave, Flushed, FailedFlush, LeavesOnly}
use Rattle.pt_sector.specs.declared.disk.Fault.{Fault}
use Rattle.pt_sector.specs.declared.disk.Fault.TheVariants.{Flush}
use Rattle.pt_apply.specs.Plans.{Settled, StoppedSomewhere, Reached, CallFailed}
use Rattle.pt_recover.specs.declared.error.NoTable.{NoTable as NoTableValue}
use Rattle.pt_members.specs.declared.layout.Layout.{Layout}
use Rattle.pt_layout.specs.declared.sound.finding.Finding.{Finding}
use Rattle.pt_words.specs.declared.error.Refusal.{Refusal}
use Rattle.pt_cases.specs.declared.targets.error.PlanError.{PlanError}
use Rattle.pt_plan.specs.Commits.{Committed, Ready, Refuses, commit_fault_in}
use Rattle.pt_plan.specs.Repairs.{Repaired, ReadyToMend, RefusesToMend}
use Rattle.pt_plan.specs.Repairs.{repair_told}
use Rattle.pt_plan.specs.Wanted.{as_repair}
use Rattle.pt_plan.specs.inner.Commits.{MetRead, Begun, Written, unflushed, unplanned, unapplied, applied}
use Rattle.pt_plan.specs.declared.error.CommitError.{CommitError}
use Rattle.pt_plan.specs.declared.error.CommitError.TheVariants.{Device}
use Rattle.pt_plan.specs.declared.repair_error.RepairError.{RepairError}
use Rattle.pt_plan.proofs.Exits as exits
use Rattle.pt_plan.proofs.Mended as mended
use Rattle.pt_plan.proofs.Telling.{told_read}

-- the ends of a flush, a plan and its writes, where calls that only read lie between
module _ (is_ready : Sectors → List Writes → Type 0) (is_refusal : Sectors → CommitError → Type 0) where
  pub came_unflushed : (fault : Fault) (old new : Told) → fault ≡ Flush → FailedFlush old new
      → Written is_ready is_refusal (Err (Device fault)) old new
  came_unflushed fault old new is failed = unflushed (ap (λ (f : Fault). Err (Device f)) is) failed

  module _ (old mid now : Told) (flush : Flushed old mid) (same : now ≡ mid) where
    still_flushed : Flushed old now
    still_flushed = subst (λ (x : Told). Flushed old x) (sym same) flush

    pub came_unplanned : (e : CommitError) → MetRead (commit_fault_in e) → is_refusal mid.seen e → Written is_ready is_refusal
        (Err e) old now
    came_unplanned e read why = unplanned e refl read still_flushed (subst (λ (x : Told). is_refusal x.seen e) (sym same) why)

    module _ (new : Told) (phases : List Writes) (is : is_ready mid.seen phases) (run : LeavesOnly now new (StoppedSomewhere phases
        now.seen))
      where
        abbrev begun : Begun is_ready is_refusal old new
        begun = record {
          mid = now;
          flushed = still_flushed;
          phases = phases;
          ready = subst (λ (x : Told). is_ready x.seen phases) (sym same) is;
          any_moment = run;
        }

        pub came_unapplied : (fault : Fault) → CallFailed phases now.seen now new fault → Written is_ready is_refusal
            (Err (Device fault)) old new
        came_unapplied fault failed = unapplied fault refl begun failed

        pub came_applied : Settled new (after phases now.seen) → Reached phases now.seen (length phases) 0 now new
            → Written is_ready is_refusal (Ok tt) old new
        came_applied settled reached = applied refl begun settled reached

-- a commit of words whose plans these are
module _ {W : Type 0} (denotes : Sectors → Option Layout → Type 0) (reason : Sectors → NoTableValue → Type 0) (makes : W → Type 0)
    (edited : Option Layout → W → Result Layout Refusal → Type 0) (plans : Sectors → Layout → List Writes → Type 0)
    (no_plan : Sectors → Layout → PlanError → Type 0) (healthy : Sectors → Type 0) (table owned : Option Layout → ℕ → Type 0)
    (words : W) (one : (d : Sectors) (o p : Option Layout) → denotes d o → denotes d p → o ≡ p) (old new : Told)
    (seen : MayLeave old old.seen) where
  abbrev Is : Result Unit CommitError → Type 0
  Is result = Committed denotes reason makes edited plans no_plan healthy table owned words result old new

  pub committed : (result : Result Unit CommitError)
      → Written (Ready denotes reason makes edited plans no_plan healthy table owned words)
      (Refuses denotes reason makes edited plans no_plan healthy table owned words) result old new
      → Committed denotes reason makes edited plans no_plan healthy table owned words result old new
  committed result (unflushed is failed) = subst Is (sym is) (exits.at_failed_flush _ _ _ _ _ _ _ _ _ _ Flush old new refl failed)
  committed result (unplanned e is read flushed why) =
      subst Is (sym is) (exits.at_refused _ _ _ _ _ _ _ _ _ _ old new new seen flushed refl e read why)
  committed result (unapplied fault is run failed) =
      subst Is (sym is) (exits.at_failed _ _ _ _ _ _ _ _ _ _ old run.mid run.mid seen run.flushed refl one run.phases run.ready new
      run.any_moment fault failed)
  committed result (applied is run settled reached) =
      subst Is (sym is) (exits.at_done _ _ _ _ _ _ _ _ _ _ old run.mid run.mid seen run.flushed refl one run.phases run.ready new
      run.any_moment settled)

-- a repair whose plans these are
module _ {W : Type 0} (denotes : Sectors → Option Layout → Type 0) (reason : Sectors → NoTableValue → Type 0)
    (edited : Option Layout → W → Result Layout Refusal → Type 0) (plans : Sectors → Layout → List Writes → Type 0)
    (unmendable : Sectors → Layout → Finding → Type 0) (healthy : Sectors → Type 0) (table owned : Option Layout → ℕ → Type 0)
    (one : (d : Sectors) (o p : Option Layout) → denotes d o → denotes d p → o ≡ p)
    (none : (d : Sectors) (l : Layout) (phases : List Writes) → denotes d (Some l) → plans d l phases → healthy d → phases ≡ [])
    (old new : Told) (seen : MayLeave old old.seen) where
  abbrev IsRepaired : Result Unit RepairError → Type 0
  IsRepaired result = Repaired denotes reason edited plans unmendable healthy table owned result old new

  pub repaired : (result : Result Unit CommitError)
      → Written (ReadyToMend denotes plans unmendable healthy table owned)
      (λ d e. RefusesToMend denotes reason unmendable d (repair_told e)) result old new
      → (answer : Result Unit RepairError) → answer ≡ as_repair result
      → Repaired denotes reason edited plans unmendable healthy table owned answer old new
  repaired result (unflushed is failed) answer told =
      subst IsRepaired (sym (told ∙ ap as_repair is)) (mended.at_failed_flush _ _ _ _ _ _ _ _ Flush old new refl failed)
  repaired result (unplanned e is read flushed why) answer told =
      subst IsRepaired (sym (told ∙ ap as_repair is))
      (mended.at_refused _ _ _ _ _ _ _ _ old new new seen flushed refl (repair_told e) (told_read e read) why)
  repaired result (unapplied fault is run failed) answer told =
      subst IsRepaired (sym (told ∙ ap as_repair is)) (mended.at_failed _ _ _ _ _ _ _ _ old run.mid run.mid seen run.flushed refl one none
      run.phases run.ready new run.any_moment fault failed)
  repaired result (applied is run settled reached) answer told =
      subst IsRepaired (sym (told ∙ ap as_repair is)) (mended.at_done _ _ _ _ _ _ _ _ old run.mid run.mid seen run.flushed refl one none
      run.phases run.ready new run.any_moment settled reached)
