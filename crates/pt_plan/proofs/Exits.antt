-- The exits of a commit.
use Rattle.std.proofs.Common.{◌≡◌, ◌∙◌, ◌⊎◌, inl, inr, ⊎_elim, ℕ, zero, suc, List, [], ◌∷◌, ◌++◌, refl, sym, ap, subst, Option, Some}
use Rattle.std.proofs.Common.{None, Result, Ok, Err, slice_get, slice_index_or}
use Rattle.std.proofs.lemmas.List.{append_cancel_left}
use Rattle.pt_sector.specs.Sectors.{Sectors, Writes, after}
use Rattle.pt_sector.specs.Device.{Told, MayLeave, Flushed, FailedFlush, IsReadIn, AreReads, ReadFaults, with_fault, LeavesOnly}
use Rattle.pt_sector.specs.declared.address.Lba.{Lba}
use Rattle.pt_sector.specs.declared.disk.Fault.{Fault}
use Rattle.pt_sector.specs.declared.disk.Fault.TheVariants.{Read, Write, Flush}
use Rattle.pt_sector.proofs.Since.{leaves_once, leaves_through, leaves_weaker}
use Rattle.pt_apply.specs.Plans.{faults_of, Settled, StoppedSomewhere, CallFailed, Keeps}
use Rattle.pt_recover.specs.declared.error.NoTable.{NoTable as NoTableValue}
use Rattle.pt_members.specs.declared.layout.Layout.{Layout}
use Rattle.pt_words.specs.declared.error.Refusal.{Refusal}
use Rattle.pt_cases.specs.declared.targets.error.PlanError.{PlanError}
use Rattle.pt_plan.specs.declared.error.CommitError.{CommitError}
use Rattle.pt_plan.specs.declared.error.CommitError.TheVariants.{NoTable, Edit, Plan, Check, Device, Memory}
use Rattle.pt_plan.proofs.EveryPlan.{settled_leaves}
use Rattle.pt_plan.specs.Commits.{commit_fault_in, Past, Either, Has, Leads, Refuses, Bounded, Ready, FailedWriting, EndsBy, Ends}
use Rattle.pt_plan.specs.Commits.{refused, Committed}
use Rattle.pt_plan.specs.inner.Commits.{MetRead}
use Rattle.pt_plan.proofs.Histories.{has_either, has_unchanged, has_done, has_new, has_old, failed_flush_leaves, still, so_far}
use Rattle.pt_plan.proofs.Histories.{stopped_means, stopped_keeps}

-- no call of a phase reads
pub reads_nothing : (ws : Writes) (call : ℕ) (at : Lba) → slice_get (faults_of ws) call ≡ Some (Read at) → ⊥
reads_nothing [] zero at is = absurd cc
reads_nothing [] (suc call) at is = absurd cc
reads_nothing (w ∷ ws) zero at is = absurd cc
reads_nothing (w ∷ ws) (suc call) at is = reads_nothing ws call at is

came_one : (old new : List Fault) (f : Fault) → new ≡ old ++ f ∷ [] → ReadFaults old new → IsReadIn (λ s. Unit {0}) f
unfolding ReadFaults
came_one old new f one (more, come, reads) = (subst AreReads (append_cancel_left old more (f ∷ []) (sym come ∙ one)) reads).0

-- where only reads failed, it is so
pub met_read : (fault : Option Fault) (old new : List Fault) → new ≡ with_fault old fault → ReadFaults old new → MetRead fault
met_read (Some fault) old new one came = came_one old new fault one came
met_read None old new one came = tt

module _ {W : Type 0} (denotes : Sectors → Option Layout → Type 0) (reason : Sectors → NoTableValue → Type 0) (makes : W → Type 0)
    (edited : Option Layout → W → Result Layout Refusal → Type 0) (plans : Sectors → Layout → List Writes → Type 0)
    (unplanned : Sectors → Layout → PlanError → Type 0) (healthy : Sectors → Type 0) (table owned : Option Layout → ℕ → Type 0)
    (words : W) where
  Says : Result Unit (CommitError) → Told → Told → Type 0
  Says result old new = Committed denotes reason makes edited plans unplanned healthy table owned words result old new

  pub at_failed_flush : (fault : Fault) (old new : Told) → fault ≡ Flush → FailedFlush old new
      → Committed denotes reason makes edited plans unplanned healthy table owned words (Err (Device fault)) old new
  at_failed_flush fault old new is failed = record {
    history = record {
      any_moment = λ o calls start. leaves_once old new _ failed.time (λ c may. inl (failed_flush_leaves old new failed c may));
      at_return = λ o calls start c may. has_either denotes edited words calls o c (start c (failed_flush_leaves old new failed c may));
    };
    ends = subst (λ (f : Fault). EndsBy denotes reason makes edited plans unplanned healthy table owned words f old new) (sym is)
        (inl failed);
    bounds = leaves_once old new _ failed.time (λ c may. inl (failed_flush_leaves old new failed c may));
  }

  has_refused : (e : CommitError) (calls : List (Past W)) (o : Option Layout) (c : Sectors) → Has denotes edited o calls c
      → Has denotes edited o (calls ++ refused words e ∷ []) c
  has_refused (NoTable e) calls o c has = has_unchanged denotes edited calls o c has
  has_refused (Edit r) calls o c has = has_unchanged denotes edited calls o c has
  has_refused (Plan e) calls o c has = has_unchanged denotes edited calls o c has
  has_refused (Check why) calls o c has = has_unchanged denotes edited calls o c has
  has_refused (Device fault) calls o c has = has_either denotes edited words calls o c has
  has_refused Memory calls o c has = has_unchanged denotes edited calls o c has

  ends_met : (fault : Fault) (old new : Told) → IsReadIn (λ s. Unit {0}) fault → Flushed old new
      → EndsBy denotes reason makes edited plans unplanned healthy table owned words fault old new
  ends_met (Read at) old new read flushed = flushed
  ends_met (Write at) old new read flushed = absurd read
  ends_met Flush old new read flushed = absurd read

  ends_writing : (fault : Fault) (old new : Told)
      → FailedWriting denotes reason makes edited plans unplanned healthy table owned words old new fault
      → EndsBy denotes reason makes edited plans unplanned healthy table owned words fault old new
  ends_writing (Read at) old new writing =
      absurd (reads_nothing (slice_index_or writing.phases writing.failed.phase []) writing.failed.call at writing.failed.is)
  ends_writing (Write at) old new writing = writing
  ends_writing Flush old new writing = inr writing

  ends_refused : (e : CommitError) (old mid new : Told) → mid.seen ≡ old.seen → MetRead (commit_fault_in e) → Flushed old new
      → Refuses denotes reason makes edited plans unplanned healthy table owned words mid.seen e
      → Ends denotes reason makes edited plans unplanned healthy table owned words (Err e) old new
  ends_refused (NoTable e) old mid new a read is why = (is, rw a at why)
  ends_refused (Edit r) old mid new a read is why = (is, rw a at why)
  ends_refused (Plan e) old mid new a read is why = (is, rw a at why)
  ends_refused (Check w) old mid new a read is why = absurd why
  ends_refused (Device fault) old mid new a read is why = ends_met fault old new read is
  ends_refused Memory old mid new a read is why = (is, tt)

  module _ (old mid now : Told) (seen : MayLeave old old.seen) (flush : Flushed old mid) (same : now ≡ mid) where
    pub at_refused : (e : CommitError) → MetRead (commit_fault_in e)
        → Refuses denotes reason makes edited plans unplanned healthy table owned words mid.seen e
        → Committed denotes reason makes edited plans unplanned healthy table owned words (Err e) old now
    at_refused e read why = record {
      history = record {
        any_moment = λ o calls start. so_far old mid now seen flush same _;
        at_return = λ o calls start c may. has_refused e calls o c (start c (still old mid now seen flush same c may));
      };
      ends = ends_refused e old mid now flush.seen read (subst (λ (x : Told). Flushed old x) (sym same) flush) why;
      bounds = so_far old mid now seen flush same _;
    }

    module _ (one : (d : Sectors) (o p : Option Layout) → denotes d o → denotes d p → o ≡ p)
        (phases : List Writes) (ready : Ready denotes reason makes edited plans unplanned healthy table owned words mid.seen phases)
        (new : Told)
        (run : LeavesOnly now new (StoppedSomewhere phases now.seen)) where
      leads : Leads denotes reason makes edited plans unplanned healthy table owned words old.seen ready.old ready.new
      leads =
          subst
          (λ (d : Sectors). Leads denotes reason makes edited plans unplanned healthy table owned words d ready.old ready.new)
          flush.seen ready.leads

      stopped_at : (c : Sectors) → StoppedSomewhere phases now.seen c → StoppedSomewhere phases mid.seen c
      stopped_at c stopped = subst (λ (d : Sectors). StoppedSomewhere phases d c) (ap (λ (x : Told). x.seen) same) stopped

      is_one_of : (c : Sectors) → StoppedSomewhere phases now.seen c → denotes c ready.old ⊎ denotes c (Some ready.new)
      is_one_of c stopped =
          stopped_means denotes healthy table owned phases mid.seen ready.switch ready.safe ready.old
          (Some ready.new) ready.leads.from ready.finished c (stopped_at c stopped)

      stopped_has : (o : Option Layout) (calls : List (Past W)) → ((c : Sectors) → MayLeave old c → Has denotes edited o calls c)
          → (c : Sectors) → StoppedSomewhere phases now.seen c → Has denotes edited o (calls ++ Either words ∷ []) c
      stopped_has o calls start c stopped = ⊎_elim
          (has_old denotes edited one words calls o ready.old ready.new old.seen c leads.from leads.to (start old.seen seen))
          (has_new denotes edited one words calls o ready.old ready.new old.seen c leads.from leads.to (start old.seen seen))
          (is_one_of c stopped)

      stopped_bounded : (c : Sectors) → StoppedSomewhere phases now.seen c
          → Bounded denotes reason makes edited plans unplanned healthy table owned words old.seen c
      stopped_bounded c stopped = (
        ready.old,
        ready.new,
        leads,
        subst (λ (d : Sectors). Keeps denotes healthy table owned ready.old (Some ready.new) d c) flush.seen
            (stopped_keeps denotes healthy table owned phases mid.seen ready.switch ready.safe ready.old
            (Some ready.new) ready.leads.from ready.finished c (stopped_at c stopped)),
      )

      moments : (o : Option Layout) (calls : List (Past W)) → ((c : Sectors) → MayLeave old c → Has denotes edited o calls c)
          → LeavesOnly old new (Has denotes edited o (calls ++ Either words ∷ []))
      moments o calls start = leaves_through old now new _
          (so_far old mid now seen flush same _)
          (leaves_weaker now new _ _ (stopped_has o calls start) run)

      bounded : LeavesOnly old new (Bounded denotes reason makes edited plans unplanned healthy table owned words old.seen)
      bounded = leaves_through old now new _ (so_far old mid now seen flush same _) (leaves_weaker now new _ _ stopped_bounded run)

      pub at_failed : (fault : Fault) → CallFailed phases now.seen now new fault
          → Committed denotes reason makes edited plans unplanned healthy table owned words (Err (Device fault)) old new
      at_failed fault failed = record {
        history = record {
          any_moment = moments;
          at_return = λ o calls start c may. ⊎_elim
              (λ before. has_either denotes edited words calls o c (start c (still old mid now seen flush same c before)))
              (λ stopped. stopped_has o calls start c stopped)
              (run.at_end c may);
        };
        ends = ends_writing fault old new (record {
          mid = mid;
          flushed = flush;
          phases = phases;
          ready = ready;
          failed = subst (λ (x : Told). CallFailed phases x.seen x new fault) same failed;
        });
        bounds = bounded;
      }

      pub at_done : Settled new (after phases now.seen)
          → Committed denotes reason makes edited plans unplanned healthy table owned words (Ok tt) old new
      at_done settled =
          let finished : Settled new (after phases mid.seen) =
          subst (λ (d : Sectors). Settled new (after phases d)) (ap (λ (x : Told). x.seen) same) settled in
          record {
            history = record {
              any_moment = moments;
              at_return =
                  λ o calls start c may. has_done denotes edited one words calls o ready.old ready.new old.seen c leads.from leads.to
                  (start old.seen seen)
                  (subst (λ (d : Sectors). denotes d (Some ready.new)) (sym (settled_leaves new _ finished c may)) ready.finished);
            };
            ends = (
              record { seen = refl; durable = finished.durable ∙ sym finished.seen; pending = finished.pending },
              subst healthy (sym finished.seen) ready.safe.well,
              (ready.old, ready.new, leads, subst (λ (d : Sectors). denotes d (Some ready.new)) (sym finished.seen) ready.finished),
              record {
                phases = phases;
                ready = subst (λ (d : Sectors). Ready denotes reason makes edited plans unplanned healthy table owned words d phases)
                    flush.seen ready;
                seen = finished.seen ∙ ap (after phases) flush.seen;
              },
            );
            bounds = bounded;
          }
