-- The exits of a repair.
use Rattle.std.proofs.Common.{◌≡◌, ◌∙◌, inl, inr, ⊎_elim, ℕ, List, [], ◌∷◌, ◌++◌, length, refl, sym, ap, subst, arith, Option, Some}
use Rattle.std.proofs.Common.{Result, Ok, Err, slice_index_or}
use Rattle.std.proofs.lemmas.List.{append-nil}
use Rattle.pt_sector.specs.Sectors.{Sectors, Writes, after}
use Rattle.pt_sector.specs.Device.{Told, Moment, MayLeave, Flushed, FailedFlush, IsReadIn, LeavesOnly}
use Rattle.pt_sector.specs.declared.disk.Fault.{Fault}
use Rattle.pt_sector.specs.declared.disk.Fault.TheVariants.{Read, Write, Flush}
use Rattle.pt_sector.proofs.Since.{leaves_once, leaves_through, leaves_weaker}
use Rattle.pt_apply.specs.Plans.{Settled, StoppedSomewhere, Reached, CallFailed, Keeps}
use Rattle.pt_recover.specs.declared.error.NoTable.{NoTable as NoTableValue}
use Rattle.pt_members.specs.declared.layout.Layout.{Layout}
use Rattle.pt_layout.specs.declared.sound.finding.Finding.{Finding}
use Rattle.pt_words.specs.declared.error.Refusal.{Refusal}
use Rattle.pt_plan.specs.declared.repair_error.RepairError.{RepairError}
use Rattle.pt_plan.specs.declared.repair_error.RepairError.TheVariants.{NoTable, Unsound, Device, Memory, Plan, Check}
use Rattle.pt_plan.proofs.EveryPlan.{settled_leaves}
use Rattle.pt_plan.specs.Commits.{Past, Unchanged, Has}
use Rattle.pt_plan.specs.Repairs.{repair_fault_in, Mendable, ReadyToMend, RefusesToMend, FailedMending, MendEndsBy, MendBounded, Mends}
use Rattle.pt_plan.specs.Repairs.{Repaired}
use Rattle.pt_plan.specs.inner.Commits.{MetRead}
use Rattle.pt_plan.proofs.Exits.{reads_nothing}
use Rattle.pt_plan.proofs.Histories.{has_unchanged, has_same, failed_flush_leaves, still, so_far, stopped_means, stopped_keeps}

no_more : (moments : List Moment) → length moments ≡ 0 → moments ≡ []
no_more [] none = refl
no_more (m ∷ moments) none = absurd (omega arith)

-- where there are no phases no call was begun
no_calls : (d : Sectors) (old new : Told) → Reached [] d 0 0 old new → new.past ≡ old.past
no_calls d old new reached =
    let here = no_more reached.here reached.calls in
    let past : new.past ≡ old.past ++ (reached.done ++ reached.here) = reached.past in
    (rw (reached.before, here) at past) ∙ append-nil old.past

-- so after the plan the disk is as the first flush left it
idle_done : (old mid now new : Told) (phases : List Writes) → Flushed old mid → now ≡ mid → phases ≡ []
    → Settled new (after phases now.seen)
    → Reached phases now.seen (length phases) 0 now new → Flushed old new
idle_done old mid now new phases flush same none settled reached =
    let at : now.seen ≡ old.seen = ap (λ (x : Told). x.seen) same ∙ flush.seen in
    let done : Settled new now.seen = subst (λ (ps : List Writes). Settled new (after ps now.seen)) none settled in
    let past : new.past ≡ now.past =
    no_calls now.seen now new (subst (λ (ps : List Writes). Reached ps now.seen (length ps) 0 now new) none reached) in
    record {
      seen = done.seen ∙ at;
      durable = done.durable ∙ at;
      pending = done.pending;
      time = past ∙ ap (λ (x : Told). x.past) same ∙ flush.time;
    }

-- no call of a plan without phases fails
idle_failed : (d : Sectors) (phases : List Writes) (old new : Told) (fault : Fault) → phases ≡ [] → CallFailed phases d old new fault → ⊥
idle_failed d phases old new fault none failed =
    let within = failed.within in
    omega (arith, ap length none)

module _ {W : Type 0} (denotes : Sectors → Option Layout → Type 0) (reason : Sectors → NoTableValue → Type 0)
    (edited : Option Layout → W → Result Layout Refusal → Type 0) (plans : Sectors → Layout → List Writes → Type 0)
    (unmendable : Sectors → Layout → Finding → Type 0) (healthy : Sectors → Type 0) (table owned : Option Layout → ℕ → Type 0) where
  pub at_failed_flush : (fault : Fault) (old new : Told) → fault ≡ Flush → FailedFlush old new
      → Repaired denotes reason edited plans unmendable healthy table owned (Err (Device fault)) old new
  at_failed_flush fault old new is failed = record {
    history = record {
      any_moment = λ o calls start. leaves_once old new _ failed.time (λ c may. inl (failed_flush_leaves old new failed c may));
      at_return = λ o calls start c may. has_unchanged denotes edited calls o c (start c (failed_flush_leaves old new failed c may));
    };
    ends = subst (λ (f : Fault). MendEndsBy denotes plans unmendable healthy table owned f old new) (sym is) (inl failed);
    bounds = leaves_once old new _ failed.time (λ c may. inl (failed_flush_leaves old new failed c may));
    idle = λ well. inr failed;
  }

  ends_met : (fault : Fault) (old new : Told) → IsReadIn (λ s. Unit {0}) fault → Flushed old new
      → MendEndsBy denotes plans unmendable healthy table owned fault old new
  ends_met (Read at) old new read flushed = flushed
  ends_met (Write at) old new read flushed = absurd read
  ends_met Flush old new read flushed = absurd read

  ends_mending : (fault : Fault) (old new : Told) → FailedMending denotes plans unmendable healthy table owned old new fault
      → MendEndsBy denotes plans unmendable healthy table owned fault old new
  ends_mending (Read at) old new mending =
      absurd (reads_nothing (slice_index_or mending.phases mending.failed.phase []) mending.failed.call at mending.failed.is)
  ends_mending (Write at) old new mending = mending
  ends_mending Flush old new mending = inr mending

  ends_refused : (e : RepairError) (old mid new : Told) → mid.seen ≡ old.seen → MetRead (repair_fault_in e) → Flushed old new
      → RefusesToMend denotes reason unmendable mid.seen e
      → Mends denotes reason edited plans unmendable healthy table owned (Err e) old new
  ends_refused (NoTable e) old mid new a read is why = (is, rw a at why)
  ends_refused (Unsound f) old mid new a read is why = (is, rw a at why)
  ends_refused (Device fault) old mid new a read is why = ends_met fault old new read is
  ends_refused Memory old mid new a read is why = (is, tt)
  ends_refused (Plan e) old mid new a read is why = absurd why
  ends_refused (Check w) old mid new a read is why = absurd why

  module _ (old mid now : Told) (seen : MayLeave old old.seen) (flush : Flushed old mid) (same : now ≡ mid) where
    flushed : Flushed old now
    flushed = subst (λ (x : Told). Flushed old x) (sym same) flush

    pub at_refused : (e : RepairError) → MetRead (repair_fault_in e) → RefusesToMend denotes reason unmendable mid.seen e
        → Repaired denotes reason edited plans unmendable healthy table owned (Err e) old now
    at_refused e read why = record {
      history = record {
        any_moment = λ o calls start. so_far old mid now seen flush same _;
        at_return = λ o calls start c may. has_unchanged denotes edited calls o c (start c (still old mid now seen flush same c may));
      };
      ends = ends_refused e old mid now flush.seen read flushed why;
      bounds = so_far old mid now seen flush same _;
      idle = λ well. inl flushed;
    }

    -- of a disk that is healthy no plan has phases
    module _ (one : (d : Sectors) (o p : Option Layout) → denotes d o → denotes d p → o ≡ p)
        (none : (d : Sectors) (l : Layout) (phases : List Writes) → denotes d (Some l) → plans d l phases → healthy d → phases ≡ [])
        (phases : List Writes) (ready : ReadyToMend denotes plans unmendable healthy table owned mid.seen phases) (new : Told)
        (run : LeavesOnly now new (StoppedSomewhere phases now.seen)) where
      mendable : Mendable denotes unmendable old.seen ready.layout
      mendable = subst (λ (d : Sectors). Mendable denotes unmendable d ready.layout) flush.seen ready.mendable

      at_mid : now.seen ≡ mid.seen
      at_mid = ap (λ (x : Told). x.seen) same

      stopped_at : (c : Sectors) → StoppedSomewhere phases now.seen c → StoppedSomewhere phases mid.seen c
      stopped_at c stopped = subst (λ (d : Sectors). StoppedSomewhere phases d c) at_mid stopped

      stopped_is : (c : Sectors) → StoppedSomewhere phases now.seen c → denotes c (Some ready.layout)
      stopped_is c stopped = ⊎_elim (λ is. is) (λ is. is)
          (stopped_means denotes healthy table owned phases mid.seen ready.switch ready.safe (Some ready.layout)
          (Some ready.layout) ready.mendable.from ready.finished c (stopped_at c stopped))

      keeps : (o : Option Layout) (calls : List (Past W)) → ((c : Sectors) → MayLeave old c → Has denotes edited o calls c)
          → (c : Sectors) → denotes c (Some ready.layout) → Has denotes edited o (calls ++ Unchanged ∷ []) c
      keeps o calls start c is = has_same denotes edited one calls o (Some ready.layout) old.seen c mendable.from (start old.seen seen) is

      stopped_bounded : (c : Sectors) → StoppedSomewhere phases now.seen c
          → MendBounded denotes plans unmendable healthy table owned old.seen c
      stopped_bounded c stopped = (
        ready.layout,
        mendable,
        subst (λ (d : Sectors). Keeps denotes healthy table owned (Some ready.layout) (Some ready.layout) d c) flush.seen
            (stopped_keeps denotes healthy table owned phases mid.seen ready.switch ready.safe (Some ready.layout)
            (Some ready.layout) ready.mendable.from ready.finished c (stopped_at c stopped)),
      )

      moments : (o : Option Layout) (calls : List (Past W)) → ((c : Sectors) → MayLeave old c → Has denotes edited o calls c)
          → LeavesOnly old new (Has denotes edited o (calls ++ Unchanged ∷ []))
      moments o calls start = leaves_through old now new _
          (so_far old mid now seen flush same _)
          (leaves_weaker now new _ _ (λ c stopped. keeps o calls start c (stopped_is c stopped)) run)

      bounded : LeavesOnly old new (MendBounded denotes plans unmendable healthy table owned old.seen)
      bounded = leaves_through old now new _ (so_far old mid now seen flush same _) (leaves_weaker now new _ _ stopped_bounded run)

      no_phases : healthy old.seen → phases ≡ []
      no_phases well = none mid.seen ready.layout phases ready.mendable.from ready.planned (subst healthy (sym flush.seen) well)

      pub at_failed : (fault : Fault) → CallFailed phases now.seen now new fault
          → Repaired denotes reason edited plans unmendable healthy table owned (Err (Device fault)) old new
      at_failed fault failed = record {
        history = record {
          any_moment = moments;
          at_return = λ o calls start c may. ⊎_elim
              (λ before. has_unchanged denotes edited calls o c (start c (still old mid now seen flush same c before)))
              (λ stopped. keeps o calls start c (stopped_is c stopped))
              (run.at_end c may);
        };
        ends = ends_mending fault old new (record {
          mid = mid;
          flushed = flush;
          phases = phases;
          ready = ready;
          failed = subst (λ (x : Told). CallFailed phases x.seen x new fault) same failed;
        });
        bounds = bounded;
        idle = λ well. absurd (idle_failed now.seen phases now new fault (no_phases well) failed);
      }

      pub at_done : Settled new (after phases now.seen) → Reached phases now.seen (length phases) 0 now new
          → Repaired denotes reason edited plans unmendable healthy table owned (Ok tt) old new
      at_done settled reached =
          let finished : Settled new (after phases mid.seen) = subst (λ (d : Sectors). Settled new (after phases d)) at_mid settled in
          record {
            history = record {
              any_moment = moments;
              at_return = λ o calls start c may. keeps o calls start c
                  (subst (λ (d : Sectors). denotes d (Some ready.layout)) (sym (settled_leaves new _ finished c may)) ready.finished);
            };
            ends = (
              record { seen = refl; durable = finished.durable ∙ sym finished.seen; pending = finished.pending },
              subst healthy (sym finished.seen) ready.safe.well,
              (ready.layout, mendable, subst (λ (d : Sectors). denotes d (Some ready.layout)) (sym finished.seen) ready.finished),
              record {
                phases = phases;
                ready = subst (λ (d : Sectors). ReadyToMend denotes plans unmendable healthy table owned d phases) flush.seen ready;
                seen = finished.seen ∙ ap (after phases) flush.seen;
              },
            );
            bounds = bounded;
            idle = λ well. inl (idle_done old mid now new phases flush same (no_phases well) settled reached);
          }
