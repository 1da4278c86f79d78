-- A plan from elsewhere that is checked and applied, as a call that carries every history on.
use Rattle.std.specs.Prelude.{◌≡◌, ◌⊎◌, ℕ, List, [], ◌∷◌, ◌++◌, Option, Some, Result, Ok, Err, length}
use Rattle.std.proofs.Common.{inl, inr, ⊎_elim, refl, sym, subst}
use Rattle.pt_sector.specs.Sectors.{Sectors, Writes, after}
use Rattle.pt_sector.specs.Device.{Told, MayLeave, LeavesOnly, Flushed, FailedFlush}
use Rattle.pt_sector.specs.declared.disk.Fault.{Fault}
use Rattle.pt_sector.specs.declared.disk.Fault.TheVariants.{Read, Write, Flush}
use Rattle.pt_sector.proofs.Since.{leaves_once, leaves_weaker}
use Rattle.pt_apply.specs.Plans.{Settled}
use Rattle.pt_recover.specs.Denotes.{Denotes}
use Rattle.pt_recover.proofs.Terms.{denotes_one_lem}
use Rattle.pt_members.specs.Tables.{OwnedOf, TableOf}
use Rattle.pt_members.specs.declared.layout.Layout.{Layout}
use Rattle.pt_layout.specs.Healthy.{Healthy}
use Rattle.pt_check.specs.declared.answer.Answer.{Answer}
use Rattle.pt_check.specs.declared.answer.Answer.TheVariants.{No, Yes}
use Rattle.pt_plan.specs.Batches.{Change, ChangedBy, to_layout}
use Rattle.pt_plan.specs.Commits.{Past, Done, Unchanged, Either, Has, Holds, Carries, SafelyStopped, FailedApplying, FailsBy}
use Rattle.pt_plan.specs.Sessions.{Call, unchanged, plan_done, plan_failed, IsPlanCall, AppliesPlan, Applies, RunOf, a_plan}
use Rattle.pt_plan.specs.declared.error.CommitError.{CommitError}
use Rattle.pt_plan.specs.declared.error.CommitError.TheVariants.{NoTable, Edit, Plan, Check, Device, Memory}
use Rattle.pt_plan.proofs.EveryPlan.{settled_leaves}
use Rattle.pt_plan.proofs.Histories.{flush_leaves, failed_flush_leaves, has_unchanged, has_either, has_old, has_new, has_done}
use Rattle.pt_plan.proofs.Histories.{stopped_means}

-- ## Which call it is.

made_by : (b : ℕ) (phases : List Writes) (d : Sectors) → Healthy b (after phases d) → (l : Layout) × Denotes b (after phases d) (Some l)
made_by b phases d (l, is) = (l, is.denotes)

failed_call : (b : ℕ) (phases : List Writes) (old new : Told) (fault : Fault) → FailedApplying b phases old new fault
    → (call : Call Change) × IsPlanCall b phases (Err (Device fault)) old new call
failed_call b phases old new fault it =
    let made = made_by b phases old.seen it.safe.well in (plan_failed made.0, inr (made.0, made.1, refl))

fault_call : (b : ℕ) (phases : List Writes) (old new : Told) (fault : Fault) → FailsBy b phases fault old new
    → (call : Call Change) × IsPlanCall b phases (Err (Device fault)) old new call
fault_call b phases old new (Read at) flushed = (unchanged, inl (refl, inl flushed))
fault_call b phases old new (Write at) it = failed_call b phases old new (Write at) it
fault_call b phases old new Flush (inl failed) = (unchanged, inl (refl, inr failed))
fault_call b phases old new Flush (inr it) = failed_call b phases old new Flush it

call_is : (b : ℕ) (phases : List Writes) (result : Result Answer CommitError) (old new : Told) → AppliesPlan b phases result old new
    → (call : Call Change) × IsPlanCall b phases result old new call
call_is b phases (Ok (Yes switch)) old new did =
    let made = made_by b phases old.seen did.applied.promises.well in (plan_done made.0, (made.0, made.1, refl))
call_is b phases (Ok (No why)) old new did = (unchanged, refl)
call_is b phases (Err (Device fault)) old new did = fault_call b phases old new fault did.failed
call_is b phases (Err Memory) old new did = (unchanged, refl)
call_is b phases (Err (NoTable e)) old new did = absurd did.failed
call_is b phases (Err (Edit r)) old new did = absurd did.failed
call_is b phases (Err (Plan e)) old new did = absurd did.failed
call_is b phases (Err (Check why)) old new did = absurd did.failed

pub plan_call_lem : (b : ℕ) (phases : List Writes) (result : Result Answer CommitError) (old new : Told)
    → AppliesPlan b phases result old new
    → (call : Call Change) × IsPlanCall b phases result old new call × RunOf b (length old.seen) (a_plan call ∷ []) old new
plan_call_lem b phases result old new did =
    let it = call_is b phases result old new did in (it.0, it.1, (new, (phases, result, did, it.1), refl))

-- ## It carries every history on.

module _ (b n : ℕ) (old new : Told) (seen : MayLeave old old.seen) where
  flush_carries : Flushed old new → Carries (Denotes b) (ChangedBy b n) Unchanged Unchanged old new
  flush_carries flush = record {
    any_moment = λ o calls start. leaves_once old new _ flush.time (λ c may. inl (flush_leaves old new seen flush c may));
    at_return = λ o calls start c may.
        has_unchanged (Denotes b) (ChangedBy b n) calls o c (start c (flush_leaves old new seen flush c may));
  }

  failed_flush_carries : FailedFlush old new → Carries (Denotes b) (ChangedBy b n) Unchanged Unchanged old new
  failed_flush_carries failed = record {
    any_moment = λ o calls start. leaves_once old new _ failed.time (λ c may. inl (failed_flush_leaves old new failed c may));
    at_return = λ o calls start c may.
        has_unchanged (Denotes b) (ChangedBy b n) calls o c (start c (failed_flush_leaves old new failed c may));
  }

  module _ (phases : List Writes) (l : Layout) (made : Denotes b (after phases old.seen) (Some l))
      (stops : LeavesOnly old new (SafelyStopped b phases old.seen)) where
    -- a disk that is stopped in a plan denotes the old layout or l
    stopped_has : (o : Option Layout) (calls : List (Past Change)) → Holds (Denotes b) (ChangedBy b n) o calls old → (c : Sectors)
        → SafelyStopped b phases old.seen c → Has (Denotes b) (ChangedBy b n) o (calls ++ Either (to_layout l) ∷ []) c
    stopped_has o calls start c stopped =
        let has : Has (Denotes b) (ChangedBy b n) o calls old.seen = start old.seen seen in
        ⊎_elim
        (has_old (Denotes b) (ChangedBy b n) (denotes_one_lem b) (to_layout l) calls o has.0 l old.seen c has.1 refl has)
        (has_new (Denotes b) (ChangedBy b n) (denotes_one_lem b) (to_layout l) calls o has.0 l old.seen c has.1 refl has)
        (stopped_means (Denotes b) (Healthy b) (TableOf b) (OwnedOf b) phases old.seen stopped.switch stopped.safe has.0 (Some l) has.1
        made c stopped.stopped)

    moments : (o : Option Layout) (calls : List (Past Change)) → Holds (Denotes b) (ChangedBy b n) o calls old
        → LeavesOnly old new (Has (Denotes b) (ChangedBy b n) o (calls ++ Either (to_layout l) ∷ []))
    moments o calls start = leaves_weaker old new _ _ (stopped_has o calls start) stops

    failed_carries : Carries (Denotes b) (ChangedBy b n) (Either (to_layout l)) (Either (to_layout l)) old new
    failed_carries = record {
      any_moment = moments;
      at_return = λ o calls start c may. ⊎_elim
          (λ before. has_either (Denotes b) (ChangedBy b n) (to_layout l) calls o c (start c before))
          (λ stopped. stopped_has o calls start c stopped)
          (stops.at_end c may);
    }

    done_carries : Settled new (after phases old.seen)
        → Carries (Denotes b) (ChangedBy b n) (Either (to_layout l)) (Done (to_layout l)) old new
    done_carries settled = record {
      any_moment = moments;
      at_return = λ o calls start c may.
          let has : Has (Denotes b) (ChangedBy b n) o calls old.seen = start old.seen seen in
          has_done (Denotes b) (ChangedBy b n) (denotes_one_lem b) (to_layout l) calls o has.0 l old.seen c has.1 refl has
          (subst (λ (d : Sectors). Denotes b d (Some l)) (sym (settled_leaves new _ settled c may)) made);
    }

abbrev CallOn : ℕ → ℕ → Told → Told → Call Change → Type 0
CallOn b n old new call = Carries (Denotes b) (ChangedBy b n) call.inside call.done old new

pub plan_carries_lem : (b n : ℕ) (call : Call Change) (old new : Told) → Applies b call old new → CallOn b n old new call
plan_carries_lem b n call old new (phases, Ok (Yes switch), did, (l, made, is)) =
    subst (CallOn b n old new) (sym is) (done_carries b n old new did.seen phases l made did.any_moment did.applied.ends)
plan_carries_lem b n call old new (phases, Ok (No why), did, is) =
    subst (CallOn b n old new) (sym is) (flush_carries b n old new did.seen did.applied.ends)
plan_carries_lem b n call old new (phases, Err (Device fault), did, inl (is, inl flushed)) =
    subst (CallOn b n old new) (sym is) (flush_carries b n old new did.seen flushed)
plan_carries_lem b n call old new (phases, Err (Device fault), did, inl (is, inr failed)) =
    subst (CallOn b n old new) (sym is) (failed_flush_carries b n old new did.seen failed)
plan_carries_lem b n call old new (phases, Err (Device fault), did, inr (l, made, is)) =
    subst (CallOn b n old new) (sym is) (failed_carries b n old new did.seen phases l made did.any_moment)
plan_carries_lem b n call old new (phases, Err Memory, did, is) =
    subst (CallOn b n old new) (sym is) (flush_carries b n old new did.seen did.failed)
plan_carries_lem b n call old new (phases, Err (NoTable e), did, is) = absurd did.failed
plan_carries_lem b n call old new (phases, Err (Edit r), did, is) = absurd did.failed
plan_carries_lem b n call old new (phases, Err (Plan e), did, is) = absurd did.failed
plan_carries_lem b n call old new (phases, Err (Check why), did, is) = absurd did.failed

-- what may be left undone
abbrev MayBeUndone : Call Change → Type 0
MayBeUndone call = (call.inside ≡ Unchanged) ⊎ ((w : Change) × (call.inside ≡ Either w))

pub plan_undone_lem : (b : ℕ) (call : Call Change) (old new : Told) → Applies b call old new → MayBeUndone call
plan_undone_lem b call old new (phases, Ok (Yes switch), did, (l, made, is)) = subst MayBeUndone (sym is) (inr (to_layout l, refl))
plan_undone_lem b call old new (phases, Ok (No why), did, is) = subst MayBeUndone (sym is) (inl refl)
plan_undone_lem b call old new (phases, Err (Device fault), did, inl (is, called)) = subst MayBeUndone (sym is) (inl refl)
plan_undone_lem b call old new (phases, Err (Device fault), did, inr (l, made, is)) = subst MayBeUndone (sym is) (inr (to_layout l, refl))
plan_undone_lem b call old new (phases, Err Memory, did, is) = subst MayBeUndone (sym is) (inl refl)
plan_undone_lem b call old new (phases, Err (NoTable e), did, is) = absurd did.failed
plan_undone_lem b call old new (phases, Err (Edit r), did, is) = absurd did.failed
plan_undone_lem b call old new (phases, Err (Plan e), did, is) = absurd did.failed
plan_undone_lem b call old new (phases, Err (Check why), did, is) = absurd did.failed
