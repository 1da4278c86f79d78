-- A flush, calls that only read, and then a plan that is applied.
use Rattle.std.proofs.Common.{◌≡◌, ◌∙◌, inl, ℕ, List, refl, sym, ap, subst}
use Rattle.pt_sector.specs.Sectors.{Sectors, Writes, after}
use Rattle.pt_sector.specs.Device.{Told, MayLeave, Flushed, FailedFlush, LeavesOnly}
use Rattle.pt_sector.proofs.Since.{leaves_once, leaves_through, leaves_weaker}
use Rattle.pt_apply.specs.Plans.{Settled, StoppedSomewhere}
use Rattle.pt_check.specs.Answers.{Answers, Promises}
use Rattle.pt_check.specs.declared.answer.Answer.{Answer}
use Rattle.pt_check.specs.declared.answer.Answer.TheVariants.{No, Yes}
use Rattle.pt_check.specs.declared.answer.Why.{Why}
use Rattle.pt_plan.proofs.Histories.{flush_leaves, failed_flush_leaves}
use Rattle.pt_plan.specs.Commits.{SafelyStopped, Applied}

pub failed_flush : (old new : Told) (P : Sectors → Type 0) → FailedFlush old new → LeavesOnly old new P
failed_flush old new P failed = leaves_once old new P failed.time (λ c may. inl (failed_flush_leaves old new failed c may))

-- after a flush and calls that only read, nothing is pending
pub settled : (old mid now : Told) → Flushed old mid → now ≡ mid → Settled now now.seen
settled old mid now flush same = rw same (record { seen = refl; durable = flush.durable ∙ sym flush.seen; pending = flush.pending })

module _ (old mid now : Told) (seen : MayLeave old old.seen) (flush : Flushed old mid) (same : now ≡ mid) where
  pub so_far : (P : Sectors → Type 0) → LeavesOnly old now P
  so_far P = rw same (leaves_once old mid P flush.time (λ c may. inl (flush_leaves old mid seen flush c may)))

  now_seen : now.seen ≡ old.seen
  now_seen = ap (λ (x : Told). x.seen) same ∙ flush.seen

  module _ (b : ℕ) (phases : List Writes) where
    pub refused : (why : Why) (answer : Answer) → answer ≡ No why → Answers b mid.seen phases answer → Applied b phases old now answer
    refused why answer is right = rw is (record {
      answers = subst (λ (d : Sectors). Answers b d phases (No why)) flush.seen
          (subst (λ (a : Answer). Answers b mid.seen phases a) is right);
      promises = tt;
      ends = subst (λ (x : Told). Flushed old x) (sym same) flush;
    })

    module _ (switch : ℕ) (answer : Answer) (is : answer ≡ Yes switch) (safe : Promises b mid.seen phases answer) where
      is_safe : Promises b old.seen phases (Yes switch)
      is_safe =
          subst (λ (d : Sectors). Promises b d phases (Yes switch)) flush.seen
          (subst (λ (a : Answer). Promises b mid.seen phases a) is safe)

      stopped_so : (c : Sectors) → StoppedSomewhere phases now.seen c → SafelyStopped b phases old.seen c
      stopped_so c stopped = record {
        switch = switch;
        safe = is_safe;
        stopped = subst (λ (d : Sectors). StoppedSomewhere phases d c) now_seen stopped;
      }

      pub goes_on : (new : Told) → LeavesOnly now new (StoppedSomewhere phases now.seen)
          → LeavesOnly old new (SafelyStopped b phases old.seen)
      goes_on new run = leaves_through old now new _ (so_far _) (leaves_weaker now new _ _ stopped_so run)

      pub done : (new : Told) → Answers b mid.seen phases answer → Settled new (after phases now.seen) → Applied b phases old new answer
      done new right settled = rw is (record {
        answers = subst (λ (d : Sectors). Answers b d phases (Yes switch)) flush.seen
            (subst (λ (a : Answer). Answers b mid.seen phases a) is right);
        promises = is_safe;
        ends = subst (λ (d : Sectors). Settled new (after phases d)) now_seen settled;
      })
