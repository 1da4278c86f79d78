-- Data on its way: a flush, sectors that were copied, and another flush.
use Rattle.std.proofs.Common.{◌≡◌, ◌∙◌, inl, inr, ⊎_elim, ℕ, ◌<◌, List, length, refl, sym, ap, subst, Ok, Err}
use Rattle.std.specs.Prelude.{Result, OnOk}
use Rattle.pt_sector.specs.Sectors.{Sectors, sector, Writes, MayHold, Puts}
use Rattle.pt_sector.specs.Device.{Told, MayLeave, Flushed, FailedFlush, LeavesOnly}
use Rattle.pt_sector.specs.declared.address.Extent.{Extent}
use Rattle.pt_sector.proofs.Since.{leaves_once, leaves_through}
use Rattle.pt_plan.proofs.Applying.{failed_flush}
use Rattle.pt_plan.proofs.Histories.{flush_leaves}
use Rattle.pt_carry.specs.Data.{IsIn, HasPart}
use Rattle.pt_carry.specs.inner.Copying.{CopiedAll, CopiedPart, HasThose, LeftOr, Took}

pub on_any : {T E : Type 0} (r : Result T E) (P : Type 0) → P → OnOk r P
on_any (Ok x) P p = p
on_any (Err e) P p = tt

flushed_holds : (old begun : Told) (k : ℕ) (v : List ℕ) → Flushed old begun → MayHold begun.durable begun.pending k v
    → v ≡ sector old.seen k
flushed_holds old begun k v flush held =
    ⊎_elim
    (λ is. is ∙ ap (λ (d : Sectors). sector d k) flush.durable)
    (λ puts. absurd (subst (λ (p : Writes). Puts p k v) flush.pending puts))
    held

module _ (runs : List Extent) (e : Sectors) (old begun now : Told) (flush : Flushed old begun) (took : Took e (IsIn runs) begun now) where
  left_part : (c : Sectors) → LeftOr e (IsIn runs) begun c → HasPart runs e old.seen c
  left_part c left = record {
    count = left.count ∙ ap length flush.durable;
    each = λ s lt. ⊎_elim
        (λ held. inl (flushed_holds old begun s (sector c s) flush held))
        (λ it. inr it)
        (left.each s (subst (λ (d : Sectors). s < length d) (sym flush.durable) lt));
  }

  end_part : (c : Sectors) → MayLeave now c → HasPart runs e old.seen c
  end_part c may = left_part c (record {
    count = may.same_count ∙ took.count;
    each = λ k lt. took.held k (sector c k) lt (may.each k (subst (λ (n : ℕ). k < n) (sym took.count) lt));
  })

  seen_part : HasPart runs e old.seen now.seen
  seen_part = record {
    count = took.seen_count ∙ ap length flush.seen;
    each = λ s lt. ⊎_elim (λ same. inl (same ∙ ap (λ (d : Sectors). sector d s) flush.seen)) (λ it. inr it) (took.seen s);
  }

  module _ (seen : MayLeave old old.seen) where
    so_far : LeavesOnly old now (HasPart runs e old.seen)
    so_far = leaves_through old begun now (HasPart runs e old.seen)
        (leaves_once old begun (HasPart runs e old.seen) flush.time (λ c may. inl (flush_leaves old begun seen flush c may)))
        (record {
          more = took.more;
          past = took.past;
          inside = λ c left. inr (left_part c (took.inside c left));
          at_end = λ c may. inr (end_part c may);
        })

    pub part_copied : CopiedPart runs e old now
    part_copied = record { seen = seen_part; stops = so_far }

    pub part_unflushed : (new : Told) → FailedFlush now new → CopiedPart runs e old new
    part_unflushed new failed = record {
      seen = subst (λ (d : Sectors). HasPart runs e old.seen d) (sym failed.seen) seen_part;
      stops = leaves_through old now new (HasPart runs e old.seen) so_far (failed_flush now new (HasPart runs e old.seen) failed);
    }

    module _ (new : Told) (may_now : MayLeave now now.seen) (done : Flushed now new) where
      pub part_flushed : CopiedPart runs e old new
      part_flushed = record {
        seen = subst (λ (d : Sectors). HasPart runs e old.seen d) (sym done.seen) seen_part;
        stops = leaves_through old now new (HasPart runs e old.seen) so_far
            (leaves_once now new (HasPart runs e old.seen) done.time (λ c may. inl (flush_leaves now new may_now done c may)));
      }

      pub all_flushed : HasThose e (IsIn runs) now.seen → CopiedAll runs e old new
      all_flushed those = record {
        part = part_flushed;
        whole = λ s within. ap (λ (d : Sectors). sector d s) done.seen ∙ those s within;
        settled = record { seen = refl; durable = done.durable ∙ sym done.seen; pending = done.pending };
      }

-- the same of disks that tell what they told
pub part_same : (runs : List Extent) (x e : Told) (was old new : Told) → x ≡ e → was ≡ old → CopiedPart runs x.seen was new
    → CopiedPart runs e.seen old new
part_same runs x e was old new same_e same_old part =
    subst (λ (t : Told). CopiedPart runs t.seen old new) same_e
    (subst (λ (t : Told). CopiedPart runs x.seen t new) same_old part)

pub all_same : (runs : List Extent) (x e : Told) (was old new : Told) → x ≡ e → was ≡ old → CopiedAll runs x.seen was new
    → CopiedAll runs e.seen old new
all_same runs x e was old new same_e same_old all =
    subst (λ (t : Told). CopiedAll runs t.seen old new) same_e
    (subst (λ (t : Told). CopiedAll runs x.seen t new) same_old all)
