-- Histories that go on, and what a crash may leave over several calls.
use Rattle.std.proofs.Common.{◌≡◌, ◌∙◌, ◌⊎◌, inl, inr, ⊎_elim, ℕ, ◌+◌, List, [], ◌∷◌, ◌++◌, length, refl, sym, ap, subst, arith, Option}
use Rattle.std.proofs.Common.{Some, Result, Ok}
use Rattle.std.proofs.lemmas.Bool.{cases_order}
use Rattle.pt_sector.specs.Sectors.{Sectors, sector, Writes, Puts, MayHold, after}
use Rattle.pt_sector.specs.Device.{Told, MayLeave, Flushed, FailedFlush, LeavesOnly}
use Rattle.pt_sector.proofs.Since.{leaves_once}
use Rattle.pt_apply.specs.Plans.{Keeps, Safe, Switches, StoppedSomewhere}
use Rattle.pt_plan.specs.Commits.{Past, Done, Unchanged, Either, Steps, History, Has}

pub one_of : {L : Type 0} (means : Option L → Type 0) (old new : Option L) (switch phase : ℕ) → Switches means old new switch phase
    → means old ⊎ means new
one_of means old new switch phase is =
    ⊎_elim (λ same. is.inside same) (λ rest. ⊎_elim (λ below. inl (is.before below)) (λ above. inr (is.past above)) rest)
    (cases_order phase switch)

module _ {L W R : Type 0} (denotes : Sectors → Option L → Type 0) (edited : Option L → W → Result L R → Type 0) where
  pub push : (call : Past W) (calls : List (Past W)) (o p q : Option L) → History denotes edited calls o p
      → Steps denotes edited call p q → History denotes edited (calls ++ call ∷ []) o q
  push call [] o p q so_far step = (q, subst (λ (x : Option L). Steps denotes edited call x q) so_far step, refl)
  push call (c ∷ calls) o p q (m, first, rest) step = (m, first, push call calls m p q rest step)

  pub has_either : (words : W) (calls : List (Past W)) (o : Option L) (c : Sectors) → Has denotes edited o calls c
      → Has denotes edited o (calls ++ Either words ∷ []) c
  has_either words calls o c (p, is, so_far) = (p, is, push (Either words) calls o p p so_far (inl refl))

  pub has_unchanged : (calls : List (Past W)) (o : Option L) (c : Sectors) → Has denotes edited o calls c
      → Has denotes edited o (calls ++ Unchanged ∷ []) c
  has_unchanged calls o c (p, is, so_far) = (p, is, push Unchanged calls o p p so_far refl)

  -- what a disk had that denotes the same
  pub has_same : ((d : Sectors) (o p : Option L) → denotes d o → denotes d p → o ≡ p)
      → (calls : List (Past W)) (o old : Option L) (d c : Sectors) → denotes d old
      → Has denotes edited o calls d → denotes c old → Has denotes edited o (calls ++ Unchanged ∷ []) c
  has_same one calls o old d c from has is = (
    old,
    is,
    push Unchanged calls o old old
        (subst (λ (x : Option L). History denotes edited calls o x) (one d has.0 old has.1 from) has.2) refl,
  )

  module _ (one : (d : Sectors) (o p : Option L) → denotes d o → denotes d p → o ≡ p)
      (words : W) (calls : List (Past W)) (o old : Option L) (l : L) (d c : Sectors) (from : denotes d old) (to : edited old words (Ok l))
      (has : Has denotes edited o calls d) where
    here : History denotes edited calls o old
    here = subst (λ (x : Option L). History denotes edited calls o x) (one d has.0 old has.1 from) has.2

    pub has_done : denotes c (Some l) → Has denotes edited o (calls ++ Done words ∷ []) c
    has_done is = (Some l, is, push (Done words) calls o old (Some l) here (l, refl, to))

    pub has_new : denotes c (Some l) → Has denotes edited o (calls ++ Either words ∷ []) c
    has_new is = (Some l, is, push (Either words) calls o old (Some l) here (inr (l, refl, to)))

    pub has_old : denotes c old → Has denotes edited o (calls ++ Either words ∷ []) c
    has_old is = (old, is, push (Either words) calls o old old here (inl refl))

-- after a flush a crash leaves what a read gave
pub flush_leaves : (old new : Told) → MayLeave old old.seen → Flushed old new → (c : Sectors) → MayLeave new c → MayLeave old c
flush_leaves old new seen flush c left =
    let len : length c ≡ length old.seen = left.same_count ∙ ap length flush.durable in
    record {
      same_count = len ∙ seen.same_count;
      each = λ k lt. subst (λ (v : List ℕ). MayHold old.durable old.pending k v)
          (sym (⊎_elim (λ is. rw flush.durable at is) (λ puts. absurd (subst (λ (p : Writes). Puts p k (sector c k)) flush.pending puts))
          (left.each k (omega (arith, lt, len, left.same_count, seen.same_count)))))
          (seen.each k lt);
    }

pub failed_flush_leaves : (old new : Told) → FailedFlush old new → (c : Sectors) → MayLeave new c → MayLeave old c
failed_flush_leaves old new failed c left = record {
  same_count = left.same_count ∙ failed.same_count;
  each = λ k lt. failed.no_more k (sector c k) lt (left.each k (omega (arith, lt, failed.same_count)));
}

-- reads alone after a flush
module _ (old mid now : Told) (seen : MayLeave old old.seen) (flush : Flushed old mid) (same : now ≡ mid) where
  pub still : (c : Sectors) → MayLeave now c → MayLeave old c
  still c may = flush_leaves old mid seen flush c (subst (λ (x : Told). MayLeave x c) same may)

  pub so_far : (P : Sectors → Type 0) → LeavesOnly old now P
  so_far P = rw same (leaves_once old mid P flush.time (λ c may. inl (flush_leaves old mid seen flush c may)))

-- a checked plan that is stopped
module _ {L : Type 0} (denotes : Sectors → Option L → Type 0) (healthy : Sectors → Type 0) (table owned : Option L → ℕ → Type 0)
    (phases : List Writes) (d : Sectors) (switch : ℕ) (safe : Safe denotes healthy table owned phases d switch)
    (old new : Option L) (from : denotes d old) (finished : denotes (after phases d) new) (c : Sectors)
    (at : StoppedSomewhere phases d c) where
  pub stopped_means : denotes c old ⊎ denotes c new
  stopped_means = one_of (denotes c) old new switch (at.phase + 1) (safe.which old new from finished at.phase at.within c at.stopped)

  pub stopped_keeps : Keeps denotes healthy table owned old new d c
  stopped_keeps = safe.stays old new from finished at.phase at.within c at.stopped
