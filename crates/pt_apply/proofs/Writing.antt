-- A phase as it is written.
use Rattle.std.proofs.Common.{◌≡◌, ◌∙◌, ◌⊎◌, inl, inr, ⊎_elim, ℕ, ◌+◌, ◌<◌, List, [], ◌∷◌, ◌++◌, length, slice_set, refl, sym, ap, subst}
use Rattle.std.proofs.Common.{arith, length-set, length-append, Ok, Err}
use Rattle.std.specs.Prelude.{Result, OnOk, OnErr, IfErr}
use Rattle.std.proofs.lemmas.Bool.{cases_eq}
use Rattle.std.proofs.lemmas.List.{append-nil, append_assoc}
use Rattle.pt_apply.proofs.MomentsLemmas.{left_split}
use Rattle.std.proofs.lemmas.Grind.{common_steps}
use Rattle.pt_sector.specs.Sectors.{Sectors, sector, Writes, Stopped, MayHold, Puts, written}
use Rattle.pt_sector.specs.inner.ForFields.{length-written}
use Rattle.pt_sector.specs.Device.{Told, Moment, MayLeave, TakesWrite, Wrote, FailedWrite, Flushed, FailedFlush, Elapses, now_of}
use Rattle.pt_sector.specs.declared.disk.Fault.{Fault}
use Rattle.pt_sector.specs.declared.disk.Fault.TheVariants as fault
use Rattle.pt_apply.specs.declared.plan.Write.{Write}
use Rattle.pt_apply.specs.Plans.{writes_of, Settled}
use Rattle.pt_apply.specs.inner.Plans.{Within, Ended}
use Rattle.pt_apply.proofs.Items.{fault-of-flush}

-- the phase ws on d is being written: index writes were done, rest are left
pub record Writing (d : Sectors) (ws rest : Writes) (index : ℕ) (old now : Told) : Type 0 where
  pub seen : written rest now.seen ≡ written ws d
  pub same_count : length now.durable ≡ length d
  pub may : (k : ℕ) (v : List ℕ) → k < length d → MayHold now.durable now.pending k v → MayHold d ws k v
  pub leaves : Within (Stopped d ws) index old now

leaves_on : (old mid new : Told) (P : Sectors → Type 0) (n : ℕ) → Within P n old mid → Elapses mid new
    → ((c : Sectors) → MayLeave new c → P c) → Within P (n + 1) old new
leaves_on old mid new P n so_far time here = record {
  more = so_far.more ++ now_of mid ∷ [];
  past = time ∙ ap (λ (l : List Moment). l ++ now_of mid ∷ []) so_far.past ∙ append_assoc old.past so_far.more (now_of mid ∷ []);
  calls = length-append so_far.more (now_of mid ∷ []) ∙ ap (λ (m : ℕ). m + 1) so_far.calls;
  inside = λ c left. ⊎_elim (so_far.inside c) (λ later. ⊎_elim (so_far.at_end c) (λ none. absurd none) later)
      (left_split so_far.more (now_of mid ∷ []) c left);
  at_end = here;
}

-- what may be held, as whole disks
whole : (d : Sectors) (ws : Writes) (now : Told) → length now.durable ≡ length d
    → ((k : ℕ) (v : List ℕ) → k < length d → MayHold now.durable now.pending k v → MayHold d ws k v) → (c : Sectors) → MayLeave now c
    → Stopped d ws c
whole d ws now len may c left = record {
  same_count = left.same_count ∙ len;
  each = λ k lt. may k (sector c k) lt (left.each k (omega (arith, lt, len)));
}

may_start : (d : Sectors) (ws : Writes) (old : Told) → Settled old d → (k : ℕ) (v : List ℕ) → MayHold old.durable old.pending k v
    → MayHold d ws k v
may_start d ws old settled k v held =
    ⊎_elim (λ is. inl (rw settled.durable at is)) (λ puts. absurd (subst (λ (p : Writes). Puts p k v) settled.pending puts)) held

pub started : (d : Sectors) (ws : Writes) (old : Told) → Settled old d → Writing d ws ws 0 old old
started d ws old settled = record {
  seen = ap (written ws) settled.seen;
  same_count = ap length settled.durable;
  may = λ k v lt held. may_start d ws old settled k v held;
  leaves = record {
    more = [];
    past = sym (append-nil old.past);
    calls = refl;
    inside = λ c none. absurd none;
    at_end = whole d ws old (ap length settled.durable) (λ k v lt held. may_start d ws old settled k v held);
  };
}

sector-set : (d : Sectors) (a : ℕ) (x : List ℕ) (k : ℕ) (v : List ℕ) → k < length d → v ≡ sector (slice_set d a x) k
    → (v ≡ sector d k) ⊎ ((a ≡ k) × (x ≡ v))
sector-set d a x k v lt is = elim (cases_eq a k) [
  | inl same ↦ inr (same, grind (arith, common_steps))
  | inr other ↦ inl (grind (arith, common_steps))
]

puts-push : (ws : Writes) (a : ℕ) (x : List ℕ) (k : ℕ) (v : List ℕ) → Puts (ws ++ (a, x) ∷ []) k v → Puts ws k v ⊎ ((a ≡ k) × (x ≡ v))
puts-push [] a x k v (inl here) = inr here
puts-push [] a x k v (inr none) = absurd none
puts-push (w ∷ ws) a x k v (inl here) = inl (inl here)
puts-push (w ∷ ws) a x k v (inr there) = ⊎_elim (λ old. inl (inr old)) (λ new. inr new) (puts-push ws a x k v there)

puts-along : (ws : Writes) (a k : ℕ) (x v : List ℕ) → Puts ws a x → a ≡ k → x ≡ v → Puts ws k v
puts-along ws a k x v puts same is = rw (← same, ← is) puts

-- one write more, taken or not
may_on : (d : Sectors) (ws : Writes) (mid new : Told) (a : ℕ) (x : List ℕ) → length mid.durable ≡ length d → Puts ws a x
    → ((k : ℕ) (v : List ℕ) → k < length d → MayHold mid.durable mid.pending k v → MayHold d ws k v)
    → TakesWrite mid new a x → (k : ℕ) (v : List ℕ) → k < length d → MayHold new.durable new.pending k v → MayHold d ws k v
may_on d ws mid new a x len put may (inl (durable, pending)) k v lt (inl is) =
    ⊎_elim (λ old. may k v lt (inl old)) (λ it. inr (puts-along ws a k x v put it.0 it.1))
    (sector-set mid.durable a x k v (omega (arith, lt, len)) (rw durable at is))
may_on d ws mid new a x len put may (inl (durable, pending)) k v lt (inr puts) =
    may k v lt (inr (subst (λ (p : Writes). Puts p k v) pending puts))
may_on d ws mid new a x len put may (inr (durable, pending)) k v lt (inl is) = may k v lt (inl (rw durable at is))
may_on d ws mid new a x len put may (inr (durable, pending)) k v lt (inr puts) =
    ⊎_elim (λ old. may k v lt (inr old)) (λ it. inr (puts-along ws a k x v put it.0 it.1))
    (puts-push mid.pending a x k v (subst (λ (p : Writes). Puts p k v) pending puts))

count_on : (d : Sectors) (mid new : Told) (a : ℕ) (x : List ℕ) → length mid.durable ≡ length d → TakesWrite mid new a x
    → length new.durable ≡ length d
count_on d mid new a x len (inl (durable, pending)) = ap length durable ∙ length-set mid.durable a x ∙ len
count_on d mid new a x len (inr (durable, pending)) = ap length durable ∙ len

pub writing_on : (d : Sectors) (ws rest : Writes) (n : ℕ) (old mid new : Told) (a : ℕ) (x : List ℕ)
    → Writing d ws ((a, x) ∷ rest) n old mid → Puts ws a x → Wrote mid new a x → Writing d ws rest (n + 1) old new
writing_on d ws rest n old mid new a x so_far put wrote =
    let len : length new.durable ≡ length d = count_on d mid new a x so_far.same_count wrote.takes in
    let may : (k : ℕ) (v : List ℕ) → k < length d → MayHold new.durable new.pending k v → MayHold d ws k v =
    may_on d ws mid new a x so_far.same_count put so_far.may wrote.takes in
    record {
      seen = ap (written rest) wrote.seen ∙ so_far.seen;
      same_count = len;
      may = may;
      leaves = leaves_on old mid new (Stopped d ws) n so_far.leaves wrote.time (whole d ws new len may);
    }

pub writing_failed : (d : Sectors) (ws rest : Writes) (n : ℕ) (old mid new : Told) (a : ℕ) (x : List ℕ) → Writing d ws rest n old mid
    → Puts ws a x → FailedWrite mid new a x → Within (Stopped d ws) (n + 1) old new
writing_failed d ws rest n old mid new a x so_far put failed =
    let len : length new.durable ≡ length d = ap length failed.durable ∙ so_far.same_count in
    let may : (k : ℕ) (v : List ℕ) → k < length d → MayHold new.durable new.pending k v → MayHold d ws k v =
    ⊎_elim
    (λ kept. λ k v lt held. so_far.may k v lt (rw (failed.durable, kept.1) at held))
    (λ kept. may_on d ws mid new a x so_far.same_count put so_far.may (inr (failed.durable, kept.1)))
    failed.kept in
    leaves_on old mid new (Stopped d ws) n so_far.leaves failed.time (whole d ws new len may)

-- what was written may be held
written_or : (ws : Writes) (d : Sectors) (k : ℕ) (v : List ℕ) → k < length d → v ≡ sector (written ws d) k → MayHold d ws k v
written_or [] d k v lt is = inl is
written_or (w ∷ ws) d k v lt is =
    let len : length (slice_set d w.0 w.1) ≡ length d = length-set d w.0 w.1 in
    ⊎_elim
    (λ same. ⊎_elim (λ old. inl old) (λ it. inr (inl it)) (sector-set d w.0 w.1 k v lt same))
    (λ puts. inr (inr puts))
    (written_or ws (slice_set d w.0 w.1) k v (omega (arith, lt, len)) is)

pub flushed : (d : Sectors) (ws : Writes) (n : ℕ) (old mid new : Told) → Writing d ws [] n old mid → Flushed mid new
    → Settled new (written ws d) × Within (Stopped d ws) (n + 1) old new
flushed d ws n old mid new so_far flush =
    let durable : new.durable ≡ written ws d = flush.durable ∙ so_far.seen in
    let len : length new.durable ≡ length d = ap length durable ∙ length-written ws d in (
      record { seen = flush.seen ∙ so_far.seen; durable = durable; pending = flush.pending },
      leaves_on old mid new (Stopped d ws) n so_far.leaves flush.time (whole d ws new len (λ k v lt held. ⊎_elim
          (λ is. written_or ws d k v lt (rw durable at is))
          (λ puts. absurd (subst (λ (p : Writes). Puts p k v) flush.pending puts)) held)),
    )

pub flush_failed : (d : Sectors) (ws : Writes) (n : ℕ) (old mid new : Told) → Writing d ws [] n old mid → FailedFlush mid new
    → Within (Stopped d ws) (n + 1) old new
flush_failed d ws n old mid new so_far failed =
    leaves_on old mid new (Stopped d ws) n so_far.leaves failed.time
    (whole d ws new (failed.same_count ∙ so_far.same_count)
    (λ k v lt held. so_far.may k v lt (failed.no_more k v (omega (arith, lt, so_far.same_count)) held)))

-- the flush that ends the phase, done or failed
module _ {b : _} (phase : List (Write b)) (d : Sectors) (n : ℕ) (old mid new : Told) (is : n ≡ length phase)
    (so_far : Writing d (writes_of phase) [] n old mid) where
  pub ends_done : {T E : Type 0} (r : Result T E) → OnOk r (Flushed mid new)
      → OnOk r (Within (Stopped d (writes_of phase)) (length phase + 1) old new)
  ends_done (Ok x) flush =
      subst (λ (m : ℕ). Within (Stopped d (writes_of phase)) (m + 1) old new) is (flushed d (writes_of phase) n old mid new so_far flush).1
  ends_done (Err e) flush = tt

  pub ends_settled : {T E : Type 0} (r : Result T E) → OnOk r (Flushed mid new) → OnOk r (Settled new (written (writes_of phase) d))
  ends_settled (Ok x) flush = (flushed d (writes_of phase) n old mid new so_far flush).0
  ends_settled (Err e) flush = tt

  pub ends_failed : {T : Type 0} (r : Result T Fault) → OnErr r (FailedFlush mid new) → IfErr r (λ e. e ≡ fault.Flush)
      → IfErr r (Ended d (writes_of phase) old new)
  ends_failed (Ok x) failed tells = tt
  ends_failed (Err e) failed tells =
      record { call = n; within = flush_failed d (writes_of phase) n old mid new so_far failed; is = fault-of-flush phase n e is tells }
