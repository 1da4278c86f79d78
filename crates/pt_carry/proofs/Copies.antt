-- Sectors that are being copied.
use Rattle.std.proofs.Common.{◌≡◌, ◌∙◌, ◌⊎◌, inl, inr, ⊎_elim, ℕ, ◌+◌, ◌<◌, ◌≤◌, List, [], ◌∷◌, ◌++◌, length}
use Rattle.std.proofs.Common.{slice_set, refl, sym, ap, take, get_or}
use Rattle.std.proofs.Common.{subst, arith, length-set}
use Rattle.std.proofs.lemmas.Bool.{cases_eq}
use Rattle.std.proofs.lemmas.List.{append-nil, append_assoc}
use Rattle.std.proofs.lemmas.Grind.{common_steps}
use Rattle.pt_sector.specs.Sectors.{Sectors, sector, Writes, MayHold, Puts}
use Rattle.pt_sector.specs.Device.{Told, Moment, LeftBy, TakesWrite, Wrote, FailedWrite, Elapses, now_of}
use Rattle.pt_apply.proofs.MomentsLemmas.{left_split}
use Rattle.pt_sector.specs.declared.address.Extent.{Extent}
use Rattle.pt_carry.specs.Data.{InRun, IsIn}
use Rattle.pt_carry.specs.inner.Copying.{FailedCopy, HasThose, HeldOr, LeftOr, Took}
use Rattle.pt_carry.specs.declared.error.CarryError.{CarryError}
use Rattle.pt_carry.specs.declared.error.CarryError.TheVariants.{NotLike, Refused, Unread, Device, Differs, Table}
use Rattle.pt_carry.proofs.Runs.{in_more}

pub took_none : (e : Sectors) (S : ℕ → Type 0) (old : Told) → Took e S old old
took_none e S old = record {
  seen_count = refl;
  seen = λ k. inl refl;
  count = refl;
  held = λ k v lt held. inl held;
  more = [];
  past = sym (append-nil old.past);
  inside = λ c none. absurd none;
}

left_on : (e : Sectors) (S : ℕ → Type 0) (old mid : Told) (c : Sectors) → Took e S old mid → LeftOr e S mid c → LeftOr e S old c
left_on e S old mid c a left = record {
  count = left.count ∙ a.count;
  each = λ k lt. ⊎_elim (λ was. a.held k (sector c k) lt was) (λ it. inr it) (left.each k (omega (arith, lt, a.count)));
}

pub took_through : (e : Sectors) (S : ℕ → Type 0) (old mid new : Told) → Took e S old mid → Took e S mid new → Took e S old new
took_through e S old mid new a b = record {
  seen_count = b.seen_count ∙ a.seen_count;
  seen = λ k. ⊎_elim (λ same. ⊎_elim (λ was. inl (same ∙ was)) (λ it. inr (it.0, same ∙ it.1)) (a.seen k)) (λ it. inr it) (b.seen k);
  count = b.count ∙ a.count;
  held = λ k v lt held. ⊎_elim (λ was. a.held k v lt was) (λ it. inr it) (b.held k v (omega (arith, lt, a.count)) held);
  more = a.more ++ b.more;
  past = b.past ∙ ap (λ (l : List Moment). l ++ b.more) a.past ∙ append_assoc old.past a.more b.more;
  inside = λ c left. ⊎_elim (a.inside c) (λ later. left_on e S old mid c a (b.inside c later)) (left_split a.more b.more c left);
}

pub took_wider : (e : Sectors) (S T : ℕ → Type 0) (old new : Told) → ((k : ℕ) → S k → T k) → Took e S old new → Took e T old new
took_wider e S T old new wider a = record {
  seen_count = a.seen_count;
  seen = λ k. ⊎_elim (λ same. inl same) (λ it. inr (wider k it.0, it.1)) (a.seen k);
  count = a.count;
  held = λ k v lt held. ⊎_elim (λ was. inl was) (λ it. inr (wider k it.0, it.1)) (a.held k v lt held);
  more = a.more;
  past = a.past;
  inside = λ c left. let it = a.inside c left in record {
    count = it.count;
    each = λ k lt. ⊎_elim (λ was. inl was) (λ got. inr (wider k got.0, got.1)) (it.each k lt);
  };
}

-- a sector that has what e has keeps it
pub took_keeps : (e : Sectors) (S : ℕ → Type 0) (old new : Told) → Took e S old new → (k : ℕ) → sector old.seen k ≡ sector e k
    → sector new.seen k ≡ sector e k
took_keeps e S old new a k is = ⊎_elim (λ same. same ∙ is) (λ it. it.1) (a.seen k)

-- ## One write.

below_or : (a b : ℕ) → (a < b) ⊎ (b ≤ a)
below_or a b = grind arith

set_past : (d : Sectors) (a k : ℕ) (x : List ℕ) → length d ≤ k → sector (slice_set d a x) k ≡ sector d k
set_past d a k x past =
    let len : length (slice_set d a x) ≡ length d = length-set d a x in
    let after : sector (slice_set d a x) k ≡ [] = past_end (slice_set d a x) k (omega (arith, past, len)) in
    after ∙ sym (past_end d k past)
  where
    past_end : (c : Sectors) (j : ℕ) → length c ≤ j → sector c j ≡ []
    past_end c j le = grind (arith, common_steps)

set_or : (d : Sectors) (a k : ℕ) (x : List ℕ) → (sector (slice_set d a x) k ≡ sector d k) ⊎ ((k ≡ a) × (sector (slice_set d a x) k ≡ x))
set_or d a k x = ⊎_elim (within k) (λ past. inl (set_past d a k x past)) (below_or k (length d))
  where
    within : (j : ℕ) → j < length d → (sector (slice_set d a x) j ≡ sector d j) ⊎ ((j ≡ a) × (sector (slice_set d a x) j ≡ x))
    within j lt = elim (cases_eq a j) [
      | inl same ↦ inr (sym same, grind (arith, common_steps))
      | inr other ↦ inl (grind (arith, common_steps))
    ]

puts_push : (ws : Writes) (a : ℕ) (x : List ℕ) (k : ℕ) (v : List ℕ) → Puts (ws ++ (a, x) ∷ []) k v → Puts ws k v ⊎ ((a ≡ k) × (x ≡ v))
puts_push [] a x k v (inl here) = inr here
puts_push [] a x k v (inr none) = absurd none
puts_push (w ∷ ws) a x k v (inl here) = inl (inl here)
puts_push (w ∷ ws) a x k v (inr there) = ⊎_elim (λ old. inl (inr old)) (λ new. inr new) (puts_push ws a x k v there)

may_take : (e : Sectors) (old new : Told) (a : ℕ) (x : List ℕ) → x ≡ sector e a → TakesWrite old new a x → (k : ℕ) (v : List ℕ)
    → MayHold new.durable new.pending k v → HeldOr e (λ s. s ≡ a) old k v
may_take e old new a x value (inl (durable, pending)) k v (inl is) =
    ⊎_elim
    (λ same. inl (inl (is ∙ ap (λ (d : Sectors). sector d k) durable ∙ same)))
    (λ it. inr (it.0, is ∙ ap (λ (d : Sectors). sector d k) durable ∙ it.1 ∙ value ∙ ap (sector e) (sym it.0)))
    (set_or old.durable a k x)
may_take e old new a x value (inl (durable, pending)) k v (inr puts) =
    inl (inr (subst (λ (p : Writes). Puts p k v) pending puts))
may_take e old new a x value (inr (durable, pending)) k v (inl is) = inl (inl (is ∙ ap (λ (d : Sectors). sector d k) durable))
may_take e old new a x value (inr (durable, pending)) k v (inr puts) =
    ⊎_elim
    (λ was. inl (inr was))
    (λ it. inr (sym it.0, sym it.1 ∙ value ∙ ap (sector e) it.0))
    (puts_push old.pending a x k v (subst (λ (p : Writes). Puts p k v) pending puts))

count_take : (old new : Told) (a : ℕ) (x : List ℕ) → TakesWrite old new a x → length new.durable ≡ length old.durable
count_take old new a x (inl (durable, pending)) = ap length durable ∙ length-set old.durable a x
count_take old new a x (inr (durable, pending)) = ap length durable

once : (e : Sectors) (S : ℕ → Type 0) (old : Told) (c : Sectors) → LeftBy (now_of old ∷ []) c → LeftOr e S old c
once e S old c (inl may) = record { count = may.same_count; each = λ k lt. inl (may.each k lt) }
once e S old c (inr none) = absurd none

seen_set : (e : Sectors) (old new : Told) (a : ℕ) (x : List ℕ) → x ≡ sector e a → new.seen ≡ slice_set old.seen a x → (k : ℕ)
    → (sector new.seen k ≡ sector old.seen k) ⊎ ((k ≡ a) × (sector new.seen k ≡ sector e k))
seen_set e old new a x value seen k =
    let same : sector new.seen k ≡ sector (slice_set old.seen a x) k = ap (λ (d : Sectors). sector d k) seen in
    ⊎_elim (λ kept. inl (same ∙ kept)) (λ it. inr (it.0, same ∙ it.1 ∙ value ∙ ap (sector e) (sym it.0))) (set_or old.seen a k x)

module _ (e : Sectors) (old new : Told) (a : ℕ) (x : List ℕ) (value : x ≡ sector e a) where
  pub took_wrote : Wrote old new a x → Took e (λ s. s ≡ a) old new
  took_wrote wrote = record {
    seen_count = ap length wrote.seen ∙ length-set old.seen a x;
    seen = seen_set e old new a x value wrote.seen;
    count = count_take old new a x wrote.takes;
    held = λ k v lt held. may_take e old new a x value wrote.takes k v held;
    more = now_of old ∷ [];
    past = wrote.time;
    inside = once e (λ s. s ≡ a) old;
  }

  took_pending : new.durable ≡ old.durable → new.pending ≡ old.pending ++ (a, x) ∷ [] → Elapses old new
      → (new.seen ≡ old.seen) ⊎ (new.seen ≡ slice_set old.seen a x) → Took e (λ s. s ≡ a) old new
  took_pending durable pending time (inl seen) = record {
    seen_count = ap length seen;
    seen = λ k. inl (ap (λ (d : Sectors). sector d k) seen);
    count = ap length durable;
    held = λ k v lt held. may_take e old new a x value (inr (durable, pending)) k v held;
    more = now_of old ∷ [];
    past = time;
    inside = once e (λ s. s ≡ a) old;
  }
  took_pending durable pending time (inr seen) = record {
    seen_count = ap length seen ∙ length-set old.seen a x;
    seen = seen_set e old new a x value seen;
    count = ap length durable;
    held = λ k v lt held. may_take e old new a x value (inr (durable, pending)) k v held;
    more = now_of old ∷ [];
    past = time;
    inside = once e (λ s. s ≡ a) old;
  }

  took_nothing : new.durable ≡ old.durable → new.pending ≡ old.pending → Elapses old new → new.seen ≡ old.seen
      → Took e (λ s. s ≡ a) old new
  took_nothing durable pending time seen = record {
    seen_count = ap length seen;
    seen = λ k. inl (ap (λ (d : Sectors). sector d k) seen);
    count = ap length durable;
    held = λ k v lt held. inl (rw (durable, pending) at held);
    more = now_of old ∷ [];
    past = time;
    inside = once e (λ s. s ≡ a) old;
  }

  pub took_failed : FailedWrite old new a x → Took e (λ s. s ≡ a) old new
  took_failed failed = ⊎_elim
      (λ kept. took_nothing failed.durable kept.1 failed.time kept.0)
      (λ kept. took_pending failed.durable kept.1 failed.time kept.0)
      failed.kept

-- ## Step by step. x is what the other disk tells at a step, and e what it told at first.

pub took_on : (x e : Told) (S T : ℕ → Type 0) (old mid new : Told) → x ≡ e → ((k : ℕ) → T k → S k) → Took e.seen S old mid
    → Took x.seen T mid new → Took e.seen S old new
took_on x e S T old mid new same wider a b =
    took_through e.seen S old mid new a
    (took_wider e.seen T S mid new wider (subst (λ (t : Told). Took t.seen T mid new) same b))

pub at_in_run : (run : Extent) (at k : ℕ) → run.first ≤ at → at < run.last + 1 → k ≡ at → InRun run k
at_in_run run at k from to is = (omega (arith, from, is), omega (arith, to, is))

pub sector_done : (x e : Told) (T : ℕ → Type 0) (mid new : Told) (first at : ℕ) → x ≡ e → Took x.seen T mid new
    → ((k : ℕ) → first ≤ k → k < at → sector mid.seen k ≡ sector e.seen k) → sector new.seen at ≡ sector x.seen at
    → (k : ℕ) → first ≤ k → k < at + 1 → sector new.seen k ≡ sector e.seen k
sector_done x e T mid new first at same took before here k from to = elim (cases_eq k at) [
  | inl is ↦ rw is (here ∙ ap (λ (t : Told). sector t.seen at) same)
  | inr other ↦
      took_keeps e.seen T mid new (subst (λ (t : Told). Took t.seen T mid new) same took) k (before k from (omega (arith, to, other)))
]

pub run_done : (x e : Told) (runs : List Extent) (i : ℕ) (run : Extent) (mid new : Told) → i < length runs → run ≡ get_or runs i run
    → x ≡ e → Took x.seen (InRun run) mid new → HasThose e.seen (IsIn (take i runs)) mid.seen → HasThose x.seen (InRun run) new.seen
    → HasThose e.seen (IsIn (take (i + 1) runs)) new.seen
run_done x e runs i run mid new lt is same took before here k within =
    ⊎_elim
    (λ earlier. took_keeps e.seen (InRun run) mid new (subst (λ (t : Told). Took t.seen (InRun run) mid new) same took) k
    (before k earlier))
    (λ it. here k it ∙ ap (λ (t : Told). sector t.seen k) same)
    (in_more runs i run lt is k within)

pub those_on : (x e m d : Told) (S T : ℕ → Type 0) → x ≡ e → m ≡ d → ((k : ℕ) → T k → S k) → HasThose e.seen S d.seen
    → HasThose x.seen T m.seen
those_on x e m d S T same_e same_d wider those k within =
    ap (λ (t : Told). sector t.seen k) same_d ∙ those k (wider k within) ∙ ap (λ (t : Told). sector t.seen k) (sym same_e)

pub failed_wider : (S T : ℕ → Type 0) (e : CarryError) → ((k : ℕ) → S k → T k) → FailedCopy S e → FailedCopy T e
failed_wider S T (NotLike error) wider is = is
failed_wider S T (Refused at why) wider is = is
failed_wider S T (Unread at) wider is = wider at.0 is
failed_wider S T (Device fault) wider is = tt
failed_wider S T (Differs at) wider is = is
failed_wider S T (Table error) wider is = is
