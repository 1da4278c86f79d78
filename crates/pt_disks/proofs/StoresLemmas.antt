-- Lemmas on what a store of bytes tells of its content, and what its calls do.
use Rattle.std.specs.Prelude.{◌≡◌, ℕ, ◌+◌, ◌*◌, ◌/◌, ◌<◌, ◌≤◌, List, [], ◌∷◌, ◌++◌, length, slice_set}
use Rattle.std.proofs.Common.{sym, ap, ◌∙◌, arith, inl, inr}
use Rattle.std.proofs.lemmas.List.{map-append}
use Rattle.std.proofs.lemmas.Nat.{div-mul-add}
use Rattle.pt_sector.specs.Sectors.{Writes}
use Rattle.pt_sector.specs.Device.{Wrote, FailedWrite, Flushed, FailedFlush, Elapses}
use Rattle.pt_disks.specs.Stores.{put_at, sectors_of, ByteMoment, ToldBytes, Passes, Put, FailedPut, Synced, writes_of, moments_of}
use Rattle.pt_disks.specs.Stores.{in_sectors, FailedSync}
use Rattle.pt_disks.specs.inner.ForFields.{length-sectors_of}
use Rattle.pt_disks.proofs.BlocksLemmas.{sectors_of-put_at, ends_within, length-put_at}

elapses : (b n : ℕ) (old new : ToldBytes) → Passes old new → Elapses (in_sectors b n old) (in_sectors b n new)
elapses b n old new passes =
    ap (moments_of b n) passes
    ∙ map-append (λ (m : ByteMoment). (sectors_of b n m.0, writes_of b m.1)) old.past ((old.durable, old.pending) ∷ [])

block-of : (b k : ℕ) → 0 < b → (k * b) / b ≡ k
block-of b k pos = let same : k * b + 0 ≡ k * b = omega arith in rw same at (div-mul-add k b 0 pos)

one_more : (b k : ℕ) (v : List ℕ) (ws more : Writes) → 0 < b → more ≡ ws ++ (k * b, v) ∷ []
    → writes_of b more ≡ writes_of b ws ++ (k, v) ∷ []
one_more b k v ws more pos is =
    ap (writes_of b) is ∙ map-append (λ (w : ℕ × List ℕ). (w.0 / b, w.1)) ws ((k * b, v) ∷ [])
    ∙ ap (λ (m : ℕ). writes_of b ws ++ (m, v) ∷ []) (block-of b k pos)

module _ (b n k : ℕ) (v : List ℕ) (old new : ToldBytes) (pos : 0 < b) (lt : k < n) (long : length v ≡ b)
    (whole : n * b ≤ length old.seen) (same_length : length old.durable ≡ length old.seen) where
  set_in : (now was : List ℕ) → n * b ≤ length was → now ≡ put_at (k * b) v was
      → sectors_of b n now ≡ slice_set (sectors_of b n was) k v
  set_in now was fits is =
      let end : k * b + b ≤ n * b = ends_within b n k lt in
      ap (sectors_of b n) is ∙ sectors_of-put_at b n k v was lt long (omega (arith, end, fits))

  durable_fits : n * b ≤ length old.durable
  durable_fits = omega (arith, whole, same_length)

  pub wrote : Put old new (k * b) v → Wrote (in_sectors b n old) (in_sectors b n new) k v
  wrote put = record {
    seen = set_in new.seen old.seen whole put.seen;
    takes = elim put.takes [
      | inl now ↦ inl (set_in new.durable old.durable durable_fits now.0, ap (writes_of b) now.1)
      | inr later ↦ inr (ap (sectors_of b n) later.0, one_more b k v old.pending new.pending pos later.1)
    ];
    time = elapses b n old new put.time;
  }

  pub failed_write : FailedPut old new (k * b) v → FailedWrite (in_sectors b n old) (in_sectors b n new) k v
  failed_write failed = record {
    durable = ap (sectors_of b n) failed.durable;
    kept = elim failed.kept [
      | inl none ↦ inl (ap (sectors_of b n) none.0, ap (writes_of b) none.1)
      | inr (inl as_before, pending) ↦ inr (inl (ap (sectors_of b n) as_before), one_more b k v old.pending new.pending pos pending)
      | inr (inr as_written, pending) ↦
          inr (inr (set_in new.seen old.seen whole as_written), one_more b k v old.pending new.pending pos pending)
    ];
    time = elapses b n old new failed.time;
  }

  put_fits : (now : List ℕ) → now ≡ put_at (k * b) v old.seen → n * b ≤ length now
  put_fits now is =
      let end : k * b + length v ≤ length old.seen = omega (arith, ends_within b n k lt, whole, long) in
      omega (arith, whole, ap length is, length-put_at (k * b) v old.seen end)

  pub whole_put : Put old new (k * b) v → n * b ≤ length new.seen
  whole_put put = put_fits new.seen put.seen

  pub whole_failed : FailedPut old new (k * b) v → n * b ≤ length new.seen
  whole_failed failed = elim failed.kept [
    | inl none ↦ omega (arith, whole, ap length none.0)
    | inr (inl as_before, pending) ↦ omega (arith, whole, ap length as_before)
    | inr (inr as_written, pending) ↦ put_fits new.seen as_written
  ]

pub flushed : (b n : ℕ) (old new : ToldBytes) → Synced old new → Flushed (in_sectors b n old) (in_sectors b n new)
flushed b n old new synced = record {
  seen = ap (sectors_of b n) synced.seen;
  durable = ap (sectors_of b n) synced.durable;
  pending = ap (writes_of b) synced.pending;
  time = elapses b n old new synced.time;
}

pub failed_flush : (b n : ℕ) (old new : ToldBytes) → FailedSync b old new → FailedFlush (in_sectors b n old) (in_sectors b n new)
failed_flush b n old new failed = record {
  seen = ap (sectors_of b n) failed.seen;
  same_count = length-sectors_of b n new.durable ∙ sym (length-sectors_of b n old.durable);
  no_more = λ k v lt may. failed.no_more n k v (rw (length-sectors_of b n old.durable) at lt) may;
  time = elapses b n old new failed.time;
}
