-- What the calls of a disk do to consecutive sectors of it.
use Rattle.std.specs.Prelude.{◌≡◌, ℕ, ◌+◌, ◌-◌, ◌<◌, List, [], ◌∷◌, ◌++◌, length, map, slice_set, Option}
use Rattle.std.proofs.Common.{sym, ap, ◌∙◌, arith, inl, inr, min}
use Rattle.std.specs.List.{cons_option}
use Rattle.std.proofs.lemmas.List.{map-append}
use Rattle.std.proofs.lemmas.List.Elements.{filter_map-append}
use Rattle.jawefon.specs.Sectors.{Sectors, Writes}
use Rattle.jawefon.specs.Device.{Told, Elapses, now_of, Wrote, FailedWrite, Flushed, FailedFlush}
use Rattle.example_disk.specs.Window.{window, moved, writes_in, moment_in, told_in}
use Rattle.example_disk.proofs.WithinLemmas.{moved-in, window-set, hold_out}
use Rattle.example_disk.specs.inner.ForFields.{length-window, hold_in}

module _ (first n : ℕ) where
  one_more : (ws more : Writes) (k : ℕ) (v : List ℕ) → k < n → more ≡ ws ++ (first + k, v) ∷ []
      → writes_in first n more ≡ writes_in first n ws ++ (k, v) ∷ []
  one_more ws more k v lt is =
      ap (writes_in first n) is ∙ filter_map-append (moved first n) ws ((first + k, v) ∷ [])
      ∙ ap (λ (o : Option (ℕ × List ℕ)). writes_in first n ws ++ cons_option o []) (moved-in first n k v lt)

  elapses : (old new : Told) → Elapses old new → Elapses (told_in first n old) (told_in first n new)
  elapses old new passes = ap (map (moment_in first n)) passes ∙ map-append (moment_in first n) old.past (now_of old ∷ [])

  set_in : (now was : Sectors) (k : ℕ) (v : List ℕ) → k < n → now ≡ slice_set was (first + k) v
      → window first n now ≡ slice_set (window first n was) k v
  set_in now was k v lt is = ap (window first n) is ∙ window-set first n was k v lt

  pub wrote_in : (old new : Told) (k : ℕ) (v : List ℕ) → k < n → Wrote old new (first + k) v
      → Wrote (told_in first n old) (told_in first n new) k v
  wrote_in old new k v lt wrote = record {
    seen = set_in new.seen old.seen k v lt wrote.seen;
    takes = elim wrote.takes [
      | inl now ↦ inl (set_in new.durable old.durable k v lt now.0, ap (writes_in first n) now.1)
      | inr later ↦ inr (ap (window first n) later.0, one_more old.pending new.pending k v lt later.1)
    ];
    time = elapses old new wrote.time;
  }

  pub failed_write_in : (old new : Told) (k : ℕ) (v : List ℕ) → k < n → FailedWrite old new (first + k) v
      → FailedWrite (told_in first n old) (told_in first n new) k v
  failed_write_in old new k v lt failed = record {
    durable = ap (window first n) failed.durable;
    kept = elim failed.kept [
      | inl none ↦ inl (ap (window first n) none.0, ap (writes_in first n) none.1)
      | inr (inl as_before, pending) ↦ inr (inl (ap (window first n) as_before), one_more old.pending new.pending k v lt pending)
      | inr (inr as_written, pending) ↦
          inr (inr (set_in new.seen old.seen k v lt as_written), one_more old.pending new.pending k v lt pending)
    ];
    time = elapses old new failed.time;
  }

  pub flushed_in : (old new : Told) → Flushed old new → Flushed (told_in first n old) (told_in first n new)
  flushed_in old new flushed = record {
    seen = ap (window first n) flushed.seen;
    durable = ap (window first n) flushed.durable;
    pending = ap (writes_in first n) flushed.pending;
    time = elapses old new flushed.time;
  }

  pub failed_flush_in : (old new : Told) → FailedFlush old new → FailedFlush (told_in first n old) (told_in first n new)
  failed_flush_in old new failed = record {
    seen = ap (window first n) failed.seen;
    same_count =
        length-window first n new.durable ∙ ap (λ (m : ℕ). min n (m - first)) failed.same_count ∙ sym (length-window first n old.durable);
    no_more = λ k v lt may.
        let within : k < n = omega (arith, lt, length-window first n old.durable) in
        let there : first + k < length old.durable = omega (arith, lt, length-window first n old.durable) in
        hold_in first n old.durable old.pending k v within
        (failed.no_more (first + k) v there (hold_out first n new.durable new.pending k v within may));
    time = elapses old new failed.time;
  }
