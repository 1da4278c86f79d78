-- What each call on a disk that stops and fails does to what it tells.
use Rattle.std.proofs.Common.{◌≡◌, ◌∙◌, ◌⊎◌, ℕ, List, [], ◌∷◌, ◌++◌, Bool, true, false, cond, refl, ap, inl, inr, subst, sym}
use Rattle.std.proofs.lemmas.List.{map-append}
use Rattle.pt_sector.specs.Sectors.{Sectors}
use Rattle.pt_sector.specs.Device.{Wrote, FailedWrite, Flushed, FailedFlush}
use Rattle.pt_disks.specs.Memory.{reading, pending_writes}
use Rattle.pt_disks.proofs.Reading.{reading-push}
use Rattle.pt_disks.specs.Stops.{crash_told}
use Rattle.pt_disks.proofs.CrashLemmas.{moments_on}
use Rattle.pt_disks.specs.declared.in_memory.cache.Pending.{Pending}
use Rattle.pt_disks.specs.declared.in_memory.cache.WriteCache.{WriteCache}

module _ {b : _} (old : WriteCache b) (past later : List (WriteCache b)) (is : later ≡ past ++ old ∷ []) where
  pub no_room : (k : ℕ) (v : List ℕ) → FailedWrite (crash_told old past) (crash_told old later) k v
  no_room k v = record { durable = refl; kept = inl (refl, refl); time = moments_on old past later is }

  pub not_flushed : FailedFlush (crash_told old past) (crash_told old later)
  not_flushed = record { seen = refl; same_count = refl; no_more = λ k v lt may. may; time = moments_on old past later is }

  pub flushed : (new : WriteCache b) → new.durable.items ≡ reading old.pending.items old.durable.items → new.pending.items ≡ []
      → Flushed (crash_told old past) (crash_told new later)
  flushed new durable pending = record {
    seen = rw pending durable;
    durable = durable;
    pending = ap pending_writes pending;
    time = moments_on old past later is;
  }

  module _ (new : WriteCache b) (p : Pending b) (durable : new.durable.items ≡ old.durable.items)
      (pending : new.pending.items ≡ old.pending.items ++ p ∷ []) where
    pub seen_after : reading new.pending.items new.durable.items ≡ cond p.reads
        (Rattle.std.proofs.Common.slice_set (reading old.pending.items old.durable.items) p.lba.0 p.bytes)
        (reading old.pending.items old.durable.items)
    seen_after = rw (durable, pending) (reading-push old.pending.items p old.durable.items)

    pending_after : pending_writes new.pending.items ≡ pending_writes old.pending.items ++ (p.lba.0, p.bytes) ∷ []
    pending_after = ap pending_writes pending ∙ map-append (λ (q : Pending b). (q.lba.0, q.bytes)) old.pending.items (p ∷ [])

    pub took : p.reads ≡ true → Wrote (crash_told old past) (crash_told new later) p.lba.0 p.bytes
    took reads = record {
      seen = rw reads at seen_after;
      takes = inr (durable, pending_after);
      time = moments_on old past later is;
    }

    one_or_other : (r : Bool) (x y : Sectors) → (cond r x y ≡ y) ⊎ (cond r x y ≡ x)
    one_or_other true x y = inr refl
    one_or_other false x y = inl refl

    pub failed : FailedWrite (crash_told old past) (crash_told new later) p.lba.0 p.bytes
    failed = record {
      durable = durable;
      kept = inr (rw seen_after (one_or_other p.reads _ _), pending_after);
      time = moments_on old past later is;
    }
