-- A disk after which no phase writes a sector that recovery of the finished disk reads.
use Rattle.std.proofs.Common.{◌≡◌, ◌∙◌, ℕ, zero, suc, ◌+◌, ◌-◌, ◌<◌, ◌≤◌, List, length, take, refl, sym, ap, subst, arith, Option, None}
use Rattle.std.proofs.lemmas.List.{take_all}
use Rattle.pt_sector.specs.Sectors.{Sectors, sector, Writes, Puts, written, after}
use Rattle.pt_sector.proofs.Written.{stopped_written, length-after}
use Rattle.pt_members.specs.declared.layout.Layout.{Layout}
use Rattle.pt_recover.specs.Denotes.{Denotes, Reads, SameMeaning}
use Rattle.pt_recover.proofs.Terms.{reads_decide_lem}
use Rattle.pt_recover.specs.Spans.{IsIn}
use Rattle.pt_recover.specs.declared.trace.TracedRun.{TracedRun}
use Rattle.pt_check.specs.Answers.{phase_at, disk_after, Course}
use Rattle.pt_check.specs.inner.Answers.{IsKnown, SettlesFrom, TouchedIs, LastIs, TrialIs, RefusedNeither}
use Rattle.pt_check.specs.declared.trial.Trial.{Trial}
use Rattle.pt_check.specs.declared.trial.Trial.TheVariants.{Refused, Passed}
use Rattle.pt_check.specs.declared.answer.Why.TheVariants.{TooManyWrites, OutOfRange, BootCode, ReadSector, Neither, NotATable, Owned}
use Rattle.pt_check.specs.declared.answer.Why.TheVariants.{Final}
use Rattle.pt_check.proofs.Firsts.{seen_on}
use Rattle.pt_check.proofs.Keeping.{none_puts, on_stop}
use Rattle.pt_check.proofs.Trying.{Reading, course_on, refused_neither}
use Rattle.pt_check.proofs.Quiet.{passed_quiet}

module _ (phases : List Writes) (d : Sectors) where
  -- a phase keeps a sector that it doesn't write
  kept_by : (m : ℕ) → m < length phases → (s : ℕ) → ((v : List ℕ) → ¬ Puts (phase_at phases m) s v)
      → sector (disk_after phases d (m + 1)) s ≡ sector (disk_after phases d m) s
  kept_by m lt s none = subst (λ (x : Sectors). sector x s ≡ sector (disk_after phases d m) s)
      (seen_on phases d m (phase_at phases m) (disk_after phases d m) (written (phase_at phases m) (disk_after phases d m)) lt refl refl
      refl)
      (on_stop (λ v. v ≡ sector (disk_after phases d m) s) s (disk_after phases d m) (phase_at phases m)
      (written (phase_at phases m) (disk_after phases d m)) (stopped_written (phase_at phases m) (disk_after phases d m)) refl
      (λ v put. absurd (none v put)))

  kept_to_end : (runs : List TracedRun) (n m : ℕ) → m + n ≡ length phases → SettlesFrom (IsIn runs) phases m → (s : ℕ) → IsIn runs s
      → sector (disk_after phases d m) s ≡ sector (after phases d) s
  kept_to_end runs zero m all settles s is_in =
      let whole : take m phases ≡ phases = take_all m phases (omega (arith, all)) in
      ap (λ (ps : List Writes). sector (after ps d) s) whole
  kept_to_end runs (suc n) m all settles s is_in =
      sym (kept_by m (omega (arith, all)) s (λ v put. none_puts (λ (w : ℕ × List ℕ). IsIn runs w.0) (phase_at phases m)
      (settles m (omega arith) (omega (arith, all))) s v put is_in))
      ∙ kept_to_end runs n (m + 1) (omega (arith, all)) (λ j ge lt. settles j (omega (arith, ge)) lt) s is_in

module _ (b : ℕ) (phases : List Writes) (d : Sectors) (new : Option Layout) (runs : List TracedRun)
    (is : IsKnown b (after phases d) new runs) where
  module _ (m : ℕ) (most : m ≤ length phases) (settles : SettlesFrom (IsIn runs) phases m) where
    means_end : SameMeaning b (disk_after phases d m) (after phases d)
    means_end = reads_decide_lem b (disk_after phases d m) (after phases d) (record {
      count = length-after (take m phases) d ∙ sym (length-after phases d);
      each = λ s read. let left : (n : ℕ) × (m + n ≡ length phases) = (length phases - m, omega (arith, most)) in
          kept_to_end phases d runs left.0 m left.1 settles s ((is.reads s).1 read);
    })

    pub denotes_new : Denotes b (disk_after phases d m) new
    denotes_new = (means_end.denotes new).1 is.denotes

    pub reading_end : Reading (Reads b) (disk_after phases d m) runs
    reading_end = record {
      same = λ s. (λ here. (means_end.reads s).1 ((is.reads s).0 here), λ read. (is.reads s).1 ((means_end.reads s).0 read));
    }

  -- the later phases change nothing
  passed_to_end : (old : Option Layout) (switch : Option ℕ) (n m : ℕ) → m + n ≡ length phases → SettlesFrom (IsIn runs) phases m
      → Course (Denotes b) (Reads b) phases d old new m switch → Course (Denotes b) (Reads b) phases d old new (length phases) switch
  passed_to_end old switch zero m all settles course =
      subst (λ (k : ℕ). Course (Denotes b) (Reads b) phases d old new k switch)
      (let same : m ≡ length phases = omega (arith, all) in same) course
  passed_to_end old switch (suc n) m all settles course =
      passed_to_end old switch n (m + 1) (omega (arith, all)) (λ j ge lt. settles j (omega (arith, ge)) lt)
      (passed_quiet b phases d m (omega (arith, all)) runs (reading_end m (omega (arith, all)) settles)
      (settles m (omega arith) (omega (arith, all))) old new switch course)

  pub settled_trial : (one : (x : Sectors) (o p : Option Layout) → Denotes b x o → Denotes b x p → o ≡ p) (old : Option Layout) (i : ℕ)
      → i < length phases → (before : List TracedRun) → Reading (Reads b) (disk_after phases d i) before → (switch : Option ℕ)
      → Course (Denotes b) (Reads b) phases d old new i switch → TouchedIs (IsIn before) (phase_at phases i) None
      → SettlesFrom (IsIn runs) phases (i + 1) → (t : Trial) → LastIs old new switch (i + 1) t
      → TrialIs (Denotes b) (Reads b) phases d old new t
  settled_trial one old i below before reading switch course touched settles (Passed t) step =
      passed_to_end old t (length phases - (i + 1)) (i + 1) (omega (arith, below)) settles
      (course_on (Denotes b) (Reads b) phases d old new i below before reading switch course touched new
      (denotes_new (i + 1) (omega (arith, below)) settles) t step)
  settled_trial one old i below before reading switch course touched settles (Refused (Neither p)) (same, step) =
      subst (λ (n : ℕ). RefusedNeither (Denotes b) (Reads b) phases d old new n) (sym same)
      (refused_neither (Denotes b) (Reads b) phases d old new i below before reading switch course touched new
      (denotes_new (i + 1) (omega (arith, below)) settles) one step)
  settled_trial one old i below before reading switch course touched settles (Refused TooManyWrites) step = absurd step
  settled_trial one old i below before reading switch course touched settles (Refused (OutOfRange n)) step = absurd step
  settled_trial one old i below before reading switch course touched settles (Refused (BootCode n)) step = absurd step
  settled_trial one old i below before reading switch course touched settles (Refused (ReadSector p lba)) step = absurd step
  settled_trial one old i below before reading switch course touched settles (Refused (NotATable lba)) step = absurd step
  settled_trial one old i below before reading switch course touched settles (Refused (Owned lba)) step = absurd step
  settled_trial one old i below before reading switch course touched settles (Refused (Final f)) step = absurd step
