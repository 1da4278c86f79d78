-- The exits of the checker.
use Rattle.std.proofs.Common.{◌≡◌, ◌⊎◌, inl, inr, ℕ, ◌+◌, ◌*◌, ◌<◌, ◌≤◌, List, length, refl, ap, subst, arith, Option, Some, None}
use Rattle.pt_sector.specs.Sectors.{Sectors, Agrees, Writes, after}
use Rattle.pt_recover.specs.Denotes.{Denotes, Reads}
use Rattle.pt_recover.proofs.Terms.{denotes_one_lem, reads_decide_lem}
use Rattle.pt_members.specs.declared.layout.Layout.{Layout}
use Rattle.pt_layout.specs.declared.sound.finding.Finding.{Finding}
use Rattle.pt_layout.specs.Healthy.{IsFinding, Healthy}
use Rattle.pt_layout.proofs.Terms.{finding_excludes_lem}
use Rattle.pt_check.specs.Answers.{Course, IsCalm, switch_number, stage, turn, most_writes, FirstWrite, IsPastLast, ChangesBoot, IsFit}
use Rattle.pt_check.specs.Answers.{Leads, IsStray, IsOwned, Holds, Answers, Promises}
use Rattle.pt_apply.specs.Plans.{writes_in, NoneIs}
use Rattle.pt_check.specs.inner.Answers.{FirstWriteIs, TrialIs, MisplacedIs, concluded}
use Rattle.pt_check.proofs.Finishing.{WrongIs}
use Rattle.pt_sector.specs.declared.address.Lba.{Lba}
use Rattle.pt_check.proofs.Accepted.{is_switch}
use Rattle.pt_members.specs.Tables.{OwnedOf, TableOf}
use Rattle.pt_check.specs.declared.answer.Why.{Why}
use Rattle.pt_check.specs.declared.answer.Why.TheVariants.{TooManyWrites, OutOfRange, BootCode, ReadSector, Neither, NotATable, Owned}
use Rattle.pt_check.specs.declared.answer.Why.TheVariants.{Final}
use Rattle.pt_check.specs.declared.answer.Answer.TheVariants.{No, Yes}
use Rattle.pt_check.specs.declared.writes.Found.{Found}
use Rattle.pt_check.specs.declared.trial.Trial.{Trial}
use Rattle.pt_check.specs.declared.trial.Trial.TheVariants.{Passed, Refused}
use Rattle.pt_check.proofs.Answering.{Known, known_writes, known_phase, known_all, cleared, safe}
use Rattle.pt_check.proofs.Firsts.{first_sector}

-- who agrees on what is read denotes the same
decide : (b : ℕ) (c x : Sectors) → Agrees (Reads b x) c x → (o : Option Layout) → Denotes b x o → Denotes b c o
decide b c x agrees o is = ((reads_decide_lem b c x agrees).denotes o).1 is

last_stage : (v : Why) → stage v < 7
last_stage TooManyWrites = omega arith
last_stage (OutOfRange n) = omega arith
last_stage (BootCode n) = omega arith
last_stage (ReadSector p lba) = omega arith
last_stage (Neither p) = omega arith
last_stage (NotATable lba) = omega arith
last_stage (Owned lba) = omega arith
last_stage (Final f) = omega arith

module _ (b : ℕ) (d : Sectors) (phases : List Writes) where
  abbrev So : ℕ → ℕ → Type 0
  So n t = Known (Denotes b) (Reads b) (TableOf b) (OwnedOf b) (IsFinding b) (denotes_one_lem b) d phases n t

  none_before : (n t : ℕ) → (t ≡ 0) ⊎ (n ≡ 3) → So n t → (v : Why) → (stage v < n) ⊎ ((stage v ≡ n) × (turn v < t))
      → ¬ Holds (Denotes b) (Reads b) (TableOf b) (OwnedOf b) (IsFinding b) d phases v
  none_before n t turns known v before =
      cleared (Denotes b) (Reads b) (TableOf b) (OwnedOf b) (IsFinding b) (denotes_one_lem b) d phases n t turns known v before

  so_far : (n : ℕ) → n ≤ 3 → (0 < n → length (writes_in phases) ≤ most_writes) → (1 < n → NoneIs (IsPastLast d) (writes_in phases))
      → (2 < n → NoneIs (ChangesBoot d) (writes_in phases)) → So n 0
  so_far n le few inside boot =
      known_writes (Denotes b) (Reads b) (TableOf b) (OwnedOf b) (IsFinding b) (denotes_one_lem b) d phases n le few inside boot

  pub too_many : most_writes < length (writes_in phases) → Answers b d phases (No TooManyWrites)
  too_many many = (
    many,
    none_before 0 0 (inl refl)
        (so_far 0 (omega arith) (λ lt. absurd (omega (arith, lt))) (λ lt. absurd (omega (arith, lt))) (λ lt. absurd (omega (arith, lt)))),
  )

  pub outside : (n : ℕ) → length (writes_in phases) ≤ most_writes → FirstWrite phases (IsPastLast d) n
      → Answers b d phases (No (OutOfRange n))
  outside n few first = (
    first,
    none_before 1 0 (inl refl)
        (so_far 1 (omega arith) (λ lt. few) (λ lt. absurd (omega (arith, lt))) (λ lt. absurd (omega (arith, lt)))),
  )

  pub boot : (n : ℕ) → length (writes_in phases) ≤ most_writes → NoneIs (IsPastLast d) (writes_in phases)
      → FirstWrite phases (ChangesBoot d) n → Answers b d phases (No (BootCode n))
  boot n few inside first =
      (first, none_before 2 0 (inl refl) (so_far 2 (omega arith) (λ lt. few) (λ lt. inside) (λ lt. absurd (omega (arith, lt)))))

  module _ (fit : IsFit d phases) (old new : Option Layout) (leads : Leads (Denotes b) d phases old new) where
    in_phase : (i : ℕ) (switch : Option ℕ) → Course (Denotes b) (Reads b) phases d old new i switch → (t : ℕ)
        → (t ≡ 2 * (i + 1)) ⊎ ((t ≡ 2 * (i + 1) + 1) × IsCalm (Denotes b) (Reads b) phases d i) → So 3 t
    in_phase i switch course t turns =
        known_phase (Denotes b) (Reads b) (TableOf b) (OwnedOf b) (IsFinding b)
        (denotes_one_lem b) d phases fit.few fit.inside fit.boot old new leads i switch course t turns

    refused : (w : Why) → TrialIs (Denotes b) (Reads b) phases d old new (Refused w) → Answers b d phases (No w)
    refused (ReadSector p lba) r =
        (r.why, none_before 3 (2 * p) (inr refl) (in_phase r.why.i r.switch r.course (2 * p) (inl (ap (λ (n : ℕ). 2 * n) r.why.number))))
    refused (Neither p) r = (
      record { old = old; new = new; leads = leads; i = r.i; number = r.number; below = r.below; neither = r.neither },
      none_before 3 (2 * p + 1) (inr refl) (in_phase r.i r.switch r.course (2 * p + 1) (inr (ap (λ (n : ℕ). 2 * n + 1) r.number, r.calm))),
    )
    refused TooManyWrites r = absurd r
    refused (OutOfRange n) r = absurd r
    refused (BootCode n) r = absurd r
    refused (NotATable lba) r = absurd r
    refused (Owned lba) r = absurd r
    refused (Final f) r = absurd r

    module _ (switch : Option ℕ) (course : Course (Denotes b) (Reads b) phases d old new (length phases) switch) where
      abbrev NoStray : Type 0
      NoStray = NoneIs (IsStray (Denotes b) (Reads b) (TableOf b) (OwnedOf b) (IsFinding b) d phases old new) (writes_in phases)

      abbrev NoOwned : Type 0
      NoOwned = NoneIs (IsOwned (Denotes b) (Reads b) (TableOf b) (OwnedOf b) (IsFinding b) d phases old new) (writes_in phases)

      past_phases : (n : ℕ) → 3 < n → (4 < n → NoStray) → (5 < n → NoOwned) → (6 < n → (f : Finding) → ¬ IsFinding b (after phases d) f)
          → So n 0
      past_phases n gt stray no_owned final =
          known_all (Denotes b) (Reads b) (TableOf b) (OwnedOf b) (IsFinding b)
          (denotes_one_lem b) d phases fit.few fit.inside fit.boot old new leads switch course n gt stray no_owned final

      pub stray : (f : Found)
          → FirstWriteIs (IsStray (Denotes b) (Reads b) (TableOf b) (OwnedOf b) (IsFinding b) d phases old new) (writes_in phases) (Some f)
          → Answers b d phases (No (NotATable f.lba))
      stray f first = (
        (
          old,
          new,
          leads,
          first_sector phases
              (IsStray (Denotes b) (Reads b) (TableOf b) (OwnedOf b) (IsFinding b) d phases old new) f first,
        ),
        none_before 4 0 (inl refl)
            (past_phases 4 (omega arith) (λ lt. absurd (omega (arith, lt))) (λ lt. absurd (omega (arith, lt)))
            (λ lt. absurd (omega (arith, lt)))),
      )

      module _ (no_stray : NoStray) where
        pub owned : (f : Found)
            → FirstWriteIs (IsOwned (Denotes b) (Reads b) (TableOf b) (OwnedOf b) (IsFinding b) d phases old new) (writes_in phases)
            (Some f)
            → Answers b d phases (No (Owned f.lba))
        owned f first = (
          (
            old,
            new,
            leads,
            first_sector phases
                (IsOwned (Denotes b) (Reads b) (TableOf b) (OwnedOf b) (IsFinding b) d phases old new) f first,
          ),
          none_before 5 0 (inl refl)
              (past_phases 5 (omega arith) (λ lt. no_stray) (λ lt. absurd (omega (arith, lt))) (λ lt. absurd (omega (arith, lt)))),
        )

        module _ (no_owned : NoOwned) where
          final : (f : Finding) → WrongIs b (after phases d) (Some f) → Answers b d phases (No (Final f))
          final f wrong = (
            wrong,
            none_before 6 0 (inl refl)
                (past_phases 6 (omega arith) (λ lt. no_stray) (λ lt. no_owned) (λ lt. absurd (omega (arith, lt)))),
          )

          yes : WrongIs b (after phases d) None → Answers b d phases (Yes (switch_number switch))
          yes well = (
            (λ v. none_before 7 0 (inl refl)
                (past_phases 7 (omega arith) (λ lt. no_stray) (λ lt. no_owned)
                (λ lt f is. finding_excludes_lem b (after phases d) f is well)) v (inl (last_stage v))),
            is_switch (Denotes b) (Reads b) (denotes_one_lem b) phases d old new leads switch course.layouts,
          )

          promised : WrongIs b (after phases d) None → Promises b d phases (Yes (switch_number switch))
          promised well =
              safe (Denotes b) (Reads b) (TableOf b) (OwnedOf b) (IsFinding b)
              (denotes_one_lem b) d phases fit.few fit.inside fit.boot old new leads switch course
              (decide b) (Healthy b) well no_stray no_owned

      -- a write in the wrong place
      misplaced_no : (w : Why) → MisplacedIs b (writes_in phases) old new (Some w) → Answers b d phases (No w)
      misplaced_no (NotATable lba) (f, is, first) = subst (λ (x : Lba). Answers b d phases (No (NotATable x))) is (stray f first)
      misplaced_no (Owned lba) (no_stray, (f, is, first)) =
          subst (λ (x : Lba). Answers b d phases (No (Owned x))) is (owned no_stray f first)
      misplaced_no TooManyWrites is = absurd is
      misplaced_no (OutOfRange n) is = absurd is
      misplaced_no (BootCode n) is = absurd is
      misplaced_no (ReadSector p lba) is = absurd is
      misplaced_no (Neither p) is = absurd is
      misplaced_no (Final f) is = absurd is

    pub concluding : (t : Trial) (m : Option Why) (f : Option Finding) → TrialIs (Denotes b) (Reads b) phases d old new t
        → MisplacedIs b (writes_in phases) old new m → WrongIs b (after phases d) f
        → Answers b d phases (concluded t m f) × Promises b d phases (concluded t m f)
    concluding (Refused w) m f tried misplaced wrong = (refused w tried, tt)
    concluding (Passed switch) (Some w) f course misplaced wrong = (misplaced_no switch course w misplaced, tt)
    concluding (Passed switch) None (Some f) course misplaced wrong = (final switch course misplaced.0 misplaced.1 f wrong, tt)
    concluding (Passed switch) None None course misplaced wrong =
        (yes switch course misplaced.0 misplaced.1 wrong, promised switch course misplaced.0 misplaced.1 wrong)
