-- From what was found out to the answer and its promise.
use Rattle.std.proofs.Common.{◌≡◌, ◌∙◌, ◌⊎◌, inl, inr, ⊎_elim, ℕ, ◌+◌, ◌*◌, ◌<◌, ◌≤◌, List, length, subst, arith, Option}
use Rattle.std.specs.Prelude.{◌↔◌}
use Rattle.std.proofs.lemmas.Bool.{cases_lt}
use Rattle.pt_sector.specs.Sectors.{Sectors, Agrees, Writes, after}
use Rattle.pt_layout.specs.declared.sound.finding.Finding.{Finding}
use Rattle.pt_apply.specs.Plans.{Safe, Keeps, Switches, writes_in, NoneIs}
use Rattle.pt_check.proofs.Accepted.{no_read, no_neither, same_or, most_or}
use Rattle.pt_check.specs.Answers.{IsCalm, Course, switch_number, stage, turn, most_writes, FirstWrite, FirstSector, IsPastLast}
use Rattle.pt_check.specs.Answers.{ChangesBoot, ReadsSector, Leads, GivesNeither, IsStray, IsOwned, Holds}
use Rattle.pt_check.specs.declared.answer.Why.{Why}
use Rattle.pt_check.specs.declared.answer.Why.TheVariants.{TooManyWrites, OutOfRange, BootCode, ReadSector, Neither, NotATable, Owned}
use Rattle.pt_check.specs.declared.answer.Why.TheVariants.{Final}
use Rattle.pt_check.proofs.Heart.{stops}
use Rattle.pt_check.proofs.Keeping.{keeps}

-- What is known of a plan when the reasons before a stage, or before a turn in the stage of the phases, were looked for.
module _ {L : Type 0} (denotes : Sectors → Option L → Type 0) (reads : Sectors → ℕ → Type 0) (table owned : Option L → ℕ → Type 0)
    (finds : Sectors → Finding → Type 0) (one : (x : Sectors) (o p : Option L) → denotes x o → denotes x p → o ≡ p) (d : Sectors)
    (phases : List Writes) where
  pub record Known (n t : ℕ) : Type 0 where
    pub few : 0 < n → length (writes_in phases) ≤ most_writes
    pub inside : 1 < n → NoneIs (IsPastLast d) (writes_in phases)
    pub boot : 2 < n → NoneIs (ChangesBoot d) (writes_in phases)
    pub read : (p lba : ℕ) → (3 < n) ⊎ ((3 ≡ n) × (2 * p < t)) → ¬ ReadsSector reads d phases p lba
    pub neither : (p : ℕ) → (3 < n) ⊎ ((3 ≡ n) × (2 * p + 1 < t)) → ¬ GivesNeither denotes d phases p
    pub stray : 4 < n → (old new : Option L) → Leads denotes d phases old new
        → NoneIs (IsStray denotes reads table owned finds d phases old new) (writes_in phases)
    pub owned_one : 5 < n → (old new : Option L) → Leads denotes d phases old new
        → NoneIs (IsOwned denotes reads table owned finds d phases old new) (writes_in phases)
    pub final : 6 < n → (f : Finding) → ¬ finds (after phases d) f

  no_first : (P : ℕ × List ℕ → Type 0) (n : ℕ) → NoneIs P (writes_in phases) → ¬ FirstWrite phases P n
  no_first P n nothing = λ h. nothing h.at h.write h.first.at h.first.is

  no_sector : (P : ℕ × List ℕ → Type 0) (lba : ℕ) → NoneIs P (writes_in phases) → ¬ FirstSector phases P lba
  no_sector P lba nothing = λ h. nothing h.at h.write h.first.at h.first.is

  -- only the phases have turns
  stage_below : (a n t : ℕ) → (t ≡ 0) ⊎ (n ≡ 3) → (a ≡ 3 → ⊥) → (a < n) ⊎ ((a ≡ n) × (0 < t)) → a < n
  stage_below a n t turns other (inl lt) = lt
  stage_below a n t (inl none) other (inr (same, lt)) = absurd (omega (arith, lt, none))
  stage_below a n t (inr three) other (inr (same, lt)) = absurd (other (same ∙ three))

  pub cleared : (n t : ℕ) → (t ≡ 0) ⊎ (n ≡ 3) → Known n t → (v : Why) → (stage v < n) ⊎ ((stage v ≡ n) × (turn v < t))
      → ¬ Holds denotes reads table owned finds d phases v
  cleared n t turns known TooManyWrites before =
      λ many. absurd (omega (arith, many, known.few (stage_below 0 n t turns (λ is. absurd (omega (arith, is))) before)))
  cleared n t turns known (OutOfRange k) before =
      no_first (IsPastLast d) k (known.inside (stage_below 1 n t turns (λ is. absurd (omega (arith, is))) before))
  cleared n t turns known (BootCode k) before =
      no_first (ChangesBoot d) k (known.boot (stage_below 2 n t turns (λ is. absurd (omega (arith, is))) before))
  cleared n t turns known (ReadSector p lba) before = known.read p lba.0 before
  cleared n t turns known (Neither p) before = known.neither p before
  cleared n t turns known (NotATable lba) before =
      λ h. no_sector (IsStray denotes reads table owned finds d phases h.0 h.1) lba.0
      (known.stray (stage_below 4 n t turns (λ is. absurd (omega (arith, is))) before) h.0 h.1 h.2) h.3
  cleared n t turns known (Owned lba) before =
      λ h. no_sector (IsOwned denotes reads table owned finds d phases h.0 h.1) lba.0
      (known.owned_one (stage_below 5 n t turns (λ is. absurd (omega (arith, is))) before) h.0 h.1 h.2) h.3
  cleared n t turns known (Final f) before = known.final (stage_below 6 n t turns (λ is. absurd (omega (arith, is))) before) f

  -- before the phases
  pub known_writes : (n : ℕ) → n ≤ 3 → (0 < n → length (writes_in phases) ≤ most_writes)
      → (1 < n → NoneIs (IsPastLast d) (writes_in phases)) → (2 < n → NoneIs (ChangesBoot d) (writes_in phases)) → Known n 0
  known_writes n le few inside boot = record {
    few = few;
    inside = inside;
    boot = boot;
    read = λ p lba before. absurd (⊎_elim (λ lt. omega (arith, le, lt)) (λ b. omega (arith, b.1)) before);
    neither = λ p before. absurd (⊎_elim (λ lt. omega (arith, le, lt)) (λ b. omega (arith, b.1)) before);
    stray = λ lt. absurd (omega (arith, le, lt));
    owned_one = λ lt. absurd (omega (arith, le, lt));
    final = λ lt. absurd (omega (arith, le, lt));
  }

  module _ (few : length (writes_in phases) ≤ most_writes) (inside : NoneIs (IsPastLast d) (writes_in phases))
      (boot : NoneIs (ChangesBoot d) (writes_in phases))
      (old new : Option L) (leads : Leads denotes d phases old new) where
    -- in the phases: i were passed, and at the second turn phase i is calm
    pub known_phase : (i : ℕ) (switch : Option ℕ) → Course denotes reads phases d old new i switch → (t : ℕ)
        → (t ≡ 2 * (i + 1)) ⊎ ((t ≡ 2 * (i + 1) + 1) × IsCalm denotes reads phases d i) → Known 3 t
    known_phase i switch course t turns = record {
      few = λ lt. few;
      inside = λ lt. inside;
      boot = λ lt. boot;
      read = λ p lba before. ⊎_elim (λ lt. absurd (omega (arith, lt)))
          (λ b r. no_read denotes reads one phases d p lba r (calm_at p lba r b.1 turns)) before;
      neither = λ p before. ⊎_elim (λ lt. absurd (omega (arith, lt)))
          (λ b g. no_neither denotes reads one phases d old new leads i switch course.layouts p g (passed p g b.1 turns)) before;
      stray = λ lt. absurd (omega (arith, lt));
      owned_one = λ lt. absurd (omega (arith, lt));
      final = λ lt. absurd (omega (arith, lt));
    }
      where
        calm_at : (p lba : ℕ) (r : ReadsSector reads d phases p lba) → 2 * p < t
            → (t ≡ 2 * (i + 1)) ⊎ ((t ≡ 2 * (i + 1) + 1) × IsCalm denotes reads phases d i) → IsCalm denotes reads phases d r.i
        calm_at p lba r lt (inl is) = course.calm r.i (omega (arith, lt, is, r.number))
        calm_at p lba r lt (inr (is, calm)) = ⊎_elim
            (λ less. course.calm r.i less)
            (λ past. subst (IsCalm denotes reads phases d) (let same : i ≡ r.i = omega (arith, past, lt, is, r.number) in same) calm)
            (cases_lt r.i i)

        passed : (p : ℕ) (g : GivesNeither denotes d phases p) → 2 * p + 1 < t
            → (t ≡ 2 * (i + 1)) ⊎ ((t ≡ 2 * (i + 1) + 1) × IsCalm denotes reads phases d i) → g.i < i
        passed p g lt (inl is) = omega (arith, lt, is, g.number)
        passed p g lt (inr (is, calm)) = omega (arith, lt, is, g.number)

    module _ (switch : Option ℕ) (course : Course denotes reads phases d old new (length phases) switch) where
      -- after the phases
      pub known_all : (n : ℕ) → 3 < n → (4 < n → NoneIs (IsStray denotes reads table owned finds d phases old new) (writes_in phases))
          → (5 < n → NoneIs (IsOwned denotes reads table owned finds d phases old new) (writes_in phases))
          → (6 < n → (f : Finding) → ¬ finds (after phases d) f) → Known n 0
      known_all n gt stray no_owned final = record {
        few = λ lt. few;
        inside = λ lt. inside;
        boot = λ lt. boot;
        read = λ p lba before r. no_read denotes reads one phases d p lba r (course.calm r.i r.below);
        neither = λ p before g. no_neither denotes reads one phases d old new leads (length phases) switch course.layouts p g g.below;
        stray = λ lt o p to. along (λ x y. NoneIs (IsStray denotes reads table owned finds d phases x y) (writes_in phases)) o p to
            (stray lt);
        owned_one = λ lt o p to. along (λ x y. NoneIs (IsOwned denotes reads table owned finds d phases x y) (writes_in phases)) o p to
            (no_owned lt);
        final = final;
      }
        where
          along : (P : Option L → Option L → Type 0) (o p : Option L) → Leads denotes d phases o p → P old new → P o p
          along P o p to it =
              subst (λ (x : Option L). P x p) (one d old o leads.from to.from)
              (subst (λ (y : Option L). P old y) (one (after phases d) new p leads.to to.to) it)

      -- the promise
      pub safe : (decide : (c x : Sectors) → Agrees (reads x) c x → (o : Option L) → denotes x o → denotes c o) (healthy : Sectors → Type 0)
          → healthy (after phases d)
          → NoneIs (IsStray denotes reads table owned finds d phases old new) (writes_in phases)
          → NoneIs (IsOwned denotes reads table owned finds d phases old new) (writes_in phases)
          → Safe denotes healthy table owned phases d (switch_number switch)
      safe decide healthy well stray no_owned = record {
        which = λ o p from to i le c stop. along (λ x y. Switches (denotes c) x y (switch_number switch) (i + 1)) o p from to
            (stops denotes reads decide phases d old new course.calm leads.to one switch course.layouts i le c stop);
        stays = λ o p from to i le c stop. along (λ x y. Keeps denotes healthy table owned x y d c) o p from to
            (keeps denotes healthy reads table owned finds phases d old new stray no_owned boot i c stop);
        within = most_or denotes reads one phases d old new leads switch course.layouts;
        none = λ o p from to. along (λ x y. (switch_number switch ≡ 0) ↔ (x ≡ y)) o p from to
            (same_or denotes reads one phases d old new leads switch course.layouts);
        well = well;
      }
        where
          along : (P : Option L → Option L → Type 0) (o p : Option L) → denotes d o → denotes (after phases d) p → P old new → P o p
          along P o p from to it =
              subst (λ (x : Option L). P x p) (one d old o leads.from from)
              (subst (λ (y : Option L). P old y) (one (after phases d) new p leads.to to) it)
