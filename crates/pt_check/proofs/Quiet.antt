-- A phase that writes nothing that is read, and the last phase.
use Rattle.std.proofs.Common.{◌≡◌, inl, inr, ⊎_elim, ℕ, zero, suc, ◌+◌, ◌<◌, ◌≤◌, List, [], ◌∷◌, length, refl, sym, subst, arith}
use Rattle.std.proofs.Common.{Option, Some, None}
use Rattle.std.specs.Prelude.{slice_get}
use Rattle.std.proofs.lemmas.Bool.{cases_lt}
use Rattle.pt_sector.specs.Sectors.{Sectors, sector, Writes, Stopped, written}
use Rattle.pt_sector.proofs.Written.{stopped_written}
use Rattle.pt_sector.specs.inner.ForFields.{length-written}
use Rattle.pt_apply.specs.Plans.{NoneIs}
use Rattle.pt_recover.specs.Denotes.{Denotes, Reads, SameMeaning, LeavesReads}
use Rattle.pt_recover.proofs.Terms.{stop_keeps_lem, denotes_one_lem}
use Rattle.pt_recover.proofs.SameReads.{alike_meaning}
use Rattle.pt_recover.proofs.Roles.{alike_equal}
use Rattle.pt_recover.specs.Alike.{IsAlike, ReadsAlike}
use Rattle.pt_recover.specs.Spans.{IsIn}
use Rattle.pt_recover.specs.declared.trace.TracedRun.{TracedRun}
use Rattle.pt_check.specs.Answers.{phase_at, disk_after, IsCalm, LayoutsAre, Course}
use Rattle.pt_check.specs.inner.Answers.{TouchedIs, current_of, KeepsRead}
use Rattle.pt_check.proofs.Firsts.{seen_on}
use Rattle.pt_check.proofs.Keeping.{none_puts, on_stop}
use Rattle.pt_check.proofs.Trying.{Reading}

module _ {L : Type 0} (denotes : Sectors → Option L → Type 0) (reads : Sectors → ℕ → Type 0) (phases : List Writes) (d : Sectors)
    (old new : Option L) where
  course_quiet : (i : ℕ) (switch : Option ℕ) → Course denotes reads phases d old new i switch → IsCalm denotes reads phases d i
      → ((o : Option L) → denotes (disk_after phases d i) o → denotes (disk_after phases d (i + 1)) o)
      → Course denotes reads phases d old new (i + 1) switch
  course_quiet i switch course calm on = record {
    calm = λ j lt. ⊎_elim (λ less. course.calm j less)
        (λ last. subst (IsCalm denotes reads phases d) (let same : i ≡ j = omega (arith, lt, last) in same) calm) (cases_lt j i);
    layouts = layouts_on switch course.layouts;
  }
    where
      at : (j : ℕ) (o : Option L) → j < i + 1 + 1 → i + 1 ≤ j → denotes (disk_after phases d i) o → denotes (disk_after phases d j) o
      at j o lt ge is = subst (λ (x : ℕ). denotes (disk_after phases d x) o) (let same : i + 1 ≡ j = omega (arith, lt, ge) in same)
          (on o is)

      layouts_on : (s : Option ℕ) → LayoutsAre denotes reads phases d old new i s → LayoutsAre denotes reads phases d old new (i + 1) s
      layouts_on None olds = λ j le. ⊎_elim
          (λ less. olds j (omega (arith, less)))
          (λ last. at j old (omega (arith, le)) last (olds i (omega arith)))
          (cases_lt j (i + 1))
      layouts_on (Some s) (pos, most, differ, olds, news) = (
        pos,
        omega (arith, most),
        differ,
        olds,
        (λ j ge le. ⊎_elim
            (λ less. news j ge (omega (arith, less)))
            (λ last. at j new (omega (arith, le)) last (news i most (omega arith)))
            (cases_lt j (i + 1))),
      )

module _ (b : ℕ) (phases : List Writes) (d : Sectors) (i : ℕ) (below : i < length phases) (runs : List TracedRun)
    (reading : Reading (Reads b) (disk_after phases d i) runs) (none : NoneIs (λ (w : ℕ × List ℕ). IsIn runs w.0) (phase_at phases i)) where
  leaves : LeavesReads b (disk_after phases d i) (phase_at phases i)
  leaves s v puts read = none_puts (λ (w : ℕ × List ℕ). IsIn runs w.0) (phase_at phases i) none s v puts ((reading.same s).1 read)

  same_meaning : SameMeaning b (disk_after phases d (i + 1)) (disk_after phases d i)
  same_meaning = stop_keeps_lem b (disk_after phases d i) (disk_after phases d (i + 1)) (phase_at phases i) leaves
      (subst (λ (x : Sectors). Stopped (disk_after phases d i) (phase_at phases i) x)
      (seen_on phases d i (phase_at phases i) (disk_after phases d i) (written (phase_at phases i) (disk_after phases d i)) below refl refl
      refl)
      (stopped_written (phase_at phases i) (disk_after phases d i)))

  pub passed_quiet : (old new : Option _) (switch : Option ℕ) → Course (Denotes b) (Reads b) phases d old new i switch
      → Course (Denotes b) (Reads b) phases d old new (i + 1) switch
  passed_quiet old new switch course =
      course_quiet (Denotes b) (Reads b) phases d old new i switch course (inr leaves) (λ o is. (same_meaning.denotes o).1 is)

-- a phase whose one write is alike to what stands there
pub kept_one : (b : ℕ) (S : ℕ → Type 0) (d : Sectors) (ws : Writes) (k : ℕ) (w : ℕ × List ℕ) → length ws ≤ 1 → slice_get ws k ≡ Some w
    → IsAlike b d w.0 w.1 → KeepsRead b S d ws
kept_one b S d [] k w le at is s v puts in_s = absurd puts
kept_one b S d (x ∷ []) zero w le at is s v (inl here) in_s =
    let here_is : IsAlike b d x.0 x.1 = subst (λ (y : ℕ × List ℕ). IsAlike b d y.0 y.1) (sym (some_same x w at)) is in
    subst (λ (bytes : List ℕ). IsAlike b d s bytes) here.1 (subst (λ (n : ℕ). IsAlike b d n x.1) here.0 here_is)
  where
    some_same : (y z : ℕ × List ℕ) → Some y ≡ Some z → y ≡ z
    some_same y z it = cc
kept_one b S d (x ∷ []) zero w le at is s v (inr none) in_s = absurd none
kept_one b S d (x ∷ []) (suc k) w le at is s v puts in_s = absurd cc
kept_one b S d (x ∷ y ∷ ws) k w le at is s v puts in_s = absurd (omega (arith, le))

pub kept_none : (b : ℕ) (S : ℕ → Type 0) (d : Sectors) (ws : Writes) → NoneIs (λ (w : ℕ × List ℕ). S w.0) ws → KeepsRead b S d ws
kept_none b S d ws none s v puts in_s = absurd (none_puts (λ (w : ℕ × List ℕ). S w.0) ws none s v puts in_s)

calm_untouched : (b : ℕ) (phases : List Writes) (d : Sectors) (i : ℕ) (runs : List TracedRun)
    → Reading (Reads b) (disk_after phases d i) runs → TouchedIs (IsIn runs) (phase_at phases i) None
    → IsCalm (Denotes b) (Reads b) phases d i
calm_untouched b phases d i runs reading touched = ⊎_elim (λ few. inl few)
    (λ nothing. inr (λ s v puts read. none_puts (λ (w : ℕ × List ℕ). IsIn runs w.0) (phase_at phases i) nothing s v puts
    ((reading.same s).1 read))) touched

module _ (b : ℕ) (phases : List Writes) (d : Sectors) (i : ℕ) (below : i < length phases) (runs : List TracedRun)
    (reading : Reading (Reads b) (disk_after phases d i) runs)
    (keeps : KeepsRead b (IsIn runs) (disk_after phases d i) (phase_at phases i)) where
  kept_alike : ReadsAlike b (disk_after phases d (i + 1)) (disk_after phases d i)
  kept_alike = subst (λ (x : Sectors). ReadsAlike b x (disk_after phases d i))
      (seen_on phases d i (phase_at phases i) (disk_after phases d i) (written (phase_at phases i) (disk_after phases d i)) below refl refl
      refl)
      (record {
        count = length-written (phase_at phases i) (disk_after phases d i);
        each = λ s read. on_stop (λ v. IsAlike b (disk_after phases d i) s v) s (disk_after phases d i) (phase_at phases i)
            (written (phase_at phases i) (disk_after phases d i)) (stopped_written (phase_at phases i) (disk_after phases d i))
            (alike_equal b (disk_after phases d i) s (sector (disk_after phases d i) s) (sector (disk_after phases d i) s) refl refl)
            (λ v put. keeps s v put ((reading.same s).1 read));
      })

  kept_meaning : SameMeaning b (disk_after phases d (i + 1)) (disk_after phases d i)
  kept_meaning = alike_meaning b (disk_after phases d (i + 1)) (disk_after phases d i) kept_alike

  pub reading_kept : Reading (Reads b) (disk_after phases d (i + 1)) runs
  reading_kept = record {
    same = λ s. (λ is. (kept_meaning.reads s).1 ((reading.same s).0 is), λ is. (reading.same s).1 ((kept_meaning.reads s).0 is));
  }

  pub passed_kept : TouchedIs (IsIn runs) (phase_at phases i) None → (old new : Option _) (switch : Option ℕ)
      → Course (Denotes b) (Reads b) phases d old new i switch → Course (Denotes b) (Reads b) phases d old new (i + 1) switch
  passed_kept touched old new switch course =
      course_quiet (Denotes b) (Reads b) phases d old new i switch course (calm_untouched b phases d i runs reading touched)
      (λ o is. (kept_meaning.denotes o).1 is)

-- what the disk denotes after so many phases
pub course_now : {L : Type 0} (denotes : Sectors → Option L → Type 0) (reads : Sectors → ℕ → Type 0) (phases : List Writes) (d : Sectors)
    (old new : Option L) (i : ℕ) (switch : Option ℕ) → Course denotes reads phases d old new i switch
    → denotes (disk_after phases d i) (current_of old new switch)
course_now denotes reads phases d old new i switch course = now switch course.layouts where
  now : (s : Option ℕ) → LayoutsAre denotes reads phases d old new i s → denotes (disk_after phases d i) (current_of old new s)
  now None olds = olds i (omega arith)
  now (Some s) (pos, most, differ, olds, news) = news i most (omega arith)

-- a phase that leaves what the disk denoted
pub passed_still : (b : ℕ) (phases : List Writes) (d : Sectors) (i : ℕ) (runs : List TracedRun)
    → Reading (Reads b) (disk_after phases d i) runs → TouchedIs (IsIn runs) (phase_at phases i) None → (old new : Option _)
    (switch : Option ℕ) → Course (Denotes b) (Reads b) phases d old new i switch
    → Denotes b (disk_after phases d (i + 1)) (current_of old new switch) → Course (Denotes b) (Reads b) phases d old new (i + 1) switch
passed_still b phases d i runs reading touched old new switch course is =
    let now = course_now (Denotes b) (Reads b) phases d old new i switch course in
    course_quiet (Denotes b) (Reads b) phases d old new i switch course (calm_untouched b phases d i runs reading touched)
    (λ o was. let same = denotes_one_lem b (disk_after phases d i) (current_of old new switch) o now was in
    subst (Denotes b (disk_after phases d (i + 1))) same is)
