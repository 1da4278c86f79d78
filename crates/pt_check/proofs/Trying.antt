-- One phase more that is tried.
use Rattle.std.proofs.Common.{◌≡◌, ◌∙◌, inl, inr, ⊎_elim, ℕ, ◌+◌, ◌<◌, ◌≤◌, List, length, refl, sym, subst, arith, Option, Some, None}
use Rattle.std.specs.Prelude.{◌↔◌, IsSome}
use Rattle.std.proofs.lemmas.Bool.{cases_lt}
use Rattle.pt_sector.specs.Sectors.{Sectors, Writes}
use Rattle.pt_sector.specs.declared.address.Lba.{Lba}
use Rattle.pt_recover.specs.Spans.{IsIn}
use Rattle.pt_recover.specs.declared.trace.TracedRun.{TracedRun}
use Rattle.pt_check.specs.Answers.{phase_at, disk_after, IsCalm, LayoutsAre, Course, IsFirst}
use Rattle.pt_check.specs.inner.Answers.{TouchedIs, StepIs, RefusedRead, RefusedNeither}
use Rattle.pt_check.specs.declared.trial.Step.TheVariants.{Goes, Neither}
use Rattle.pt_check.proofs.Keeping.{none_puts}

-- the trace has the sectors that recovery of d reads
pub record Reading (reads : Sectors → ℕ → Type 0) (d : Sectors) (runs : List TracedRun) : Type 0 where
  pub same : (s : ℕ) → IsIn runs s ↔ reads d s

first_same : (S T : ℕ → Type 0) → ((s : ℕ) → S s ↔ T s) → (ws : Writes) (k : ℕ) (w : ℕ × List ℕ)
    → IsFirst (λ (v : ℕ × List ℕ). S v.0) ws k w → IsFirst (λ (v : ℕ × List ℕ). T v.0) ws k w
first_same S T same ws k w first =
    record { at = first.at; is = (same w.0).0 first.is; none_before = λ j y lt at in_T. first.none_before j y lt at ((same y.0).1 in_T) }

module _ {L : Type 0} (denotes : Sectors → Option L → Type 0) (reads : Sectors → ℕ → Type 0) (phases : List Writes) (d : Sectors)
    (old new : Option L) where
  pub course_none : denotes d old → Course denotes reads phases d old new 0 None
  course_none is = record {
    calm = λ i lt. absurd (omega (arith, lt));
    layouts = λ i le. subst (λ (j : ℕ). denotes (disk_after phases d j) old) (let none : 0 ≡ i = omega (arith, le) in none) is;
  }

  module _ (i : ℕ) (below : i < length phases) (runs : List TracedRun) (reading : Reading reads (disk_after phases d i) runs)
      (switch : Option ℕ) (course : Course denotes reads phases d old new i switch) where
    pub refused_read : (lba : Lba) → TouchedIs (IsIn runs) (phase_at phases i) (Some lba)
        → RefusedRead denotes reads phases d old new (i + 1) lba.0
    refused_read lba (several, (k, w, is, first)) = record {
      why = record {
        i = i;
        number = refl;
        below = below;
        several = several;
        at = k;
        write = w;
        is = is;
        first = first_same (IsIn runs) (reads (disk_after phases d i)) reading.same (phase_at phases i) k w first;
      };
      switch = switch;
      course = course;
    }

    module _ (touched : TouchedIs (IsIn runs) (phase_at phases i) None) (found : Option L)
        (is : denotes (disk_after phases d (i + 1)) found) where
      calm_here : IsCalm denotes reads phases d i
      calm_here =
          ⊎_elim (λ few. inl few)
          (λ nothing. inr (λ s v puts in_reads. none_puts (λ (w : ℕ × List ℕ). IsIn runs w.0) (phase_at phases i) nothing s v puts
          ((reading.same s).1 in_reads))) touched

      pub refused_neither : ((x : Sectors) (o p : Option L) → denotes x o → denotes x p → o ≡ p)
          → StepIs found old new switch (i + 1) Neither → RefusedNeither denotes reads phases d old new (i + 1)
      refused_neither one neither = record {
        i = i;
        number = refl;
        below = below;
        switch = switch;
        course = course;
        calm = calm_here;
        neither = ⊎_elim
            (λ again. inr (back switch course.layouts again))
            (λ other. inl (
              (λ is_old. other.0 (one (disk_after phases d (i + 1)) found old is is_old)),
              (λ is_new. other.1 (one (disk_after phases d (i + 1)) found new is is_new)),
            ))
            neither;
      }
        where
          back : (s : Option ℕ) → LayoutsAre denotes reads phases d old new i s → (found ≡ old) × IsSome s
              → (¬ (old ≡ new)) × denotes (disk_after phases d (i + 1)) old ×
              ((j : ℕ) × (0 < j) × (j ≤ i) × denotes (disk_after phases d j) new)
          back None layouts (same, none) = absurd cc
          back (Some s) (pos, most, differ, olds, news) (same, some) =
              (differ, subst (denotes (disk_after phases d (i + 1))) same is, (s, pos, most, news s (omega arith) most))

      at_last : (j : ℕ) (o : Option L) → found ≡ o → j ≡ i + 1 → denotes (disk_after phases d j) o
      at_last j o same at =
          subst (λ (x : ℕ). denotes (disk_after phases d x) o) (sym at) (subst (denotes (disk_after phases d (i + 1))) same is)

      layouts_on : (s t : Option ℕ) → LayoutsAre denotes reads phases d old new i s → StepIs found old new s (i + 1) (Goes t)
          → LayoutsAre denotes reads phases d old new (i + 1) t
      layouts_on None None olds (same, none) =
          λ j le. ⊎_elim (λ less. olds j (omega (arith, less))) (λ last. at_last j old same (omega (arith, le, last))) (cases_lt j (i + 1))
      layouts_on (Some m) None layouts (same, none) = absurd cc
      layouts_on None (Some n) olds (differ, same, inl none) = absurd cc
      layouts_on (Some m) (Some n) layouts (differ, same, inr (none, is_n)) = absurd cc
      layouts_on None (Some n) olds (differ, same, inr (none, is_n)) = (
        omega (arith, is_n),
        omega (arith, is_n),
        (λ both. differ (same ∙ sym both)),
        (λ j less. olds j (omega (arith, less, is_n))),
        (λ j ge le. at_last j new same (omega (arith, ge, le, is_n))),
      )
      layouts_on (Some m) (Some n) (pos, most, unlike, olds, news) (differ, same, inl kept) =
          let m_n : m ≡ n = cc in (
            omega (arith, m_n, pos),
            omega (arith, m_n, most),
            unlike,
            (λ j less. olds j (omega (arith, less, m_n))),
            (λ j ge le. ⊎_elim (λ less. news j (omega (arith, ge, m_n)) (omega (arith, less)))
                (λ last. at_last j new same (omega (arith, le, last))) (cases_lt j (i + 1))),
          )

      pub course_on : (t : Option ℕ) → StepIs found old new switch (i + 1) (Goes t) → Course denotes reads phases d old new (i + 1) t
      course_on t step = record {
        calm = λ j lt. ⊎_elim (λ less. course.calm j less)
            (λ last. subst (IsCalm denotes reads phases d) (let same : i ≡ j = omega (arith, lt, last) in same) calm_here) (cases_lt j i);
        layouts = layouts_on switch t course.layouts step;
      }
