-- A plan that goes its course, stays in its tables and ends in a healthy disk is accepted.
use Rattle.std.proofs.Common.{◌≡◌, ◌∙◌, inl, inr, ⊎_elim, ℕ, zero, suc, ◌+◌, ◌<◌, ◌≤◌, List, [], ◌∷◌, length, slice_get, refl, sym, ap}
use Rattle.std.proofs.Common.{subst, arith, Option, Some, None}
use Rattle.std.specs.Prelude.{◌↔◌}
use Rattle.std.proofs.lemmas.Bool.{cases_lt}
use Rattle.std.proofs.Math.Seq.{take-length}
use Rattle.pt_sector.specs.Sectors.{Sectors, Writes, Puts, after}
use Rattle.pt_recover.specs.Denotes.{Denotes, Reads}
use Rattle.pt_recover.proofs.Terms.{denotes_one_lem}
use Rattle.pt_members.specs.declared.layout.Layout.{Layout}
use Rattle.pt_layout.specs.Healthy.{Healthy, IsFinding}
use Rattle.pt_layout.proofs.Terms.{finding_excludes_lem}
use Rattle.pt_layout.specs.declared.sound.finding.Finding.{Finding}
use Rattle.pt_members.specs.Tables.{OwnedOf, TableOf}
use Rattle.pt_check.specs.Answers.{Answers, phase_at, disk_after, IsCalm, LayoutsAre, Course, switch_number, InNoTable, InOwned}
use Rattle.pt_check.specs.Answers.{FirstWrite, FirstSector, IsPastLast, ChangesBoot, IsFit, ReadsSector, Leads, GivesNeither, IsSwitch}
use Rattle.pt_check.specs.Answers.{IsStray, IsOwned, Holds}
use Rattle.pt_apply.specs.Plans.{writes_in, NoneIs}
use Rattle.pt_check.specs.declared.answer.Answer.TheVariants.{Yes}
use Rattle.pt_check.specs.declared.answer.Why.{Why}
use Rattle.pt_check.specs.declared.answer.Why.TheVariants.{TooManyWrites, OutOfRange, BootCode, ReadSector, Neither, NotATable, Owned}
use Rattle.pt_check.specs.declared.answer.Why.TheVariants.{Final}

pub got_puts : (ws : Writes) (k : ℕ) (w : ℕ × List ℕ) → slice_get ws k ≡ Some w → Puts ws w.0 w.1
got_puts [] k w at = absurd cc
got_puts (v ∷ ws) zero w at = let same : v ≡ w = cc in inl (ap (λ (x : ℕ × List ℕ). x.0) same, ap (λ (x : ℕ × List ℕ). x.1) same)
got_puts (v ∷ ws) (suc k) w at = inr (got_puts ws k w at)

module _ {L : Type 0} (denotes : Sectors → Option L → Type 0) (reads : Sectors → ℕ → Type 0)
    (one : (x : Sectors) (o p : Option L) → denotes x o → denotes x p → o ≡ p)
    (phases : List Writes) (d : Sectors) where
  -- a calm phase reads no sector of its own
  pub no_read : (p lba : ℕ) (r : ReadsSector reads d phases p lba) → IsCalm denotes reads phases d r.i → ⊥
  no_read p lba r calm = ⊎_elim
      (λ few. absurd (omega (arith, few, r.several)))
      (λ misses. misses r.write.0 r.write.1 (got_puts (phase_at phases r.i) r.at r.write r.first.at) r.first.is)
      calm

  module _ (old new : Option L) (leads : Leads denotes d phases old new) where
    -- a phase that was passed gave one of the two
    pub no_neither : (done : ℕ) (switch : Option ℕ) → LayoutsAre denotes reads phases d old new done switch
        → (p : ℕ) (g : GivesNeither denotes d phases p) → g.i < done → ⊥
    no_neither done None olds p g lt =
        let same : g.old ≡ old = one d g.old old g.leads.from leads.from in
        ⊎_elim
        (λ no. no.0 (subst (denotes (disk_after phases d (g.i + 1))) (sym same) (olds (g.i + 1) (omega (arith, lt)))))
        (λ back. back.0 (same ∙ sym (one (disk_after phases d back.2.0) g.new old back.2.3 (olds back.2.0 (omega (arith, lt, back.2.2))))))
        g.neither
    no_neither done (Some s) (pos, most, differ, olds, news) p g lt =
        let same_old : g.old ≡ old = one d g.old old g.leads.from leads.from in
        let same_new : g.new ≡ new = one (after phases d) g.new new g.leads.to leads.to in
        ⊎_elim
        (λ low. ⊎_elim
        (λ no. no.0 (subst (denotes (disk_after phases d (g.i + 1))) (sym same_old) (olds (g.i + 1) low)))
        (λ back. back.0 (same_old
        ∙ sym (one (disk_after phases d back.2.0) g.new old back.2.3 (olds back.2.0 (omega (arith, low, back.2.2))))))
        g.neither)
        (λ high. ⊎_elim
        (λ no. no.1 (subst (denotes (disk_after phases d (g.i + 1))) (sym same_new) (news (g.i + 1) high (omega (arith, lt)))))
        (λ back. back.0 (one (disk_after phases d (g.i + 1)) g.old new back.1 (news (g.i + 1) high (omega (arith, lt))) ∙ sym same_new))
        g.neither)
        (cases_lt (g.i + 1) s)

    -- at the end
    whole : disk_after phases d (length phases) ≡ after phases d
    whole = ap (λ (ps : List Writes). after ps d) (take-length phases)

    pub same_or : (switch : Option ℕ) → LayoutsAre denotes reads phases d old new (length phases) switch
        → (switch_number switch ≡ 0) ↔ (old ≡ new)
    same_or None olds = (
      (λ zero_is. one (after phases d) old new
          (subst (λ (x : Sectors). denotes x old) whole (olds (length phases) (omega arith))) leads.to),
      (λ same. refl),
    )
    same_or (Some s) (pos, most, differ, olds, news) = ((λ none. absurd (omega (arith, pos, none))), (λ same. absurd (differ same)))

    pub most_or : (switch : Option ℕ) → LayoutsAre denotes reads phases d old new (length phases) switch
        → switch_number switch ≤ length phases
    most_or None olds = omega arith
    most_or (Some s) (pos, most, differ, olds, news) = most

    pub is_switch : (switch : Option ℕ) → LayoutsAre denotes reads phases d old new (length phases) switch
        → IsSwitch denotes d phases (switch_number switch)
    is_switch None olds = record { old = old; new = new; leads = leads; first = inl ((same_or None olds).0 refl, refl) }
    is_switch (Some s) (pos, most, differ, olds, news) = record {
      old = old;
      new = new;
      leads = leads;
      first = inr (
        differ,
        pos,
        most,
        news s (omega arith) most,
        (λ j j_pos less is_new. differ (one (disk_after phases d j) old new (olds j less) is_new)),
      );
    }

module _ {L : Type 0} (denotes : Sectors → Option L → Type 0) (reads : Sectors → ℕ → Type 0) (table owned : Option L → ℕ → Type 0)
    (finds : Sectors → Finding → Type 0) (one : (x : Sectors) (o p : Option L) → denotes x o → denotes x p → o ≡ p) (d : Sectors)
    (phases : List Writes)
    (fit : IsFit d phases) (old new : Option L) (leads : Leads denotes d phases old new) (switch : Option ℕ)
    (course : Course denotes reads phases d old new (length phases) switch)
    (placed : NoneIs (IsStray denotes reads table owned finds d phases old new) (writes_in phases))
    (free : NoneIs (IsOwned denotes reads table owned finds d phases old new) (writes_in phases))
    (well : (f : Finding) → ¬ finds (after phases d) f) where
  first_no : (P : ℕ × List ℕ → Type 0) (n : ℕ) → NoneIs P (writes_in phases) → ¬ FirstWrite phases P n
  first_no P n nothing = λ h. nothing h.at h.write h.first.at h.first.is

  sector_no : (P : ℕ × List ℕ → Type 0) (lba : ℕ) → NoneIs P (writes_in phases) → ¬ FirstSector phases P lba
  sector_no P lba nothing = λ h. nothing h.at h.write h.first.at h.first.is

  along : (P : Option L → Option L → Type 0) (o p : Option L) → Leads denotes d phases o p → P old new → P o p
  along P o p to it =
      subst (λ (x : Option L). P x p) (one d old o leads.from to.from)
      (subst (λ (y : Option L). P old y) (one (after phases d) new p leads.to to.to) it)

  pub no_reason : (v : Why) → ¬ Holds denotes reads table owned finds d phases v
  no_reason TooManyWrites = λ many. absurd (omega (arith, many, fit.few))
  no_reason (OutOfRange n) = first_no (IsPastLast d) n fit.inside
  no_reason (BootCode n) = first_no (ChangesBoot d) n fit.boot
  no_reason (ReadSector p lba) = λ r. no_read denotes reads one phases d p lba.0 r (course.calm r.i r.below)
  no_reason (Neither p) = λ g. no_neither denotes reads one phases d old new leads (length phases) switch course.layouts p g g.below
  no_reason (NotATable lba) =
      λ h. sector_no (IsStray denotes reads table owned finds d phases h.0 h.1) lba.0
      (along (λ x y. NoneIs (IsStray denotes reads table owned finds d phases x y) (writes_in phases)) h.0 h.1 h.2 placed) h.3
  no_reason (Owned lba) =
      λ h. sector_no (IsOwned denotes reads table owned finds d phases h.0 h.1) lba.0
      (along (λ x y. NoneIs (IsOwned denotes reads table owned finds d phases x y) (writes_in phases)) h.0 h.1 h.2 free) h.3
  no_reason (Final f) = well f

pub accepted_lem : (b : ℕ) (d : Sectors) (phases : List Writes) (old new : Option Layout) (switch : Option ℕ) → IsFit d phases
    → Leads (Denotes b) d phases old new
    → Course (Denotes b) (Reads b) phases d old new (length phases) switch → NoneIs (InNoTable b old new) (writes_in phases)
    → NoneIs (InOwned b old new) (writes_in phases)
    → Healthy b (after phases d) → Answers b d phases (Yes (switch_number switch))
accepted_lem b d phases old new switch fit leads course placed free well = (
  no_reason (Denotes b) (Reads b) (TableOf b) (OwnedOf b) (IsFinding b)
      (denotes_one_lem b) d phases fit old new leads switch course placed free (λ f is. finding_excludes_lem b (after phases d) f is well),
  is_switch (Denotes b) (Reads b) (denotes_one_lem b) phases d old new leads switch course.layouts,
)
