-- A reader of the primary copy alone finds the old table or the new one wherever a plan that keeps that copy stops.
use Rattle.std.proofs.Common.{◌≡◌, ◌∙◌, inl, inr, ℕ, zero, suc, ◌+◌, ◌≤◌, List, [], ◌∷◌, length, sym, ap, subst}
use Rattle.std.proofs.Common.{arith, Option, Some, None}
use Rattle.pt_sector.specs.Sectors.{Sectors, IsSectorSize, Writes, written, after}
use Rattle.pt_gpt.specs.declared.table.Table.{Table}
use Rattle.pt_apply.specs.Plans.{StoppedIn, Switches}
use Rattle.pt_recover.specs.Denotes.{BodyIs, Denotes}
use Rattle.pt_recover.proofs.Terms.{denotes_one_lem}
use Rattle.pt_members.specs.declared.layout.Body.TheVariants.{Gpt, Mbr}
use Rattle.pt_members.specs.declared.layout.Layout.{Layout}
use Rattle.pt_check.specs.Answers.{Answers}
use Rattle.pt_check.specs.declared.answer.Answer.TheVariants.{Yes}
use Rattle.pt_check.proofs.Heart.{stops}
use Rattle.pt_check.proofs.Terms.{answer_is_one_lem}
use Rattle.pt_check.proofs.Walk.{Stays, Turns, stays_is_course, turns_is_course}
use Rattle.pt_cases.specs.Cases.{IsPlan, ChangesLabels, idle, backup_first, primary_first, from_mbr, one_label, within_mbr}
use Rattle.pt_cases.specs.Kept.{IsKept, KeptOf}
use Rattle.pt_cases.specs.Writes.{one_write}
use Rattle.pt_plan.specs.Commits.{IsTold}
use Rattle.pt_plan.specs.Readers.{Finds, FollowsPrimary}
use Rattle.pt_plan.proofs.EveryPlan.{kept_lands}
use Rattle.pt_plan.proofs.FollowedBackup.{backup_first_followed}
use Rattle.pt_plan.proofs.FollowedPrimary.{primary_first_followed}
use Rattle.pt_plan.proofs.Following.{FollowReads, copy_is_followed, finds_one, follow_reads_decide}
use Rattle.pt_plan.proofs.Landings.{stays_of}
use Rattle.pt_plan.proofs.OneLabel.{one_label_copies}
use Rattle.pt_plan.proofs.Walks.{Goes}

-- ## From a walk to each disk that a stop may leave.

-- wherever these phases stop
abbrev pub StaysWhole : ℕ → Sectors → List Writes → Table → Table → ℕ → Type 0
StaysWhole b d phases old new switch = (i : ℕ) → i ≤ length phases → (c : Sectors) → StoppedIn phases d i c
    → Switches (Finds b c) (Some old) (Some new) switch (i + 1)

module _ (b : ℕ) where
  stays_end : (ps : List Writes) (d : Sectors) (o : Option Table) → Stays (Finds b) (FollowReads b) ps d o → Finds b (after ps d) o
  stays_end [] d o is = is
  stays_end (p ∷ ps) d o is = stays_end ps (written p d) o is.2

  turns_end : (k : ℕ) (ps : List Writes) (d : Sectors) (o n : Option Table) → Turns (Finds b) (FollowReads b) k ps d o n
      → Finds b (after ps d) n
  turns_end k [] d o n is = absurd is
  turns_end zero (p ∷ ps) d o n is = stays_end ps (written p d) n is.2
  turns_end (suc k) (p ∷ ps) d o n is = turns_end k ps (written p d) o n is.2

  -- one table throughout
  stays_whole : (phases : List Writes) (d : Sectors) (t : Table) (switch : ℕ) → Stays (Finds b) (FollowReads b) phases d (Some t)
      → StaysWhole b d phases t t switch
  stays_whole phases d t switch walk i within c stop =
      let course = stays_is_course (Finds b) (FollowReads b) phases d (Some t) (Some t) walk in
      let switches = stops (Finds b) (FollowReads b) (follow_reads_decide b) phases d (Some t) (Some t) course.calm
      (stays_end phases d (Some t) walk) (finds_one b) None course.layouts i within c stop in
      let found : Finds b c (Some t) = switches.past (omega arith) in
      record { before = λ at. found; inside = λ at. inl found; past = λ at. found }

  turns_whole : (k : ℕ) (phases : List Writes) (d : Sectors) (old new : Table) → ¬ (Some old ≡ Some new)
      → Turns (Finds b) (FollowReads b) k phases d (Some old) (Some new) → StaysWhole b d phases old new (k + 1)
  turns_whole k phases d old new differ walk =
      let course = turns_is_course (Finds b) (FollowReads b) k phases d (Some old) (Some new) differ walk in
      stops (Finds b) (FollowReads b) (follow_reads_decide b) phases d (Some old) (Some new) course.calm
      (turns_end k phases d (Some old) (Some new) walk) (finds_one b) (Some (k + 1)) course.layouts

  -- by what the checker tells of the layouts, where these are the same only with the tables, and else have different ones
  goes_whole : (phases : List Writes) (d : Sectors) (o : Option Layout) (p : Layout) (old new : Table) (turn switch : ℕ)
      → (o ≡ Some p → old ≡ new) → (¬ (o ≡ Some p) → ¬ (old ≡ new)) → IsTold o p turn switch
      → Goes (Finds b) (FollowReads b) turn phases d (Some old) (Some new) → StaysWhole b d phases old new switch
  goes_whole phases d o p old new turn switch alike apart (inl (same, none)) (inl (k, is, turns)) =
      let one : old ≡ new = alike same in
      subst (λ (t : Table). StaysWhole b d phases old t switch) one
      (stays_whole phases d old switch (stays_of (Finds b) (FollowReads b) k phases d (Some old) (Some new) (ap Some one) turns))
  goes_whole phases d o p old new turn switch alike apart told (inr (same, stays)) =
      let one : old ≡ new = cc in
      subst (λ (t : Table). StaysWhole b d phases t new switch) (sym one) (stays_whole phases d new switch stays)
  goes_whole phases d o p old new turn switch alike apart (inr (differ, is_turn)) (inl (k, is, turns)) =
      subst (StaysWhole b d phases old new) (is ∙ sym is_turn)
      (turns_whole k phases d old new (λ same. (let one : old ≡ new = cc in apart differ one)) turns)

-- ## The plans that keep the primary copy.

module _ (b : ℕ) (d : Sectors) (o p : Layout) (old new : Table) (size : IsSectorSize b) (from : Denotes b d (Some o))
    (old_body : o.body ≡ Gpt old) (find : FollowsPrimary b d old) (new_body : p.body ≡ Gpt new) where
  alike : Some o ≡ Some p → old ≡ new
  alike same =
      let one : o ≡ p = cc in
      let bodies : Gpt old ≡ Gpt new = sym old_body ∙ ap (λ (l : Layout). l.body) one ∙ new_body in
      cc

  -- other layouts have other tables, unless the labels alone differ
  apart : (q : Option Layout) → q ≡ Some o → p.sectors ≡ length d → ¬ ChangesLabels q p → ¬ (Some o ≡ Some p) → ¬ (old ≡ new)
  apart q is sectors other differ same = other (record {
    old = o;
    is_old = is;
    same = bodies;
    differ = λ labels. (let one : o ≡ p = λ i. record { sectors = counts i; body = bodies i; labels = labels i } in differ (ap Some one));
  })
    where
      bodies : o.body ≡ p.body
      bodies = old_body ∙ ap Gpt same ∙ sym new_body

      counts : o.sectors ≡ p.sectors
      counts = from.0 ∙ sym sectors

  by_plan : (full phases : List Writes) (switch : ℕ) (plan : IsPlan b d p full) → KeptOf plan phases → Answers b d phases (Yes switch)
      → StaysWhole b d phases old new switch
  by_plan full phases switch (backup_first q t is) left answers =
      let is_o : q ≡ Some o = denotes_one_lem b d q (Some o) is.common.from from in
      let lands = kept_lands b d (Some o) p full phases size from (backup_first q t is) left in
      let told = answer_is_one_lem b d phases (Yes switch) (Yes lands.switch) answers lands.answers in
      let both : Gpt t ≡ Gpt new = sym is.copies.body ∙ new_body in
      let table : t ≡ new = cc in
      subst (StaysWhole b d phases old new) (sym told)
      (goes_whole b phases d (Some o) p old new (length left.front + 1) lands.switch alike (apart q is_o is.common.sectors is.other)
      lands.told
      (subst (λ (u : Table). Goes (Finds b) (FollowReads b) (length left.front + 1) phases d (Some old) (Some u)) table
      (backup_first_followed b d q p t full size is phases left old find)))
  by_plan full phases switch (primary_first q t is) left answers =
      let is_o : q ≡ Some o = denotes_one_lem b d q (Some o) is.common.from from in
      let lands = kept_lands b d (Some o) p full phases size from (primary_first q t is) left in
      let told = answer_is_one_lem b d phases (Yes switch) (Yes lands.switch) answers lands.answers in
      let both : Gpt t ≡ Gpt new = sym is.copies.body ∙ new_body in
      let table : t ≡ new = cc in
      subst (StaysWhole b d phases old new) (sym told)
      (goes_whole b phases d (Some o) p old new (length left.middle) lands.switch alike (apart q is_o is.common.sectors is.other)
      lands.told
      (subst (λ (u : Table). Goes (Finds b) (FollowReads b) (length left.middle) phases d (Some old) (Some u)) table
      (primary_first_followed b d q p t full size is phases left o is_o old old_body find)))
  by_plan full phases switch (idle healthy none) left answers =
      let one : old ≡ new = alike (denotes_one_lem b d (Some o) (Some p) from healthy.denotes) in
      subst (λ (u : Table). StaysWhole b d phases old u switch) one
      (stays_whole b phases d old switch
      (subst (λ (ps : List Writes). Stays (Finds b) (FollowReads b) ps d (Some old)) (sym (left ∙ none)) find))
  by_plan full phases switch (from_mbr q t is) left answers =
      absurd ((subst (BodyIs b d) old_body from.1).0 is.mbr)
  by_plan full phases switch (one_label q t is) left answers =
      let both : Some is.old ≡ Some o = sym is.is_old ∙ denotes_one_lem b d q (Some o) is.common.from from in
      let is_o : is.old ≡ o = cc in
      let bodies : Gpt old ≡ Gpt new =
      sym old_body ∙ ap (λ (l : Layout). l.body) (sym is_o) ∙ is.same ∙ new_body in
      let tables : Gpt t ≡ Gpt old = sym is.body ∙ new_body ∙ sym bodies in
      let one : old ≡ new = cc in
      let table : t ≡ old = cc in
      let copies = one_label_copies b d q p t full size is in
      let walk : Stays (Finds b) (FollowReads b) (one_write is.loud.0 is.loud.1 ∷ []) d (Some t) =
      (copy_is_followed b d t copies.0, inl (omega arith), copy_is_followed b _ t copies.1) in
      subst (λ (u : Table). StaysWhole b d phases old u switch) one
      (stays_whole b phases d old switch
      (subst (λ (ps : List Writes). Stays (Finds b) (FollowReads b) ps d (Some old)) (sym (left ∙ is.is))
      (subst (λ (u : Table). Stays (Finds b) (FollowReads b) (one_write is.loud.0 is.loud.1 ∷ []) d (Some u)) table walk)))
  by_plan full phases switch (within_mbr q records chain is) left answers =
      absurd (let both : Gpt new ≡ Mbr records chain = sym new_body ∙ is.body in cc)

pub stays_whole_lem : (b : ℕ) (d : Sectors) (o p : Layout) (old new : Table) (phases : List Writes) (switch : ℕ) → IsSectorSize b
    → Denotes b d (Some o) → o.body ≡ Gpt old → FollowsPrimary b d old → p.body ≡ Gpt new → IsKept b d p phases
    → Answers b d phases (Yes switch) → StaysWhole b d phases old new switch
stays_whole_lem b d o p old new phases switch size from old_body find new_body is answers =
    by_plan b d o p old new size from old_body find new_body is.full phases switch is.plan is.kept answers
