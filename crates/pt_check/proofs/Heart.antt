-- One write, or no write in what recovery reads, makes a phase safe at every stop.
use Rattle.std.proofs.Common.{◌≡◌, ◌∙◌, ◌⊎◌, inl, inr, ⊎_elim, ℕ, ◌+◌, ◌<◌, ◌≤◌, List, [], ◌∷◌, length, sym, ap, subst, arith, Option}
use Rattle.std.proofs.Common.{Some, None}
use Rattle.std.proofs.lemmas.Bool.{cases_lt}
use Rattle.std.proofs.lemmas.List.{get_or_default}
use Rattle.std.proofs.Math.ListN.{get_or-eq_default}
use Rattle.std.proofs.Math.Seq.{take-length}
use Rattle.pt_sector.specs.Sectors.{Sectors, Agrees, Writes, Puts, Stopped, written, after}
use Rattle.pt_sector.proofs.Written.{stopped_none, stopped_one, agrees_stopped, after-take_more}
use Rattle.pt_apply.specs.Plans.{StoppedIn, Switches}
use Rattle.pt_check.specs.Answers.{phase_at, disk_after, IsCalm, LayoutsAre, switch_number}

module _ {L : Type 0} (denotes : Sectors → Option L → Type 0) (reads : Sectors → ℕ → Type 0)
    (decide : (c x : Sectors) → Agrees (reads x) c x → (o : Option L) → denotes x o → denotes c o) where
  -- a stop within a phase leaves a disk that denotes what the disk before it does, or what the one after it does
  calm_or : (x : Sectors) (ws : Writes) (c : Sectors) → (length ws ≤ 1) ⊎ ((s : ℕ) (v : List ℕ) → Puts ws s v → ¬ reads x s)
      → Stopped x ws c
      → ((o : Option L) → denotes x o → denotes c o) ⊎ (c ≡ written ws x)
  calm_or x [] c calm stop = inl (λ o is. subst (λ (y : Sectors). denotes y o) (sym (stopped_none x c stop)) is)
  calm_or x (w ∷ []) c calm stop =
      ⊎_elim (λ same. inl (λ o is. subst (λ (y : Sectors). denotes y o) (sym same) is)) (λ done. inr done) (stopped_one x w c stop)
  calm_or x (w ∷ v ∷ ws) c (inl few) stop = absurd (omega (arith, few))
  calm_or x (w ∷ v ∷ ws) c (inr misses) stop =
      inl (decide c x (agrees_stopped (reads x) x (w ∷ v ∷ ws) c (λ s b in_reads puts. misses s b puts in_reads) stop))

  module _ (phases : List Writes) (d : Sectors) where
    next : (i : ℕ) → i < length phases → disk_after phases d (i + 1) ≡ written (phase_at phases i) (disk_after phases d i)
    next i lt = after-take_more phases i (phase_at phases i) d lt (get_or_default phases i [] (phase_at phases i) lt)

    -- at a stop in phase i: what the disk before it denotes, or what the one after it does
    stop_or : (i : ℕ) → i < length phases → IsCalm denotes reads phases d i → (c : Sectors) → StoppedIn phases d i c
        → ((o : Option L) → denotes (disk_after phases d i) o → denotes c o) ⊎
        ((o : Option L) → denotes (disk_after phases d (i + 1)) o → denotes c o)
    stop_or i lt calm c stop = ⊎_elim
        (λ before. inl before)
        (λ done. inr (λ o is. subst (λ (y : Sectors). denotes y o) (next i lt ∙ sym done) is))
        (calm_or (disk_after phases d i) (phase_at phases i) c calm stop)

    module _ (old new : Option L) (calm : (i : ℕ) → i < length phases → IsCalm denotes reads phases d i)
        (end : denotes (after phases d) new)
        (one : (x : Sectors) (o p : Option L) → denotes x o → denotes x p → o ≡ p) where
      end_new : denotes (disk_after phases d (length phases)) new
      end_new = subst (λ (y : Sectors). denotes y new) (sym (ap (λ (ps : List Writes). after ps d) (take-length phases))) end

      past_end : (c : Sectors) → StoppedIn phases d (length phases) c → denotes c new
      past_end c stop =
          let none : Stopped (disk_after phases d (length phases)) [] c =
          subst (λ (ws : Writes). Stopped (disk_after phases d (length phases)) ws c) (get_or-eq_default phases [] (omega arith)) stop in
          subst (λ (y : Sectors). denotes y new) (sym (stopped_none (disk_after phases d (length phases)) c none)) end_new

      within : (switch : Option ℕ) → LayoutsAre denotes reads phases d old new (length phases) switch → (i : ℕ) → i < length phases
          → (c : Sectors) → StoppedIn phases d i c
          → Switches (denotes c) old new (switch_number switch) (i + 1)
      within None olds i lt c stop =
          let same : old ≡ new = one (disk_after phases d (length phases)) old new (olds (length phases) (omega arith)) end_new in
          let is_old : denotes c old =
          ⊎_elim (λ on. on old (olds i (omega (arith, lt)))) (λ on. on old (olds (i + 1) (omega (arith, lt))))
          (stop_or i lt (calm i lt) c stop) in
          record {
            before = λ none. absurd (omega (arith, none));
            inside = λ none. absurd (omega (arith, none));
            past = λ at. subst (denotes c) same is_old;
          }
      within (Some s) (pos, most, differ, olds, news) i lt c stop = record {
        before = λ at. ⊎_elim (λ on. on old (olds i (omega (arith, at)))) (λ on. on old (olds (i + 1) at))
            (stop_or i lt (calm i lt) c stop);
        inside = λ at. ⊎_elim (λ on. inl (on old (olds i (omega (arith, at)))))
            (λ on. inr (on new (news (i + 1) (omega (arith, at)) (omega (arith, lt))))) (stop_or i lt (calm i lt) c stop);
        past = λ at. ⊎_elim (λ on. on new (news i (omega (arith, at)) (omega (arith, lt))))
            (λ on. on new (news (i + 1) (omega (arith, at)) (omega (arith, lt)))) (stop_or i lt (calm i lt) c stop);
      }

      at_end : (switch : Option ℕ) → LayoutsAre denotes reads phases d old new (length phases) switch → (i : ℕ) → i ≡ length phases
          → (c : Sectors) → StoppedIn phases d i c
          → Switches (denotes c) old new (switch_number switch) (i + 1)
      at_end switch layouts i is c stop =
          let is_new : denotes c new = past_end c (subst (λ (j : ℕ). StoppedIn phases d j c) is stop) in
          let below : switch_number switch ≤ length phases = most_number switch layouts in
          record { before = λ at. absurd (omega (arith, at, below, is)); inside = λ at. inr is_new; past = λ at. is_new }
        where
          most_number : (switch : Option ℕ) → LayoutsAre denotes reads phases d old new (length phases) switch
              → switch_number switch ≤ length phases
          most_number None olds = omega arith
          most_number (Some s) (pos, most, differ, olds, news) = most

      -- each disk stopped in a phase denotes the layout that the switch says
      pub stops : (switch : Option ℕ) → LayoutsAre denotes reads phases d old new (length phases) switch → (i : ℕ) → i ≤ length phases
          → (c : Sectors) → StoppedIn phases d i c
          → Switches (denotes c) old new (switch_number switch) (i + 1)
      stops switch layouts i le c stop = ⊎_elim
          (λ lt. within switch layouts i lt c stop)
          (λ past. at_end switch layouts i (omega (arith, le, past)) c stop)
          (cases_lt i (length phases))
