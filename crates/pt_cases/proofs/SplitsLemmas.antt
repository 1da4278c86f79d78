-- Lemmas on what is left of some targets, by whether it is one write of a guarded sector.
use Rattle.std.proofs.Common.{◌≡◌, ◌∙◌, inl, inr, ⊎_elim, ℕ, ◌<◌, List, [], ◌∷◌, ◌++◌, refl, sym, subst, arith, Some, None, Bor}
use Rattle.std.specs.Prelude.{Contains}
use Rattle.std.proofs.lemmas.List.Elements.{All-nil, All-cons}
use Rattle.pt_sector.specs.Sectors.{Sectors, Writes, Puts, IsAscending}
use Rattle.pt_apply.specs.Plans.{writes_of, PhaseInRange}
use Rattle.pt_apply.specs.declared.plan.Write.{Write}
use Rattle.pt_recover.specs.Spans.{IsIn}
use Rattle.pt_recover.specs.declared.trace.TracedRun.{TracedRun}
use Rattle.pt_cases.specs.Writes.{one_write, ComesToHold}
use Rattle.pt_apply.proofs.Puts.{puts_split, puts_left, puts_right}
use Rattle.pt_cases.specs.Targets.{AllBelow, targeted, TellDisk, IsSplit, NotOneLoud, IsOneChange, NotOneChange, AreNewWrites}
use Rattle.pt_cases.specs.inner.Targets.{chosen_writes, only}
use Rattle.pt_cases.proofs.Chosen.{same_or_not, in_or_not}
use Rattle.pt_cases.proofs.SelectedLemmas.{selected_from, selected_all, selected_few, selected_ascend, selected_not, selected_not_one}
use Rattle.pt_cases.specs.declared.targets.target.Target.{Target}
use Rattle.pt_cases.specs.declared.targets.writes.Choice.{Choice}
use Rattle.pt_cases.specs.declared.targets.writes.Choice.TheVariants.{Unmet, Loud, Quiet, UnreadNew}

-- the one element of a list
pub only_one : {X : Type 0} (xs : List X) (x : X) → Some x ≡ only xs → xs ≡ x ∷ []
only_one [] x is = absurd cc
only_one (y ∷ []) x is = cc
only_one (y ∷ z ∷ xs) x is = absurd cc

module _ {b : ℕ} (guarded : Bor (List TracedRun)) (ts : List (Target b)) (up : IsAscending (targeted ts)) (loud : ℕ × List ℕ)
    (one : chosen_writes (Loud guarded) ts ≡ loud ∷ []) where
  abbrev quiet : Writes
  quiet = chosen_writes (Quiet guarded) ts

  abbrev last : Writes
  last = one_write loud.0 loud.1

  is_loud : (s : ℕ) (v : List ℕ) → Puts last s v → Puts (chosen_writes (Loud guarded) ts) s v
  is_loud s v puts = subst (λ (ws : Writes). Puts ws s v) (sym one) puts

  stayed : (t : Target b) → Contains ts t → t.bytes ≡ t.under → (x : List ℕ) → ¬ Puts (quiet ++ last) t.at.0 x
  stayed t has same x puts = ⊎_elim
      (λ left. selected_not (Quiet guarded) ts up t has (λ is. is.0 same) x left)
      (λ right. selected_not (Loud guarded) ts up t has (λ is. is.0 same) x (is_loud t.at.0 x right))
      (puts_split quiet last t.at.0 x puts)

  ended : (d : Sectors) → TellDisk d ts → (t : Target b) → Contains ts t → ComesToHold d (quiet ++ last) t.at.0 t.bytes
  ended d tell t has = ⊎_elim
      (λ same. inr (same ∙ tell t has, stayed t has same))
      (λ differs. ⊎_elim
      (λ is. inl (puts_right quiet last t.at.0 t.bytes
      (subst (λ (ws : Writes). Puts ws t.at.0 t.bytes) one (selected_all (Loud guarded) ts t has (differs, is)))))
      (λ not. inl (puts_left quiet last t.at.0 t.bytes (selected_all (Quiet guarded) ts t has (differs, not))))
      (in_or_not guarded.now t.at.0))
      (same_or_not t.bytes t.under)

  -- quiet writes and a loud one are a split
  pub split_one : (d : Sectors) → TellDisk d ts → IsSplit d guarded.now ts (chosen_writes (Quiet guarded) ts) loud
  split_one d tell = record {
    ascending = selected_ascend (Quiet guarded) ts up;
    few = selected_few (Quiet guarded) ts;
    unread = λ s v puts. (let it = selected_from (Quiet guarded) ts s v puts in
        λ is. it.2.1 (subst (IsIn guarded.now) (sym it.3) is));
    read = (let it = selected_from (Loud guarded) ts loud.0 loud.1 (is_loud loud.0 loud.1 (inl (refl, refl))) in
        subst (IsIn guarded.now) it.3 it.2.1);
    each = λ s v puts. ⊎_elim
        (λ left. (let it = selected_from (Quiet guarded) ts s v left in (it.0, (it.1, it.2.0), it.3, it.4)))
        (λ right. (let it = selected_from (Loud guarded) ts s v (is_loud s v right) in (it.0, (it.1, it.2.0), it.3, it.4)))
        (puts_split quiet last s v puts);
    ends = ended d tell;
    stays = stayed;
  }

module _ {b : ℕ} (ts : List (Target b)) (up : IsAscending (targeted ts)) where
  -- the writes of new labels
  pub new_are : (guarded : Bor (List TracedRun)) → AreNewWrites guarded.now ts (chosen_writes (UnreadNew guarded) ts)
  new_are guarded = record {
    ascending = selected_ascend (UnreadNew guarded) ts up;
    few = selected_few (UnreadNew guarded) ts;
    each = λ s v puts. (let it = selected_from (UnreadNew guarded) ts s v puts in
        (it.0, it.1, it.2.0, it.3, it.4, λ both. it.2.1 (both.0, subst (IsIn guarded.now) (sym it.3) both.1)));
    all = λ t has is_new unread. selected_all (UnreadNew guarded) ts t has (is_new, unread);
    others = λ t has other. selected_not (UnreadNew guarded) ts up t has (λ it. other it.0);
    there = λ t has is_new both. selected_not (UnreadNew guarded) ts up t has (λ it. it.1 both);
  }

  -- the one write that is left
  pub change_one : (loud : ℕ × List ℕ) → chosen_writes Unmet ts ≡ loud ∷ [] → (d : Sectors) → TellDisk d ts → IsOneChange d ts loud
  change_one loud one d tell =
      let put : Puts (chosen_writes Unmet ts) loud.0 loud.1 = subst (λ (ws : Writes). Puts ws loud.0 loud.1) (sym one) (inl (refl, refl)) in
      let it = selected_from Unmet ts loud.0 loud.1 put in
      record {
        target = it.0;
        change = (it.1, it.2);
        at = it.3;
        bytes = it.4;
        ends = λ t has. subst (λ (ws : Writes). ComesToHold d ws t.at.0 t.bytes) one (⊎_elim
            (λ same. inr (same ∙ tell t has, selected_not Unmet ts up t has (λ is. is same)))
            (λ differs. inl (selected_all Unmet ts t has differs))
            (same_or_not t.bytes t.under));
        stays = λ t has same x puts. selected_not Unmet ts up t has (λ is. is same) x
            (subst (λ (ws : Writes). Puts ws t.at.0 x) (sym one) puts);
      }

  pub loud_not_one : (guarded : Bor (List TracedRun)) → only (chosen_writes (Loud guarded) ts) ≡ None → NotOneLoud guarded.now ts
  loud_not_one guarded none = ⊎_elim
      (λ never. inl (λ t change is. never t change.0 (change.1, is)))
      (λ two. inr (two.0, two.1, (two.2, two.4.0), (two.3, two.5.0), two.4.1, two.5.1, two.6))
      (selected_not_one (Loud guarded) ts up none)

  pub change_not_one : only (chosen_writes Unmet ts) ≡ None → NotOneChange ts
  change_not_one none = ⊎_elim
      (λ never. inl (λ t change. never t change.0 change.1))
      (λ two. inr (two.0, two.1, (two.2, two.4), (two.3, two.5), two.6))
      (selected_not_one Unmet ts up none)

-- writes of sectors below n
pub writes_in_range : {b : ℕ} (n : ℕ) (ws : List (Write b)) → ((s : ℕ) (v : List ℕ) → Puts (writes_of ws) s v → s < n) → PhaseInRange n ws
writes_in_range n [] below = All-nil (λ (w : Write _). w.lba.0 < n)
writes_in_range n (w ∷ ws) below =
    All-cons (λ (x : Write _). x.lba.0 < n) w ws (below w.lba.0 w.bytes (inl (refl, refl)))
    (writes_in_range n ws (λ s v puts. below s v (inr puts)))

pub selected_in_range : {b : ℕ} (choice : Choice) (ts : List (Target b)) (ws : List (Write b)) → writes_of ws ≡ chosen_writes choice ts
    → (n : ℕ) → AllBelow n ts → PhaseInRange n ws
selected_in_range choice ts ws is n below = writes_in_range n ws (λ s v puts.
    let it = selected_from choice ts s v (subst (λ (l : Writes). Puts l s v) is puts) in
    let less = below it.0 it.1 in
    omega (arith, less, it.3))
