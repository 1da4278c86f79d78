-- What was picked is a disk that a stop may leave.
use Rattle.std.proofs.Common.{◌≡◌, ◌∙◌, ◌⊎◌, inl, inr, ℕ, zero, suc, ◌+◌, ◌<◌, ◌≤◌, List, [], ◌∷◌, length, get_or, cond, Bool, true}
use Rattle.std.proofs.Common.{false, drop, min, refl, sym, ap, arith, subst}
use Rattle.std.specs.Prelude.{slice_index}
use Rattle.std.proofs.lemmas.Bool.{cases_eq}
use Rattle.std.proofs.lemmas.Bool.Decides.{nat_tests}
use Rattle.std.proofs.lemmas.List.{drop-drop, get_or-drop}
use Rattle.pt_sector.specs.Sectors.{Sectors, sector, Writes, Stopped, Puts}
use Rattle.pt_disks.specs.Stops.{values, is_pending, chosen, pending_below, IsPicked}
use Rattle.pt_disks.specs.inner.Stops.{picked}

on_same : (w : ℕ × List ℕ) (ws : Writes) (k : ℕ) → w.0 ≡ k → values (w ∷ ws) k ≡ w.1 ∷ values ws k
on_same w ws k same = grind (arith, nat_tests)

on_other : (w : ℕ × List ℕ) (ws : Writes) (k : ℕ) → (w.0 ≡ k → ⊥) → values (w ∷ ws) k ≡ values ws k
on_other w ws k other = grind (arith, nat_tests)

values_here : (w : ℕ × List ℕ) (ws : Writes) (k m : ℕ) (s : List ℕ) → w.0 ≡ k
    → ((n : ℕ) → n < length (values ws k) → Puts ws k (get_or (values ws k) n s))
    → m < length (w.1 ∷ values ws k) → Puts (w ∷ ws) k (get_or (w.1 ∷ values ws k) m s)
values_here w ws k zero s same rest lt = inl (same, refl)
values_here w ws k (suc n) s same rest lt = inr (rest n (omega (arith, lt)))

values_put : (ws : Writes) (k m : ℕ) (s : List ℕ) → m < length (values ws k) → Puts ws k (get_or (values ws k) m s)
values_put [] k m s lt = absurd (omega (arith, lt))
values_put (w ∷ ws) k m s lt =
    let rest : (n : ℕ) → n < length (values ws k) → Puts ws k (get_or (values ws k) n s) = λ n below. values_put ws k n s below in
    elim (cases_eq w.0 k) [
      | inl same ↦
          let on : values (w ∷ ws) k ≡ w.1 ∷ values ws k = on_same w ws k same in
          subst (λ (vs : List (List ℕ)). Puts (w ∷ ws) k (get_or vs m s)) (sym on)
          (values_here w ws k m s same rest (subst (λ (vs : List (List ℕ)). m < length vs) on lt))
      | inr other ↦
          let off : values (w ∷ ws) k ≡ values ws k = on_other w ws k other in
          subst (λ (vs : List (List ℕ)). Puts (w ∷ ws) k (get_or vs m s)) (sym off)
          (inr (rest m (subst (λ (vs : List (List ℕ)). m < length vs) off lt)))
    ]

chosen_or : (ws : Writes) (k j : ℕ) (s : List ℕ) → (chosen s (values ws k) j ≡ s) ⊎ Puts ws k (chosen s (values ws k) j)
chosen_or ws k j s = go (min j (length (values ws k))) (omega arith)
  where
    go : (m : ℕ) → m ≤ length (values ws k) → (get_or (s ∷ values ws k) m s ≡ s) ⊎ Puts ws k (get_or (s ∷ values ws k) m s)
    go zero le = inl refl
    go (suc m) le = inr (values_put ws k m s (omega (arith, le)))

length-picked : (ws : Writes) (k : ℕ) (cs : List ℕ) (d : Sectors) → length (picked ws k cs d) ≡ length d
length-picked ws k cs [] = refl
length-picked ws k cs (s ∷ d) = ap (λ (n : ℕ). suc n) (length-picked ws (k + 1) (cond (is_pending ws k) (drop 1 cs) cs) d)

each : (ws : Writes) (k : ℕ) (cs : List ℕ) (d : Sectors) (i : ℕ) → i < length d
    → (sector (picked ws k cs d) i ≡ sector d i) ⊎ Puts ws (k + i) (sector (picked ws k cs d) i)
each ws k cs [] i lt = absurd (omega (arith, lt))
each ws k cs (s ∷ d) zero lt = let same : k + 0 ≡ k = omega arith in rw same (chosen_or ws k (slice_index cs 0) s)
each ws k cs (s ∷ d) (suc i) lt =
    let same : k + suc i ≡ (k + 1) + i = omega arith in
    rw same (each ws (k + 1) (cond (is_pending ws k) (drop 1 cs) cs) d i (omega (arith, lt)))

pub stopped_picked : (ws : Writes) (cs : List ℕ) (d : Sectors) → Stopped d ws (picked ws 0 cs d)
stopped_picked ws cs d = record {
  same_count = length-picked ws 0 cs d;
  each = λ k lt. let same : 0 + k ≡ k = omega arith in rw same at (each ws 0 cs d k lt);
}

-- each sector takes its choice

next_choices : (ws : Writes) (k : ℕ) (cs : List ℕ)
    → cond (is_pending ws k) (drop 1 (drop (pending_below ws k) cs)) (drop (pending_below ws k) cs) ≡ drop (pending_below ws (suc k)) cs
next_choices ws k cs = by_case (is_pending ws k)
  where
    by_case : (b : Bool)
        → cond b (drop 1 (drop (pending_below ws k) cs)) (drop (pending_below ws k) cs) ≡ drop
        (cond b (pending_below ws k + 1) (pending_below ws k)) cs
    by_case true = drop-drop 1 (pending_below ws k) cs
    by_case false = refl

takes_choice : (ws : Writes) (k : ℕ) (cs : List ℕ) (d : Sectors) (i : ℕ) → i < length d
    → sector (picked ws k (drop (pending_below ws k) cs) d) i ≡ chosen (sector d i) (values ws (k + i))
    (slice_index cs (pending_below ws (k + i)))
takes_choice ws k cs [] i lt = absurd (omega (arith, lt))
takes_choice ws k cs (s ∷ d) zero lt =
    let same : k + 0 ≡ k = omega arith in
    let none_more : pending_below ws k + 0 ≡ pending_below ws k = omega arith in
    let first : slice_index (drop (pending_below ws k) cs) 0 ≡ slice_index cs (pending_below ws k) =
    get_or-drop (pending_below ws k) cs 0 0 ∙ ap (λ (j : ℕ). slice_index cs j) none_more in
    rw same (ap (λ (j : ℕ). chosen s (values ws k) j) first)
takes_choice ws k cs (s ∷ d) (suc i) lt =
    let same : k + suc i ≡ suc k + i = omega arith in
    let next : k + 1 ≡ suc k = omega arith in
    rw same (ap (λ (l : List ℕ). sector (picked ws (k + 1) l d) i) (next_choices ws k cs)
    ∙ rw next (takes_choice ws (suc k) cs d i (omega (arith, lt))))

pub is_picked : (ws : Writes) (cs : List ℕ) (d : Sectors) → IsPicked d ws cs (picked ws 0 cs d)
is_picked ws cs d = record {
  same_count = length-picked ws 0 cs d;
  each = λ k lt. let same : 0 + k ≡ k = omega arith in rw same at (takes_choice ws 0 cs d k lt);
}
