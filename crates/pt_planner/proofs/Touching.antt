-- The steps of the loops over writes and over phases.
use Rattle.std.proofs.Common.{◌≡◌, ◌↔◌, ◌∙◌, ◌⊎◌, inl, inr, ⊎_elim, ℕ, zero, suc, ◌+◌, ◌<◌, ◌≤◌, List, [], ◌∷◌, length, take, get_or, min}
use Rattle.std.proofs.Common.{refl, sym, ap, subst, arith, IsTrue, true, false, Vec}
use Rattle.std.specs.declared.alloc.Global.{Global}
use Rattle.std.proofs.lemmas.Bool.{cases_lt}
use Rattle.std.proofs.lemmas.List.{take_all, take-map, length-map}
use Rattle.pt_sector.specs.Sectors.{Writes, Puts}
use Rattle.pt_apply.specs.Plans.{writes_of, writes_in}
use Rattle.pt_apply.specs.inner.Plans.{phases_in}
use Rattle.pt_apply.specs.declared.plan.Write.{Write}
use Rattle.pt_apply.proofs.Puts.{puts_split, puts_left, puts_right}
use Rattle.pt_planner.specs.inner.Phases.{Touches}

-- what a test that failed says
pub unless : (P : Type 0) → (IsTrue false ↔ P) → ¬ P
unless P says holds = (let never : false ≡ true = says.1 holds in absurd cc)

pub when : (P : Type 0) → (IsTrue true ↔ P) → P
when P says = says.0 refl

pub yes : (P : Type 0) → P → IsTrue true ↔ P
yes P holds = ((λ it. holds), (λ it. refl))

pub no_touch : (P : Type 0) → ¬ P → IsTrue false ↔ P
no_touch P never = ((λ it. (let wrong : false ≡ true = it in absurd cc)), (λ it. absurd (never it)))

module _ {b : ℕ} (P : ℕ → Type 0) where
  pub write_touches : (ws : List (Write b)) (i : ℕ) (w : Write b) → i < length ws → w ≡ get_or ws i w → P w.lba.0 → Touches P (writes_of ws)
  write_touches [] i w lt at holds = absurd (omega (arith, lt))
  write_touches (x ∷ ws) zero w lt at holds =
      (w.lba.0, w.bytes, inl (ap (λ (y : Write b). y.lba.0) (sym at), ap (λ (y : Write b). y.bytes) (sym at)), holds)
  write_touches (x ∷ ws) (suc i) w lt at holds =
      (let later = write_touches ws i w (omega (arith, lt)) at holds in (later.0, later.1, inr later.2, later.3))

  split_write : (ws : List (Write b)) (i : ℕ) (w : Write b) → i < length ws → w ≡ get_or ws i w
      → Touches P (writes_of (take (suc i) ws)) → P w.lba.0 ⊎ Touches P (writes_of (take i ws))
  split_write [] i w lt at it = absurd (omega (arith, lt))
  split_write (x ∷ ws) zero w lt at (s, v, inl put, holds) = inl (subst (λ (y : Write b). P y.lba.0) (sym at) (subst P (sym put.0) holds))
  split_write (x ∷ ws) zero w lt at (s, v, inr rest, holds) = absurd rest
  split_write (x ∷ ws) (suc i) w lt at (s, v, inl put, holds) = inr (s, v, inl put, holds)
  split_write (x ∷ ws) (suc i) w lt at (s, v, inr rest, holds) = ⊎_elim
      (λ here. inl here)
      (λ there. inr (there.0, there.1, inr there.2, there.3))
      (split_write ws i w (omega (arith, lt)) at (s, v, rest, holds))

  pub write_more : (ws : List (Write b)) (i : ℕ) (w : Write b) → i < length ws → w ≡ get_or ws i w → ¬ Touches P (writes_of (take i ws))
      → ¬ P w.lba.0 → ¬ Touches P (writes_of (take (i + 1) ws))
  write_more ws i w lt at none never it =
      let next : i + 1 ≡ suc i = omega arith in
      ⊎_elim never none (split_write ws i w lt at (subst (λ (k : ℕ). Touches P (writes_of (take k ws))) next it))

  pub write_none : (ws : List (Write b)) (i : ℕ) → length ws ≤ i → ¬ Touches P (writes_of (take i ws)) → ¬ Touches P (writes_of ws)
  write_none ws i past none = subst (λ (l : List (Write b)). ¬ Touches P (writes_of l)) (take_all i ws past) none

  pub phase_touches : (ps : List (Vec (Write b) Global)) (i : ℕ) (p : Vec (Write b) Global) → i < length ps → p ≡ get_or ps i p
      → Touches P (writes_of p.items) → Touches P (writes_in (phases_in ps))
  phase_touches [] i p lt at holds = absurd (omega (arith, lt))
  phase_touches (x ∷ ps) zero p lt at holds =
      let here : Touches P (writes_of x.items) = subst (λ (y : Vec (Write b) Global). Touches P (writes_of y.items)) at holds in
      (here.0, here.1, puts_left (writes_of x.items) (writes_in (phases_in ps)) here.0 here.1 here.2, here.3)
  phase_touches (x ∷ ps) (suc i) p lt at holds =
      let later = phase_touches ps i p (omega (arith, lt)) at holds in
      (later.0, later.1, puts_right (writes_of x.items) (writes_in (phases_in ps)) later.0 later.1 later.2, later.3)

  split_phase : (ps : List (Vec (Write b) Global)) (i : ℕ) (p : Vec (Write b) Global) → i < length ps → p ≡ get_or ps i p
      → Touches P (writes_in (phases_in (take (suc i) ps)))
      → Touches P (writes_of p.items) ⊎ Touches P (writes_in (phases_in (take i ps)))
  split_phase [] i p lt at it = absurd (omega (arith, lt))
  split_phase (x ∷ ps) zero p lt at (s, v, puts, holds) = ⊎_elim
      (λ here. inl (s, v, subst (λ (y : Vec (Write b) Global). Puts (writes_of y.items) s v) (sym at) here, holds))
      (λ nothing. absurd nothing)
      (puts_split (writes_of x.items) (writes_in (phases_in (take 0 ps))) s v puts)
  split_phase (x ∷ ps) (suc i) p lt at (s, v, puts, holds) = ⊎_elim
      (λ here. inr (s, v, puts_left (writes_of x.items) (writes_in (phases_in (take i ps))) s v here, holds))
      (λ rest. ⊎_elim
      (λ it. inl it)
      (λ there. inr (there.0, there.1, puts_right (writes_of x.items) (writes_in (phases_in (take i ps))) there.0 there.1 there.2, there.3))
      (split_phase ps i p (omega (arith, lt)) at (s, v, rest, holds)))
      (puts_split (writes_of x.items) (writes_in (phases_in (take (suc i) ps))) s v puts)

  pub phase_more : (ps : List (Vec (Write b) Global)) (i : ℕ) (p : Vec (Write b) Global) → i < length ps → p ≡ get_or ps i p
      → ¬ Touches P (writes_in (phases_in (take i ps)))
      → ¬ Touches P (writes_of p.items) → ¬ Touches P (writes_in (phases_in (take (i + 1) ps)))
  phase_more ps i p lt at none never it =
      let next : i + 1 ≡ suc i = omega arith in
      ⊎_elim never none (split_phase ps i p lt at (subst (λ (k : ℕ). Touches P (writes_in (phases_in (take k ps)))) next it))

  pub phase_none : (ps : List (Vec (Write b) Global)) (i : ℕ) → length ps ≤ i → ¬ Touches P (writes_in (phases_in (take i ps)))
      → ¬ Touches P (writes_in (phases_in ps))
  phase_none ps i past none = subst (λ (l : List (Vec (Write b) Global)). ¬ Touches P (writes_in (phases_in l))) (take_all i ps past) none

abbrev writes : {b : ℕ} → Vec (Write b) Global → Writes
writes p = writes_of p.items

-- the first phases, as far as there are any
first_of : {b : ℕ} (ps : List (Vec (Write b) Global)) (i : ℕ) → phases_in (take (min i (length ps)) ps) ≡ take i (phases_in ps)
first_of {b = b} ps i = ⊎_elim
    (λ less.
    let count : min i (length ps) ≡ i = omega (arith, less) in
    ap (λ (k : ℕ). phases_in (take k ps)) count ∙ sym (take-map (writes {b = b}) i ps))
    (λ past.
    let count : min i (length ps) ≡ length ps = omega (arith, past) in
    ap (λ (k : ℕ). phases_in (take k ps)) count ∙ ap phases_in (take_all (length ps) ps (omega arith))
    ∙ sym (take_all i (phases_in ps) (omega (arith, past, length-map ps (writes {b = b})))))
    (cases_lt i (length ps))

module _ {b : ℕ} (P : ℕ → Type 0) (ps seen : List (Vec (Write b) Global)) (count k many : ℕ) (same : seen ≡ ps) (is : count ≡ min k many)
    (of : many ≡ length ps) where
  first_seen : phases_in (take count seen) ≡ take k (phases_in ps)
  first_seen = (λ j. phases_in (take (is j) (same j))) ∙ ap (λ (n : ℕ). phases_in (take (min k n) ps)) of ∙ first_of ps k

  pub first_touch : Touches P (writes_in (phases_in (take count seen))) → Touches P (writes_in (take k (phases_in ps)))
  first_touch it = subst (λ (qs : List Writes). Touches P (writes_in qs)) first_seen it

  pub first_free : ¬ Touches P (writes_in (phases_in (take count seen))) → ¬ Touches P (writes_in (take k (phases_in ps)))
  first_free none = subst (λ (qs : List Writes). ¬ Touches P (writes_in qs)) first_seen none

-- the writes of all phases, as they are lent
module _ {b : ℕ} (P : ℕ → Type 0) (ps seen : List (Vec (Write b) Global)) (same : seen ≡ ps) where
  pub lent_touch : Touches P (writes_in (phases_in seen)) → Touches P (writes_in (phases_in ps))
  lent_touch it = subst (λ (l : List (Vec (Write b) Global)). Touches P (writes_in (phases_in l))) same it

  pub lent_free : ¬ Touches P (writes_in (phases_in seen)) → ¬ Touches P (writes_in (phases_in ps))
  lent_free none = subst (λ (l : List (Vec (Write b) Global)). ¬ Touches P (writes_in (phases_in l))) same none
