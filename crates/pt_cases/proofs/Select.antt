-- The writes that are left of a plan's targets, when those that hold already are left out.
use Rattle.std.proofs.Common.{◌≡◌, ◌∙◌, inl, inr, ℕ, zero, suc, ◌<◌, List, [], ◌∷◌, length, filter, cond, Bool, true, false, refl}
use Rattle.std.proofs.Common.{sym, ap, arith}
use Rattle.std.specs.Prelude.{◌↔◌}
use Rattle.pt_sector.specs.Sectors.{Sectors, sector, Writes, Puts, sector_at, IsAscending}
use Rattle.pt_cases.specs.Writes.{ComesToHold}

-- each sector is below those after it
abbrev pub Rises : Writes → Type 0
Rises [] = Unit {0}
Rises (w ∷ ws) = ((s : ℕ) (v : List ℕ) → Puts ws s v → w.0 < s) × Rises ws

puts_index : (ws : Writes) (i : ℕ) → i < length ws → (v : List ℕ) × Puts ws (sector_at ws i) v
puts_index [] i lt = absurd (omega (arith, lt))
puts_index (w ∷ ws) zero lt = (w.1, inl (refl, refl))
puts_index (w ∷ ws) (suc i) lt = let later = puts_index ws i (omega (arith, lt)) in (later.0, inr later.1)

pub rises_ascends : (ws : Writes) → Rises ws → IsAscending ws
rises_ascends [] rises i j less lt = absurd (omega (arith, lt))
rises_ascends (w ∷ ws) rises i zero less lt = absurd (omega (arith, less))
rises_ascends (w ∷ ws) rises zero (suc j) less lt = let it = puts_index ws j (omega (arith, lt)) in rises.0 (sector_at ws j) it.0 it.1
rises_ascends (w ∷ ws) rises (suc i) (suc j) less lt = rises_ascends ws rises.1 i j (omega (arith, less)) (omega (arith, lt))

-- one value a sector
pub rises_one : (ws : Writes) (s : ℕ) (v x : List ℕ) → Rises ws → Puts ws s v → Puts ws s x → v ≡ x
rises_one [] s v x rises p q = absurd p
rises_one (w ∷ ws) s v x rises (inl p) (inl q) = sym p.1 ∙ q.1
rises_one (w ∷ ws) s v x rises (inl p) (inr q) = let less = rises.0 s x q in absurd (omega (arith, less, p.0))
rises_one (w ∷ ws) s v x rises (inr p) (inl q) = let less = rises.0 s v p in absurd (omega (arith, less, q.0))
rises_one (w ∷ ws) s v x rises (inr p) (inr q) = rises_one ws s v x rises.1 p q

module _ (pick : ℕ × List ℕ → Bool) where
  -- what is picked is there, and is picked
  pub picked : (ws : Writes) (s : ℕ) (v : List ℕ) → Puts (filter pick ws) s v → Puts ws s v × (pick (s, v) ≡ true)
  picked [] s v puts = absurd puts
  picked (w ∷ ws) s v puts = by_test (λ there. (let it = picked ws s v there in (inr it.0, it.1))) (pick w) refl puts where
    by_test : (Puts (filter pick ws) s v → Puts (w ∷ ws) s v × (pick (s, v) ≡ true)) → (is : Bool) → pick w ≡ is
        → Puts (cond is (w ∷ filter pick ws) (filter pick ws)) s v → Puts (w ∷ ws) s v × (pick (s, v) ≡ true)
    by_test later true so (inl here) = (inl here, ap pick (λ i. (sym here.0 i, sym here.1 i)) ∙ so)
    by_test later true so (inr there) = later there
    by_test later false so there = later there

  pub picks : (ws : Writes) (s : ℕ) (v : List ℕ) → Puts ws s v → pick (s, v) ≡ true → Puts (filter pick ws) s v
  picks [] s v puts so = absurd puts
  picks (w ∷ ws) s v puts so = by_test (λ there. picks ws s v there so) (pick w) refl puts where
    by_test : (Puts ws s v → Puts (filter pick ws) s v) → (is : Bool) → pick w ≡ is → Puts (w ∷ ws) s v
        → Puts (cond is (w ∷ filter pick ws) (filter pick ws)) s v
    by_test later true it (inl here) = inl here
    by_test later true it (inr there) = inr (later there)
    by_test later false it (inl here) = (let both : false ≡ true = sym it ∙ ap pick (λ i. (here.0 i, here.1 i)) ∙ so in absurd cc)
    by_test later false it (inr there) = later there

  pub picked_rise : (ws : Writes) → Rises ws → Rises (filter pick ws)
  picked_rise [] rises = tt
  picked_rise (w ∷ ws) rises = elim (pick w) as (λ (is : Bool). Rises (cond is (w ∷ filter pick ws) (filter pick ws))) [
    | true ↦ (λ s v puts. rises.0 s v (picked ws s v puts).0, picked_rise ws rises.1)
    | false ↦ picked_rise ws rises.1
  ]

  -- where all that isn't picked holds already, each target ends as it is to
  pub picked_ends : (d : Sectors) (ws : Writes) → Rises ws → ((s : ℕ) (v : List ℕ) → Puts ws s v → pick (s, v) ≡ false → v ≡ sector d s)
      → (s : ℕ) (v : List ℕ) → Puts ws s v → ComesToHold d (filter pick ws) s v
  picked_ends d ws rises holds s v puts = by_test (pick (s, v)) refl where
    by_test : (is : Bool) → pick (s, v) ≡ is → ComesToHold d (filter pick ws) s v
    by_test true it = inl (picks ws s v puts it)
    by_test false it = inr (
      holds s v puts it,
      λ x again.
          let there = picked ws s x again in
          let same : x ≡ v = rises_one ws s x v rises there.0 puts in
          let both : false ≡ true = sym it ∙ ap (λ (y : List ℕ). pick (s, y)) (sym same) ∙ there.1 in
          absurd cc,
    )

-- the same writes in another order end alike
pub ends_alike : (d : Sectors) (a c : Writes) → ((s : ℕ) (v : List ℕ) → Puts a s v ↔ Puts c s v) → (s : ℕ) (v : List ℕ)
    → ComesToHold d a s v
    → ComesToHold d c s v
ends_alike d a c same s v (inl puts) = inl ((same s v).0 puts)
ends_alike d a c same s v (inr (is, never)) = inr (is, λ x puts. never x ((same s x).1 puts))
