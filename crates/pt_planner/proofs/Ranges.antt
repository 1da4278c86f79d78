-- Writes and phases as lists of numbers and bytes, and what holds of each.
use Rattle.std.proofs.Common.{◌≡◌, inl, inr, ℕ, zero, suc, ◌+◌, ◌<◌, List, [], ◌∷◌, ◌++◌, length, slice_index_or, refl, subst, arith}
use Rattle.std.proofs.Common.{length-append, Vec}
use Rattle.std.proofs.lemmas.List.{map-append, length-map}
use Rattle.std.specs.declared.alloc.Global.{Global}
use Rattle.pt_sector.specs.Sectors.{Writes, Puts}
use Rattle.pt_apply.specs.Plans.{writes_of, PhaseInRange, writes_in}
use Rattle.pt_apply.specs.inner.Plans.{phases_in}
use Rattle.pt_apply.specs.declared.plan.Write.{Write}
use Rattle.pt_apply.proofs.Puts.{puts_left, puts_right}

pub writes_both : {b : _} (ws xs : List (Write b)) → writes_of (ws ++ xs) ≡ writes_of ws ++ writes_of xs
writes_both ws xs = map-append (λ (x : Write _). (x.lba.0, x.bytes)) ws xs

pub writes_more : {b : _} (ws : List (Write b)) (w : Write b) → writes_of (ws ++ w ∷ []) ≡ writes_of ws ++ (w.lba.0, w.bytes) ∷ []
writes_more ws w = writes_both ws (w ∷ [])

pub phases_more : {b : _} (ps : List (Vec (Write b) Global)) (p : Vec (Write b) Global)
    → phases_in (ps ++ p ∷ []) ≡ phases_in ps ++ writes_of p.items ∷ []
phases_more ps p = map-append (λ (x : Vec (Write _) Global). writes_of x.items) ps (p ∷ [])

pub length_writes : {b : _} (ws : List (Write b)) → length (writes_of ws) ≡ length ws
length_writes ws = length-map ws (λ (x : Write _). (x.lba.0, x.bytes))

pub length_phases : {b : _} (ps : List (Vec (Write b) Global)) → length (phases_in ps) ≡ length ps
length_phases ps = length-map ps (λ (v : Vec (Write _) Global). writes_of v.items)

-- what is in range is written in range
pub puts_below : {b : _} (n : ℕ) (ws : List (Write b)) (s : ℕ) (v : List ℕ) → PhaseInRange n ws → Puts (writes_of ws) s v → s < n
puts_below n [] s v each puts = absurd puts
puts_below n (w ∷ ws) s v each (inl here) = subst (λ (j : ℕ). j < n) here.0 (each 0 w (omega arith))
puts_below n (w ∷ ws) s v each (inr there) = puts_below n ws s v (λ k d lt. each (suc k) d (omega (arith, lt))) there

-- and the other way round
pub phase_below : {b : _} (n : ℕ) (ws : List (Write b)) → ((s : ℕ) (v : List ℕ) → Puts (writes_of ws) s v → s < n)
    → (k : ℕ) (d : Write b) → k < length ws → (slice_index_or ws k d).lba.0 < n
phase_below n [] each k d lt = absurd (omega (arith, lt))
phase_below n (w ∷ ws) each zero d lt = each w.lba.0 w.bytes (inl (refl, refl))
phase_below n (w ∷ ws) each (suc k) d lt = phase_below n ws (λ s v puts. each s v (inr puts)) k d (omega (arith, lt))

pub phases_below : {b : _} (n : ℕ) (ps : List (Vec (Write b) Global))
    → ((s : ℕ) (v : List ℕ) → Puts (writes_in (phases_in ps)) s v → s < n) → (k : ℕ) (d : Vec (Write b) Global) → k < length ps
    → PhaseInRange n (slice_index_or ps k d).items
phases_below n [] each k d lt = absurd (omega (arith, lt))
phases_below n (p ∷ ps) each zero d lt =
    phase_below n p.items (λ s v puts. each s v (puts_left (writes_of p.items) (writes_in (phases_in ps)) s v puts))
phases_below n (p ∷ ps) each (suc k) d lt =
    phases_below n ps (λ s v puts. each s v (puts_right (writes_of p.items) (writes_in (phases_in ps)) s v puts)) k d (omega (arith, lt))

-- no phase of these is empty
abbrev pub NoneEmpty : List Writes → Type 0
NoneEmpty [] = Unit {0}
NoneEmpty (p ∷ ps) = (0 < length p) × NoneEmpty ps

pub phases_some : {b : _} (ps : List (Vec (Write b) Global)) → NoneEmpty (phases_in ps) → (k : ℕ) (d : Vec (Write b) Global)
    → k < length ps → 0 < length (slice_index_or ps k d).items
phases_some [] each k d lt = absurd (omega (arith, lt))
phases_some (p ∷ ps) each zero d lt = subst (λ (m : ℕ). 0 < m) (length_writes p.items) each.0
phases_some (p ∷ ps) each (suc k) d lt = phases_some ps each.1 k d (omega (arith, lt))

pub count_more : (p : Writes) (ps : List Writes) → length (writes_in (p ∷ ps)) ≡ length p + length (writes_in ps)
count_more p ps = length-append p (writes_in ps)
