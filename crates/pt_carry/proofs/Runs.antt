-- Runs of sectors, one after the other.
use Rattle.std.proofs.Common.{◌≡◌, ◌∙◌, ◌⊎◌, inl, inr, ⊎_elim, ℕ, zero, suc, ◌+◌, ◌<◌, ◌≤◌, List, [], ◌∷◌}
use Rattle.std.proofs.Common.{◌++◌, length, take, get_or, slice_get}
use Rattle.std.proofs.Common.{Some, sym, ap, subst, arith}
use Rattle.std.proofs.lemmas.List.{take_more}
use Rattle.pt_sector.specs.declared.address.Extent.{Extent}
use Rattle.pt_apply.proofs.Items.{take-all}
use Rattle.pt_carry.specs.Data.{InRun, IsIn}

in_append : (runs : List Extent) (run : Extent) (t : ℕ) → IsIn (runs ++ run ∷ []) t → IsIn runs t ⊎ InRun run t
in_append [] run t (inl here) = inr here
in_append [] run t (inr none) = absurd none
in_append (x ∷ runs) run t (inl here) = inl (inl here)
in_append (x ∷ runs) run t (inr there) = ⊎_elim (λ before. inl (inr before)) (λ last. inr last) (in_append runs run t there)

-- those up to a run are those before it, and its own
pub in_more : (runs : List Extent) (i : ℕ) (run : Extent) → i < length runs → run ≡ get_or runs i run → (t : ℕ)
    → IsIn (take (i + 1) runs) t → IsIn (take i runs) t ⊎ InRun run t
in_more runs i run lt is t within =
    let more : take (i + 1) runs ≡ take i runs ++ run ∷ [] =
    take_more runs i run lt ∙ ap (λ (x : Extent). take i runs ++ x ∷ []) (sym is) in
    in_append (take i runs) run t (subst (λ (l : List Extent). IsIn l t) more within)

-- a sector of a run is one of the runs
pub in_some : (runs : List Extent) (i : ℕ) (run : Extent) → i < length runs → run ≡ get_or runs i run → (t : ℕ) → InRun run t → IsIn runs t
in_some [] i run lt is t within = absurd (omega (arith, lt))
in_some (x ∷ runs) zero run lt is t within = inl (subst (λ (y : Extent). InRun y t) is within)
in_some (x ∷ runs) (suc i) run lt is t within = inr (in_some runs i run (omega (arith, lt)) is t within)

pub in_all : (runs : List Extent) (i : ℕ) → length runs ≤ i → (t : ℕ) → IsIn runs t → IsIn (take i runs) t
in_all runs i le t within = subst (λ (l : List Extent). IsIn l t) (sym (take-all runs i le)) within

pub got : (runs : List Extent) (i : ℕ) (run : Extent) → i < length runs → run ≡ get_or runs i run → slice_get runs i ≡ Some run
got [] i run lt is = absurd (omega (arith, lt))
got (x ∷ runs) zero run lt is = ap (λ (y : Extent). Some y) (sym is)
got (x ∷ runs) (suc i) run lt is = got runs i run (omega (arith, lt)) is

-- the last sector of each run is below a bound that each of its sectors is
pub last_below : (runs : List Extent) (i n : ℕ) (run : Extent) → i < length runs → run ≡ get_or runs i run → run.first ≤ run.last
    → ((s : ℕ) → IsIn runs s → s < n) → run.last < n
last_below runs i n run lt is ordered below = below run.last (in_some runs i run lt is run.last (ordered, omega arith))
