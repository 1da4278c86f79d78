-- Writes in range, of the flat list and of the plan.
use Rattle.std.proofs.Common.{◌≡◌, ◌∙◌, ⊎_elim, ℕ, ◌+◌, ◌<◌, List, ◌++◌, length, take, drop, get_or, slice_get, Some, refl, ap, arith}
use Rattle.std.proofs.Common.{Vec}
use Rattle.std.specs.declared.alloc.Global.{Global}
use Rattle.std.proofs.lemmas.Bool.{cases_lt}
use Rattle.std.proofs.lemmas.List.{get_or_default, length-map}
use Rattle.pt_sector.specs.Sectors.{Writes}
use Rattle.pt_apply.specs.Plans.{writes_of, writes_in, NoneIs}
use Rattle.pt_apply.proofs.Items.{PhasesInRange}
use Rattle.pt_apply.specs.inner.Plans.{phases_in}
use Rattle.pt_apply.specs.declared.plan.Write.{Write}
use Rattle.pt_check.proofs.Firsts.{get_left, get_right, write_at, writes_split}

below_or : (a n : ℕ) → ¬ ¬ (a < n) → a < n
below_or a n unlike = ⊎_elim (λ lt. lt) (λ ge. absurd (unlike (λ lt. omega (arith, lt, ge)))) (cases_lt a n)

pub in_range : {b : ℕ} (n : ℕ) (ps : List (Vec (Write b) Global)) → NoneIs (λ (w : ℕ × List ℕ). ¬ (w.0 < n)) (writes_in (phases_in ps))
    → PhasesInRange n ps
in_range n ps nothing = λ k d lt j e low. at k d lt j e low
  where
    at : (k : ℕ) (d : Vec (Write _) Global) → k < length ps → (j : ℕ) (e : Write _) → j < length (get_or ps k d).items
        → (get_or (get_or ps k d).items j e).lba.0 < n
    at k d lt j e low =
        let p : Vec (Write _) Global = get_or ps k d in
        let w : Write _ = get_or p.items j e in
        let len : length (writes_of p.items) ≡ length p.items = length-map p.items (λ (v : Write _). (v.lba.0, v.bytes)) in
        let whole : writes_in (phases_in ps) ≡ writes_in (take k
        (phases_in ps)) ++ (writes_of p.items ++ writes_in (drop (k + 1) (phases_in ps))) = writes_split ps k p lt
        (get_or_default ps k d p lt) in
        let here : slice_get (writes_in (phases_in ps)) (length (writes_in (take k (phases_in ps))) + j) ≡ Some (w.lba.0, w.bytes) =
        ap (λ (l : Writes). slice_get l (length (writes_in (take k (phases_in ps))) + j)) whole
        ∙ get_right (writes_in (take k (phases_in ps))) (writes_of p.items ++ writes_in (drop (k + 1) (phases_in ps))) _ j refl
        ∙ get_left (writes_of p.items) (writes_in (drop (k + 1) (phases_in ps))) j (omega (arith, low, len))
        ∙ write_at p.items j w low (get_or_default p.items j e w low) in
        below_or w.lba.0 n (nothing _ (w.lba.0, w.bytes) here)
