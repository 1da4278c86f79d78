-- The phase at an index, and the writes from an index on.
use Rattle.std.proofs.Common.{◌≡◌, ℕ, zero, suc, ◌+◌, ◌<◌, List, [], ◌∷◌, length, drop, get_or, sym, ap, arith, add-one, Vec}
use Rattle.std.specs.declared.alloc.Global.{Global}
use Rattle.pt_apply.specs.Plans.{writes_of}
use Rattle.pt_apply.specs.inner.Plans.{phases_in}
use Rattle.pt_apply.specs.declared.plan.Write.{Write}

pub drop-writes : {b : _} (ws : List (Write b)) (i : ℕ) (w : Write b) → i < length ws → w ≡ get_or ws i w
    → drop i (writes_of ws) ≡ (w.lba.0, w.bytes) ∷ drop (i + 1) (writes_of ws)
drop-writes [] i w lt is = absurd (omega (arith, lt))
drop-writes (x ∷ ws) zero w lt is = ap (λ (y : Write _). (y.lba.0, y.bytes) ∷ writes_of ws) (sym is)
drop-writes (x ∷ ws) (suc i) w lt is = rw add-one (rw add-one at (drop-writes ws i w (omega (arith, lt)) is))

pub phase-at : {b : _} (ps : List (Vec (Write b) Global)) (i : ℕ) (p : Vec (Write b) Global) → i < length ps → p ≡ get_or ps i p
    → get_or (phases_in ps) i [] ≡ writes_of p.items
phase-at [] i p lt is = absurd (omega (arith, lt))
phase-at (x ∷ ps) zero p lt is = ap (λ (y : Vec (Write _) Global). writes_of y.items) (sym is)
phase-at (x ∷ ps) (suc i) p lt is = phase-at ps i p (omega (arith, lt)) is
