-- A disk has one fault at most.
use Rattle.std.proofs.Common.{◌≡◌, ◌<◌, ◌≤◌, ◌+◌, ℕ, List, [], ◌∷◌, length, Option, Some, None, refl, sym, ap, ◌∙◌, subst, arith, inl}
use Rattle.std.proofs.Common.{inr}
use Rattle.std.specs.Prelude.{◌⊎◌}
use Rattle.pt_sector.specs.Sectors.{Sectors, sector, Span}
use Rattle.pt_sector.specs.declared.address.Lba.{Lba}
use Rattle.pt_mbr.specs.Chain.{lba, IsUpward, EbrAt, Walk, FaultAt, ChainFault, IsDevice}
use Rattle.pt_mbr.specs.declared.ebr.Ebr.{Ebr}
use Rattle.pt_mbr.specs.declared.chain.ChainError.{ChainError}
use Rattle.pt_mbr.specs.declared.chain.ChainError.TheVariants.{NoSignature, BadRecord, NotUpward, OutsideExtended, TooLong, Device}
use Rattle.pt_mbr.proofs.One.{ebr_one, bad_record, stopped}

abbrev One : ChainError → ChainError → Type 0
One e f = (e ≡ f) ⊎ IsDevice e ⊎ IsDevice f

-- at one place
here_one : (d : Sectors) (x : Span) (k : ℕ) (at : Lba) (e f : ChainError) → FaultAt d x k at e → FaultAt d x k at f → One e f
here_one d x k at (Device y) f p q = inr (inl tt)
here_one d x k at (OutsideExtended y) (Device z) p q = inr (inr tt)
here_one d x k at (OutsideExtended y) (OutsideExtended z) p q = inl (ap (λ (n : Lba). OutsideExtended n) (p.0 ∙ sym q.0))
here_one d x k at (OutsideExtended y) TooLong p q = absurd (p.1 q.0)
here_one d x k at (OutsideExtended y) (NoSignature z) p q = absurd (p.1 q.1)
here_one d x k at (OutsideExtended y) (BadRecord z) p q = absurd (p.1 q.1)
here_one d x k at (OutsideExtended y) (NotUpward z) p q = absurd (p.1 q.3.inside)
here_one d x k at TooLong (Device z) p q = inr (inr tt)
here_one d x k at TooLong (OutsideExtended z) p q = absurd (q.1 p.0)
here_one d x k at TooLong TooLong p q = inl refl
here_one d x k at TooLong (NoSignature z) p q = absurd (omega (arith, p.1, q.2))
here_one d x k at TooLong (BadRecord z) p q = absurd (omega (arith, p.1, q.2))
here_one d x k at TooLong (NotUpward z) p q = absurd (omega (arith, p.1, q.1))
here_one d x k at (NoSignature y) (Device z) p q = inr (inr tt)
here_one d x k at (NoSignature y) (OutsideExtended z) p q = absurd (q.1 p.1)
here_one d x k at (NoSignature y) TooLong p q = absurd (omega (arith, p.2, q.1))
here_one d x k at (NoSignature y) (NoSignature z) p q = inl (ap (λ (n : Lba). NoSignature n) (p.0 ∙ sym q.0))
here_one d x k at (NoSignature y) (BadRecord z) p q = absurd (p.3 q.3.0)
here_one d x k at (NoSignature y) (NotUpward z) p q = absurd (p.3 q.3.bytes.signature)
here_one d x k at (BadRecord y) (Device z) p q = inr (inr tt)
here_one d x k at (BadRecord y) (OutsideExtended z) p q = absurd (q.1 p.1)
here_one d x k at (BadRecord y) TooLong p q = absurd (omega (arith, p.2, q.1))
here_one d x k at (BadRecord y) (NoSignature z) p q = absurd (q.3 p.3.0)
here_one d x k at (BadRecord y) (BadRecord z) p q = inl (ap (λ (n : Lba). BadRecord n) (p.0 ∙ sym q.0))
here_one d x k at (BadRecord y) (NotUpward z) p q = absurd (bad_record x.first at q.2 (sector d at.0) p.3.1 q.3.bytes)
here_one d x k at (NotUpward y) (Device z) p q = inr (inr tt)
here_one d x k at (NotUpward y) (OutsideExtended z) p q = absurd (q.1 p.3.inside)
here_one d x k at (NotUpward y) TooLong p q = absurd (omega (arith, p.1, q.1))
here_one d x k at (NotUpward y) (NoSignature z) p q = absurd (q.3 p.3.bytes.signature)
here_one d x k at (NotUpward y) (BadRecord z) p q = absurd (bad_record x.first at p.2 (sector d at.0) q.3.1 p.3.bytes)
here_one d x k at (NotUpward y) (NotUpward z) p q = inl (ap (λ (n : Lba). NotUpward n) (p.0 ∙ sym q.0))

-- where one way ends, the other goes on past it
past : (d : Sectors) (x : Span) (k : ℕ) (y at : Lba) (e : ChainError) (g : Ebr) → k < 128 → Some y ≡ Some at → FaultAt d x k at e
    → EbrAt d x y g → IsUpward y g.next → IsDevice e
past d x k y at e g few same fault here up =
    let place : y ≡ at = cc in
    stopped d x k at e g few fault (subst (λ (z : Lba). EbrAt d x z g) place here) (subst (λ (z : Lba). IsUpward z g.next) place up)

-- k extended boot records stand before `from`
ways_one : (d : Sectors) (x : Span) (k : ℕ) (from : Option Lba) (a b : List Ebr) (at to : Lba) (e f : ChainError)
    → k + length a ≤ 128 → k + length b ≤ 128
    → Walk d x from a (Some at) → FaultAt d x (k + length a) at e → Walk d x from b (Some to) → FaultAt d x (k + length b) to f → One e f
ways_one d x k from [] [] at to e f la lb wa fa wb fb =
    let reached = sym wa ∙ wb in
    let place : at ≡ to = cc in
    here_one d x (k + 0) to e f (subst (λ (z : Lba). FaultAt d x (k + 0) z e) place fa) fb
ways_one d x k None [] (h ∷ b) at to e f la lb wa fa wb fb = absurd wb
ways_one d x k None (g ∷ a) b at to e f la lb wa fa wb fb = absurd wa
ways_one d x k (Some y) [] (h ∷ b) at to e f la lb wa fa wb fb = inr (inl (past d x (k + 0) y at e h (omega (arith, lb)) wa fa wb.0 wb.1))
ways_one d x k (Some y) (g ∷ a) [] at to e f la lb wa fa wb fb = inr (inr (past d x (k + 0) y to f g (omega (arith, la)) wb fb wa.0 wa.1))
ways_one d x k (Some y) (g ∷ a) (h ∷ b) at to e f la lb wa fa wb fb =
    let same : h ≡ g = ebr_one x.first y h g (sector d y.0) wb.0.bytes wa.0.bytes in
    let count_a : k + length (g ∷ a) ≡ (k + 1) + length a = omega arith in
    let count_b : k + length (h ∷ b) ≡ (k + 1) + length b = omega arith in
    ways_one d x (k + 1) g.next a b at to e f (omega (arith, la)) (omega (arith, lb)) wa.2
    (subst (λ (n : ℕ). FaultAt d x n at e) count_a fa)
    (subst (λ (z : Ebr). Walk d x z.next b (Some to)) same wb.2) (subst (λ (n : ℕ). FaultAt d x n to f) count_b fb)

pub fault_one : (d : Sectors) (x : Span) (e f : ChainError) → ChainFault d x e → ChainFault d x f → (e ≡ f) ⊎ IsDevice e ⊎ IsDevice f
fault_one d x e f p q =
    ways_one d x 0 (Some (lba x.first)) p.before q.before p.at q.at e f (omega (arith, p.few)) (omega (arith, q.few))
    p.reached (subst (λ (n : ℕ). FaultAt d x n p.at e) (omega arith) p.here) q.reached
    (subst (λ (n : ℕ). FaultAt d x n q.at f) (omega arith) q.here)
