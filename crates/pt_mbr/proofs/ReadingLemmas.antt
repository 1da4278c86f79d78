-- The sectors that a chain reads, or a fault.
use Rattle.std.proofs.Common.{◌≡◌, ◌<◌, ◌≤◌, ℕ, zero, suc, List, [], ◌∷◌, length, Option, Some, None, refl, sym, ap, ◌∙◌, subst, arith}
use Rattle.std.proofs.Common.{inl, inr, ⊎_elim}
use Rattle.std.specs.Prelude.{◌⊎◌, ◌↔◌}
use Rattle.pt_sector.specs.Sectors.{Sectors, sector, Span}
use Rattle.pt_sector.specs.declared.address.Lba.{Lba}
use Rattle.pt_mbr.specs.Chain.{lba, IsInside, IsUpward, EbrAt, Walk, Chain, ChainFault, ReadsFrom, ChainReads, IsDevice, StandsAt}
use Rattle.pt_mbr.specs.Chain.{IsAtFault}
use Rattle.pt_mbr.specs.declared.ebr.Ebr.{Ebr}
use Rattle.pt_mbr.specs.declared.chain.ChainError.{ChainError}
use Rattle.pt_mbr.specs.declared.chain.ChainError.TheVariants.{NoSignature, BadRecord, NotUpward, OutsideExtended, TooLong, Device}
use Rattle.pt_mbr.proofs.One.{ebr_one, stopped}
use Rattle.pt_mbr.proofs.Same.{first_read, rest_read}

-- the place where a walk ends is reached by fewer than k
abbrev Reached : List Ebr → Option Lba → ℕ → ℕ → Type 0
Reached before to k s = (to ≡ Some (lba s)) × (length before < k)

-- past the end of a walk no walk goes on, but where Q holds
walk_reads : (Q : Type 0) (d : Sectors) (x : Span) (k : ℕ) (from : Option Lba) (before : List Ebr) (to : Option Lba) (r : List Ebr)
    (s : ℕ) → Walk d x from before to → length r < k
    → (length before < k → (at : Lba) (e : Ebr) → to ≡ Some at → EbrAt d x at e → IsUpward at e.next → Q)
    → Walk d x from r (Some (lba s)) → StandsAt s before ⊎ Reached before to k s ⊎ Q
walk_reads Q d x k from [] to [] s walk few end reach = inr (inl (sym walk ∙ reach, few))
walk_reads Q d x k None [] to (e ∷ r) s walk few end reach = absurd reach
walk_reads Q d x k (Some y) [] to (e ∷ r) s walk few end reach = inr (inr (end (omega arith) y e (sym walk) reach.0 reach.1))
walk_reads Q d x k None (f ∷ before) to r s walk few end reach = absurd walk
walk_reads Q d x k (Some y) (f ∷ before) to [] s walk few end reach =
    let at : y ≡ lba s = cc in
    inl (inl (ap (λ (z : Lba). z.0) (sym at ∙ sym walk.0.bytes.place)))
walk_reads Q d x zero (Some y) (f ∷ before) to (e ∷ r) s walk few end reach = absurd (omega arith)
walk_reads Q d x (suc k) (Some y) (f ∷ before) to (e ∷ r) s walk few end reach =
    let same : e ≡ f = ebr_one x.first y e f (sector d y.0) reach.0.bytes walk.0.bytes in
    later (walk_reads Q d x k f.next before to r s walk.2 (omega arith) (λ small. end (omega arith))
    (subst (λ (g : Ebr). Walk d x g.next r (Some (lba s))) same reach.2)) where
      later : StandsAt s before ⊎ Reached before to k s ⊎ Q → StandsAt s (f ∷ before) ⊎ Reached (f ∷ before) to (suc k) s ⊎ Q
      later (inl at) = inl (inr at)
      later (inr (inl rest)) = inr (inl (rest.0, omega (arith, rest.1)))
      later (inr (inr rest)) = inr (inr rest)

pub of_chain : (d : Sectors) (x : Span) (list : List Ebr) (s : ℕ) → Chain d x list → ChainReads d x s → StandsAt s list
of_chain d x list s chain reads =
    only (walk_reads ⊥ d x 128 (Some (lba x.first)) list None reads.before s chain.whole reads.few
    (λ small at e some here up. absurd cc) reads.reached) where
      only : StandsAt s list ⊎ Reached list None 128 s ⊎ ⊥ → StandsAt s list
      only (inl at) = at
      only (inr (inl past)) = absurd (let e = past.0 in cc)
      only (inr (inr none)) = absurd none

-- where the way leads before a fault, or at the fault itself
pub of_way : (d : Sectors) (x : Span) (e : ChainError) (s : ℕ) (f : ChainFault d x e) → ChainReads d x s
    → StandsAt s f.before ⊎ ((s ≡ f.at.0) × (length f.before < 128)) ⊎ IsDevice e
of_way d x e s f reads = told (reached reads) where
  told : StandsAt s f.before ⊎ Reached f.before (Some f.at) 128 s ⊎ IsDevice e
      → StandsAt s f.before ⊎ ((s ≡ f.at.0) × (length f.before < 128)) ⊎ IsDevice e
  told (inl at) = inl at
  told (inr (inl at)) =
      let place = at.0 in
      let same : f.at ≡ lba s = cc in
      inr (inl (ap (λ (z : Lba). z.0) (sym same), at.1))
  told (inr (inr device)) = inr (inr device)

  reached : ChainReads d x s → StandsAt s f.before ⊎ Reached f.before (Some f.at) 128 s ⊎ IsDevice e
  reached r = walk_reads (IsDevice e) d x 128 (Some (lba x.first)) f.before (Some f.at) r.before s f.reached r.few
      (λ small at g some here up. let same : at ≡ f.at = cc in
      stopped d x (length f.before) f.at e g small f.here (subst (λ (z : Lba). EbrAt d x z g) same here)
      (subst (λ (z : Lba). IsUpward z g.next) same up)) r.reached

-- each of a walk is read
pub walk_is_read : (d : Sectors) (x : Span) (k : ℕ) (from : Option Lba) (es : List Ebr) (to : Option Lba) (s : ℕ) → length es ≤ k
    → Walk d x from es to → StandsAt s es → ReadsFrom d x k from s
walk_is_read d x k from [] to s few walk at = absurd at
walk_is_read d x k None (e ∷ es) to s few walk at = absurd walk
walk_is_read d x zero (Some y) (e ∷ es) to s few walk at = absurd (omega arith)
walk_is_read d x (suc k) (Some y) (e ∷ es) to s few walk (inl here) =
    subst (λ (z : ℕ). ReadsFrom d x (suc k) (Some y) z) (sym (here ∙ ap (λ (z : Lba). z.0) walk.0.bytes.place))
    (first_read d x (suc k) y (omega arith) walk.0.inside)
walk_is_read d x (suc k) (Some y) (e ∷ es) to s few walk (inr later) =
    rest_read d x k y e s walk.0 walk.1 (walk_is_read d x k e.next es to s (omega arith) walk.2 later)

pub chain_is_read : (d : Sectors) (x : Span) (list : List Ebr) (s : ℕ) → Chain d x list → StandsAt s list → ChainReads d x s
chain_is_read d x list s chain at = walk_is_read d x 128 (Some (lba x.first)) list None s chain.few chain.whole at

pub of_list : (d : Sectors) (x : Span) (list : List Ebr) → Chain d x list → (s : ℕ) → ChainReads d x s ↔ StandsAt s list
of_list d x list chain s = (of_chain d x list s chain, chain_is_read d x list s chain)

-- of a way that ended in a fault
pub at_is_read : (d : Sectors) (x : Span) (e : ChainError) (f : ChainFault d x e) (s : ℕ) → length f.before < 128
    → IsInside x (length d) f.at → s ≡ f.at.0 → ChainReads d x s
at_is_read d x e f s few inside same = subst (λ (z : ℕ). ChainReads d x z) (sym same) here where
  here : ChainReads d x f.at.0
  here = record { before = f.before; few = few; reached = f.reached; inside = inside }

pub before_is_read : (d : Sectors) (x : Span) (e : ChainError) (f : ChainFault d x e) (list : List Ebr) (s : ℕ) → list ≡ f.before
    → StandsAt s list → ChainReads d x s
before_is_read d x e f list s same at =
    walk_is_read d x 128 (Some (lba x.first)) f.before (Some f.at) s f.few f.reached (subst (λ (l : List Ebr). StandsAt s l) same at)

-- of a fault: its own sector too, where it was read
fault_is_at : (d : Sectors) (x : Span) (e : ChainError) (s : ℕ) (f : ChainFault d x e) → ¬ IsDevice e → ChainReads d x s
    → s ≡ f.at.0 → length f.before < 128 → IsAtFault e s
fault_is_at d x (Device y) s f plain reads here few = absurd (plain tt)
fault_is_at d x (OutsideExtended y) s f plain reads here few =
    absurd (f.here.1 (subst (λ (z : ℕ). IsInside x (length d) (lba z)) here reads.inside))
fault_is_at d x TooLong s f plain reads here few = absurd (omega (arith, few, f.here.1))
fault_is_at d x (NoSignature y) s f plain reads here few = here ∙ sym (ap (λ (z : Lba). z.0) f.here.0)
fault_is_at d x (BadRecord y) s f plain reads here few = here ∙ sym (ap (λ (z : Lba). z.0) f.here.0)
fault_is_at d x (NotUpward y) s f plain reads here few = here ∙ sym (ap (λ (z : Lba). z.0) f.here.0)

fault_is_read : (d : Sectors) (x : Span) (e : ChainError) (s : ℕ) (f : ChainFault d x e) → IsAtFault e s → ChainReads d x s
fault_is_read d x (Device y) s f at = absurd at
fault_is_read d x (OutsideExtended y) s f at = absurd at
fault_is_read d x TooLong s f at = absurd at
fault_is_read d x (NoSignature y) s f at = at_is_read d x (NoSignature y) f s f.here.2 f.here.1 (at ∙ ap (λ (z : Lba). z.0) f.here.0)
fault_is_read d x (BadRecord y) s f at = at_is_read d x (BadRecord y) f s f.here.2 f.here.1 (at ∙ ap (λ (z : Lba). z.0) f.here.0)
fault_is_read d x (NotUpward y) s f at = at_is_read d x (NotUpward y) f s f.here.1 f.here.3.inside (at ∙ ap (λ (z : Lba). z.0) f.here.0)

pub of_fault : (d : Sectors) (x : Span) (e : ChainError) (f : ChainFault d x e) → ¬ IsDevice e → (s : ℕ)
    → ChainReads d x s ↔ (StandsAt s f.before ⊎ IsAtFault e s)
of_fault d x e f plain s = (
  (λ reads. told reads (of_way d x e s f reads)),
  λ at. ⊎_elim (before_is_read d x e f f.before s refl) (fault_is_read d x e s f) at,
) where
  told : ChainReads d x s → StandsAt s f.before ⊎ ((s ≡ f.at.0) × (length f.before < 128)) ⊎ IsDevice e
      → StandsAt s f.before ⊎ IsAtFault e s
  told reads (inl at) = inl at
  told reads (inr (inl at)) = inr (fault_is_at d x e s f plain reads at.0 at.1)
  told reads (inr (inr device)) = absurd (plain device)
