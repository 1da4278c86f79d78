-- What is read of a chain.
use Rattle.std.proofs.Common.{◌≡◌, ℕ, List, sym, subst, inl, inr}
use Rattle.std.specs.Prelude.{◌⊎◌, ◌↔◌}
use Rattle.pt_sector.specs.Sectors.{Sectors, Span}
use Rattle.pt_mbr.specs.Chain.{ChainReads, StandsAt, IsReadBy, ReadsAre}
use Rattle.pt_mbr.specs.declared.ebr.Ebr.{Ebr}
use Rattle.pt_mbr.specs.declared.chain.ChainError.{ChainError}
use Rattle.pt_mbr.specs.declared.chain.ChainError.TheVariants.{NoSignature, BadRecord, NotUpward, OutsideExtended, TooLong, Device}
use Rattle.pt_recover.specs.Spans.{Adds}
use Rattle.pt_recover.specs.inner.Denotes.{ToldAs}
use Rattle.pt_recover.specs.Denotes.{IsOutsideDisk}
use Rattle.pt_recover.specs.declared.trace.TracedRun.{TracedRun}
use Rattle.pt_recover.specs.declared.error.NoTable.{NoTable}
use Rattle.pt_recover.proofs.Traces.{adds_same}

pub chain_traced : (d : Sectors) (x : Span) (list shown : List Ebr) (old new : List TracedRun) → shown ≡ list
    → Adds old new (λ s. StandsAt s shown) → ((s : ℕ) → ChainReads d x s ↔ StandsAt s list) → Adds old new (ChainReads d x)
chain_traced d x list shown old new same adds are =
    adds_same old new (λ s. StandsAt s list) (ChainReads d x) (subst (λ (l : List Ebr). Adds old new (λ s. StandsAt s l)) same adds) are

of_reads : (d : Sectors) (x : Span) (list : List Ebr) (e : ChainError) (old new : List TracedRun) (P : Type 0)
    → P ⊎ Adds old new (λ s. StandsAt s list ⊎ IsReadBy e s) → ((s : ℕ) → ChainReads d x s ↔ (StandsAt s list ⊎ IsReadBy e s))
    → P ⊎ Adds old new (ChainReads d x)
of_reads d x list e old new P (inl out) are = inl out
of_reads d x list e old new P (inr adds) are = inr (adds_same old new (λ s. StandsAt s list ⊎ IsReadBy e s) (ChainReads d x) adds are)

with_fault : (d : Sectors) (x : Span) (list : List Ebr) (e : ChainError) (told : NoTable) (old new : List TracedRun) → ToldAs e told
    → IsOutsideDisk told ⊎ Adds old new (λ s. StandsAt s list ⊎ IsReadBy e s) → ReadsAre d x list e
    → IsOutsideDisk told ⊎ Adds old new (ChainReads d x)
with_fault d x list (Device y) told old new is adds are = inl (subst IsOutsideDisk (sym is) tt)
with_fault d x list (NoSignature y) told old new is adds are = of_reads d x list (NoSignature y) old new (IsOutsideDisk told) adds are
with_fault d x list (BadRecord y) told old new is adds are = of_reads d x list (BadRecord y) old new (IsOutsideDisk told) adds are
with_fault d x list (NotUpward y) told old new is adds are = of_reads d x list (NotUpward y) old new (IsOutsideDisk told) adds are
with_fault d x list (OutsideExtended y) told old new is adds are = of_reads d x list (OutsideExtended y) old new
    (IsOutsideDisk told) adds are
with_fault d x list TooLong told old new is adds are = of_reads d x list TooLong old new (IsOutsideDisk told) adds are

pub fault_traced : (d : Sectors) (x : Span) (list shown : List Ebr) (e : ChainError) (told : NoTable) (old new : List TracedRun)
    → shown ≡ list → ToldAs e told → IsOutsideDisk told ⊎ Adds old new (λ s. StandsAt s shown ⊎ IsReadBy e s) → ReadsAre d x list e
    → IsOutsideDisk told ⊎ Adds old new (ChainReads d x)
fault_traced d x list shown e told old new same is adds are =
    with_fault d x list e told old new is (subst (λ (l : List Ebr). IsOutsideDisk told
    ⊎ Adds old new (λ s. StandsAt s l ⊎ IsReadBy e s)) same adds) are
