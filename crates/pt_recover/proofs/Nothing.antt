-- Why a disk denotes nothing.
use Rattle.std.proofs.Common.{◌≡◌, ◌<◌, ◌≤◌, ℕ, List, [], ◌∷◌, length, Option, None, refl, sym, subst, arith, inl, inr}
use Rattle.std.specs.Prelude.{◌⊎◌}
use Rattle.pt_sector.specs.Sectors.{Sectors, Span}
use Rattle.pt_mbr.specs.Chain.{lba, Chain, ChainFault, ChainReads, IsDevice}
use Rattle.pt_mbr.specs.declared.record.Record.{Record}
use Rattle.pt_mbr.specs.declared.ebr.Ebr.{Ebr}
use Rattle.pt_mbr.specs.declared.chain.ChainError.{ChainError}
use Rattle.pt_mbr.specs.declared.chain.ChainError.TheVariants.{OutsideExtended}
use Rattle.pt_mbr.specs.Records.{ExtendedIs, extended_of, extent_of}
use Rattle.pt_mbr.proofs.Terms.{fault_has_no_chain}
use Rattle.pt_recover.specs.Denotes.{IsMbr, HasChain, ExtendedReads, Denotes, TellsNothing, IsOutsideDisk}
use Rattle.pt_recover.proofs.One.{mbr_one}
use Rattle.pt_recover.specs.inner.Denotes.{IsChainFault}
use Rattle.pt_recover.specs.Spans.{Adds}
use Rattle.pt_mbr.specs.declared.extended.Extended.TheVariants as found
use Rattle.pt_recover.specs.declared.error.NoTable.{NoTable}
use Rattle.pt_recover.specs.declared.error.NoTable.TheVariants.{Chain as BadChain, TwoExtended}
use Rattle.pt_members.specs.declared.layout.Body.TheVariants.{Mbr, Gpt}
use Rattle.pt_recover.specs.declared.trace.TracedRun.{TracedRun}
use Rattle.pt_recover.proofs.Traces.{adds_none}

-- an MBR disk denotes nothing where its records have no chain
no_body : (b : ℕ) (d : Sectors) (m : List (Option Record)) → IsMbr d m → ((list : List Ebr) → ¬ HasChain d (extended_of m) list)
    → Denotes b d None
no_body b d m is none (Mbr records chain) p =
    none chain (subst (λ (n : List (Option Record)). HasChain d (extended_of n) chain) (mbr_one d records m p.0 is) p.1)
no_body b d m is none (Gpt t) p = p.0 is.0

pub two_extended : (b : ℕ) (d : Sectors) (m : List (Option Record)) (r : Record) → IsMbr d m
    → ExtendedIs (extended_of m) (found.More r) → TellsNothing b d TwoExtended
two_extended b d m r is two = inr (
  no_body b d m is (λ list has. subst (λ (rs : List Record). HasChain d rs list) two.2 has),
  (m, is, subst (λ (rs : List Record). 2 ≤ length rs) (sym two.2) (omega arith)),
)

lone_chain : (b : ℕ) (d : Sectors) (m : List (Option Record)) (r : Record) (e : ChainError) → IsMbr d m → extended_of m ≡ r ∷ []
    → ChainFault d (extent_of r) e → ¬ IsDevice e → TellsNothing b d (BadChain e)
lone_chain b d m r e is lone fault disk = inr (
  no_body b d m is (λ list has. disk (fault_has_no_chain d (extent_of r) e list fault
      (subst (λ (rs : List Record). HasChain d rs list) lone has))),
  (m, r, is, lone, fault, disk),
)

pub bad_chain : (b : ℕ) (d : Sectors) (m : List (Option Record)) (r : Record) (x : Span) (e : NoTable) → IsMbr d m
    → extended_of m ≡ r ∷ [] → x ≡ extent_of r → IsOutsideDisk e ⊎ IsChainFault d x e → TellsNothing b d e
bad_chain b d m r x e is lone same (inl out) = inl out
bad_chain b d m r x (BadChain e) is lone same (inr fault) =
    lone_chain b d m r e is lone (subst (λ (y : Span). ChainFault d y e) same fault.0) fault.1
bad_chain b d m r x _ is lone same (inr fault) = absurd fault

-- a record of no sectors
pub no_extent : (b : ℕ) (d : Sectors) (m : List (Option Record)) (r : Record) → IsMbr d m → extended_of m ≡ r ∷ []
    → (extent_of r).last < (extent_of r).first → TellsNothing b d (BadChain (OutsideExtended (lba (extent_of r).first)))
no_extent b d m r is lone none =
    lone_chain b d m r (OutsideExtended (lba (extent_of r).first)) is lone
    (record {
      before = [];
      at = lba (extent_of r).first;
      few = omega arith;
      reached = refl;
      here = (refl, λ inside. absurd (omega (arith, inside.0.0, inside.0.1, none)));
    }) (λ f. f)

pub none_read : (d : Sectors) (m : List (Option Record)) (r : Record) (old new : List TracedRun) → extended_of m ≡ r ∷ []
    → (extent_of r).last < (extent_of r).first → new ≡ old → Adds old new (ExtendedReads d (extended_of m))
none_read d m r old new lone none same =
    adds_none old new (ExtendedReads d (extended_of m)) same (λ s reads.
    let read : ChainReads d (extent_of r) s = subst (λ (rs : List Record). ExtendedReads d rs s) lone reads in
    absurd (omega (arith, read.inside.0.0, read.inside.0.1, none)))

pub lone_read : (d : Sectors) (m : List (Option Record)) (r : Record) (x : Span) (old new : List TracedRun) → extended_of m ≡ r ∷ []
    → x ≡ extent_of r → Adds old new (ChainReads d x) → Adds old new (ExtendedReads d (extended_of m))
lone_read d m r x old new lone same adds =
    subst (λ (rs : List Record). Adds old new (ExtendedReads d rs)) (sym lone)
    (subst (λ (y : Span). Adds old new (ChainReads d y)) same adds)

pub lone_read_or : (P : Type 0) (d : Sectors) (m : List (Option Record)) (r : Record) (x : Span) (old new : List TracedRun)
    → extended_of m ≡ r ∷ [] → x ≡ extent_of r → P ⊎ Adds old new (ChainReads d x) → P ⊎ Adds old new (ExtendedReads d (extended_of m))
lone_read_or P d m r x old new lone same (inl out) = inl out
lone_read_or P d m r x old new lone same (inr adds) = inr (lone_read d m r x old new lone same adds)

pub nothing_read : (d : Sectors) (m : List (Option Record)) (old new : List TracedRun) → extended_of m ≡ [] → new ≡ old
    → Adds old new (ExtendedReads d (extended_of m))
nothing_read d m old new nothing same =
    adds_none old new (ExtendedReads d (extended_of m)) same (λ s reads. subst (λ (rs : List Record). ExtendedReads d rs s) nothing reads)

pub two_read : (d : Sectors) (m : List (Option Record)) (r : Record) (old new : List TracedRun)
    → ExtendedIs (extended_of m) (found.More r) → new ≡ old → Adds old new (ExtendedReads d (extended_of m))
two_read d m r old new two same =
    adds_none old new (ExtendedReads d (extended_of m)) same (λ s reads. subst (λ (rs : List Record). ExtendedReads d rs s) two.2 reads)

pub lone_is : (d : Sectors) (m : List (Option Record)) (r : Record) (x : Span) (list : List Ebr) → extended_of m ≡ r ∷ []
    → x ≡ extent_of r → Chain d x list → HasChain d (extended_of m) list
lone_is d m r x list lone same chain =
    subst (λ (rs : List Record). HasChain d rs list) (sym lone) (subst (λ (y : Span). Chain d y list) same chain)

pub nothing_is : (d : Sectors) (m : List (Option Record)) (list : List Ebr) → extended_of m ≡ [] → list ≡ []
    → HasChain d (extended_of m) list
nothing_is d m list nothing none = subst (λ (rs : List Record). HasChain d rs list) (sym nothing) none
