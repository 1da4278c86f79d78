use Rattle.pt_sector.specs.declared.address.Lba.{Lba}
use Rattle.pt_sector.specs.Sectors.{Sectors, Span}
use Rattle.std.specs.Prelude.{◌⊎◌}
use Rattle.pt_mbr.specs.declared.chain.ChainError.TheVariants as way
use Rattle.pt_recover.specs.declared.error.NoTable.{NoTable}
use Rattle.pt_recover.specs.Denotes.{fault_in, IsOutsideDisk, FailedInDisk}
use Rattle.pt_recover.specs.inner.Denotes.{ToldAs, IsChainFault}
use Rattle.pt_mbr.specs.declared.chain.ChainError.{ChainError}
use Rattle.pt_sector.specs.declared.disk.Fault.{Fault}
use Rattle.pt_sector.specs.Device.{with_fault}
use Rattle.std.proofs.Common.{◌≡◌, ◌∙◌, Option, sym, ap, inl, inr, Some, length, subst}
use Rattle.pt_mbr.specs.Chain.{span_of, fault_in as fault_in_chain, lba, IsInside, Walk, ChainFault, ChainReads}
use Rattle.pt_recover.proofs.Chains.{chain_traced, fault_traced}
use Rattle.pt_recover.proofs.extended.read_extended.Goals as goal

same_fault : (e : ChainError) (told : NoTable) → ToldAs e told → fault_in_chain e ≡ fault_in told
same_fault (way.Device at) told is = ap fault_in (sym is)
same_fault (way.NoSignature at) told is = elim is [ inl out ↦ ap fault_in (sym out) | inr there ↦ ap fault_in (sym there) ]
same_fault (way.BadRecord at) told is = elim is [ inl out ↦ ap fault_in (sym out) | inr there ↦ ap fault_in (sym there) ]
same_fault (way.NotUpward at) told is = elim is [ inl out ↦ ap fault_in (sym out) | inr there ↦ ap fault_in (sym there) ]
same_fault (way.OutsideExtended at) told is = elim is [ inl out ↦ ap fault_in (sym out) | inr there ↦ ap fault_in (sym there) ]
same_fault way.TooLong told is = elim is [ inl out ↦ ap fault_in (sym out) | inr there ↦ ap fault_in (sym there) ]

told_chain : (d : Sectors) (x : Span) (e : ChainError) (told : NoTable) → ToldAs e told → ChainFault d x e
    → IsOutsideDisk told ⊎ IsChainFault d x told
told_chain d x (way.Device at) told is fault = inl (subst IsOutsideDisk (sym is) tt)
told_chain d x (way.NoSignature at) told is fault =
    elim is [ inl out ↦ inl (subst IsOutsideDisk (sym out) tt) | inr there ↦ inr (subst (IsChainFault d x) (sym there) (fault, λ f. f)) ]
told_chain d x (way.BadRecord at) told is fault =
    elim is [ inl out ↦ inl (subst IsOutsideDisk (sym out) tt) | inr there ↦ inr (subst (IsChainFault d x) (sym there) (fault, λ f. f)) ]
told_chain d x (way.NotUpward at) told is fault =
    elim is [ inl out ↦ inl (subst IsOutsideDisk (sym out) tt) | inr there ↦ inr (subst (IsChainFault d x) (sym there) (fault, λ f. f)) ]
told_chain d x (way.OutsideExtended at) told is fault =
    elim is [ inl out ↦ inl (subst IsOutsideDisk (sym out) tt) | inr there ↦ inr (subst (IsChainFault d x) (sym there) (fault, λ f. f)) ]
told_chain d x way.TooLong told is fault =
    elim is [ inl out ↦ inl (subst IsOutsideDisk (sym out) tt) | inr there ↦ inr (subst (IsChainFault d x) (sym there) (fault, λ f. f)) ]

device_read : (d : Sectors) (x : Span) (at : Lba) → ChainFault d x (way.Device at) → ChainReads d x at.0
device_read d x at f = record {
  before = f.before;
  few = f.here.2;
  reached = subst (λ (l : Lba). Walk d x (Some (lba x.first)) f.before (Some l)) (sym f.here.0) f.reached;
  inside = subst (λ (l : Lba). IsInside x (length d) l) (sym f.here.0) f.here.1;
}

chain_failed : (d : Sectors) (x : Span) (e : ChainError) (told : NoTable) → ToldAs e told → ChainFault d x e
    → FailedInDisk (ChainReads d x) told
chain_failed d x (way.Device at) told is fault = subst (FailedInDisk (ChainReads d x)) (sym is) (device_read d x at fault)
chain_failed d x (way.NoSignature at) told is fault =
    elim is [
      | inl out ↦ subst (FailedInDisk (ChainReads d x)) (sym out) tt
      | inr there ↦ subst (FailedInDisk (ChainReads d x)) (sym there) tt
    ]
chain_failed d x (way.BadRecord at) told is fault =
    elim is [
      | inl out ↦ subst (FailedInDisk (ChainReads d x)) (sym out) tt
      | inr there ↦ subst (FailedInDisk (ChainReads d x)) (sym there) tt
    ]
chain_failed d x (way.NotUpward at) told is fault =
    elim is [
      | inl out ↦ subst (FailedInDisk (ChainReads d x)) (sym out) tt
      | inr there ↦ subst (FailedInDisk (ChainReads d x)) (sym there) tt
    ]
chain_failed d x (way.OutsideExtended at) told is fault =
    elim is [
      | inl out ↦ subst (FailedInDisk (ChainReads d x)) (sym out) tt
      | inr there ↦ subst (FailedInDisk (ChainReads d x)) (sym there) tt
    ]
chain_failed d x way.TooLong told is fault =
    elim is [
      | inl out ↦ subst (FailedInDisk (ChainReads d x)) (sym out) tt
      | inr there ↦ subst (FailedInDisk (ChainReads d x)) (sym there) tt
    ]

pub returns-in_ok-chain-in-Ok-clause-traced : goal.returns-in_ok-chain-in-Ok-clause-traced
returns-in_ok-chain-in-Ok-clause-traced g c = λ tells.
    chain_traced (g.D.Disk.told c.args.disk.now).seen
    (span_of c.args.extent.now) c.walk_chain.new.list.items c.as_slice.result.now c.args.trace.now c.kept_chain.new.trace
    c.as_slice.ensures.value c.in_ok-chain-in-Ok.ensures.traced (c.in-Ok.ensures.read_ok tells)

pub returns-in-Err-clause-traced_err : goal.returns-in-Err-clause-traced_err
returns-in-Err-clause-traced_err g c = λ tells.
    fault_traced (g.D.Disk.told c.args.disk.now).seen
    (span_of c.args.extent.now) c.walk_chain.new.list.items c.as_slice-in-Err.result.now c.in-Err.fault c.told_fault.result
    c.args.trace.now c.told_fault.new.trace
    c.as_slice-in-Err.ensures.value c.told_fault.ensures.told c.told_fault.ensures.traced (c.in-Err.ensures.read_err tells)

pub returns-in-Err-clause-same : goal.returns-in-Err-clause-same
returns-in-Err-clause-same g c = c.in-Err.ensures.same

pub returns-in-Err-clause-blames : goal.returns-in-Err-clause-blames
returns-in-Err-clause-blames g c =
    c.in-Err.ensures.blames ∙ ap (λ (o : Option Fault). with_fault (g.D.Disk.faults c.args.disk.now) o)
    (same_fault c.in-Err.fault c.told_fault.result c.told_fault.ensures.told)

pub returns-in_ok-chain-in-Ok-clause-same : goal.returns-in_ok-chain-in-Ok-clause-same
returns-in_ok-chain-in-Ok-clause-same g c = c.in-Ok.ensures.same

pub returns-in_ok-chain-in-Ok-clause-blames : goal.returns-in_ok-chain-in-Ok-clause-blames
returns-in_ok-chain-in-Ok-clause-blames g c = c.in-Ok.ensures.blames

pub returns-in_ok-chain-in-Ok-clause-ok : goal.returns-in_ok-chain-in-Ok-clause-ok
returns-in_ok-chain-in-Ok-clause-ok g c = λ tells.
    rw (c.in_ok-chain-in-Ok.ensures.kept, c.as_slice.ensures.value) (c.in-Ok.ensures.ok tells)

pub returns-in-Err-clause-err : goal.returns-in-Err-clause-err
returns-in-Err-clause-err g c = λ tells.
    told_chain (g.D.Disk.told c.args.disk.now).seen (span_of c.args.extent.now) c.in-Err.fault c.told_fault.result c.told_fault.ensures.told
    (c.in-Err.ensures.err tells)

pub returns-in-Err-clause-place : goal.returns-in-Err-clause-place
returns-in-Err-clause-place g c = λ tells.
    chain_failed (g.D.Disk.told c.args.disk.now).seen (span_of c.args.extent.now) c.in-Err.fault c.told_fault.result
    c.told_fault.ensures.told
    (c.in-Err.ensures.err tells)
