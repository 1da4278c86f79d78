use Rattle.pt_mbr.specs.declared.record.Record.{Record}
use Rattle.pt_recover.proofs.Failed.{wider}
use Rattle.std.specs.Prelude.{◌⊎◌}
use Rattle.std.proofs.Common.{sym, subst, ℕ, List, inr, refl}
use Rattle.std.proofs.lemmas.Result.{IfErr-weaker, IfOk-weaker, on_ok_weaker}
use Rattle.pt_sector.specs.Sectors.{Sectors, Span}
use Rattle.pt_mbr.specs.Chain.{lba, span_of, ChainReads, Chain}
use Rattle.pt_mbr.specs.declared.chain.ChainError.TheVariants.{OutsideExtended}
use Rattle.pt_mbr.specs.Records.{extended_of}
use Rattle.pt_recover.specs.Denotes.{ExtendedReads, HasChain, TellsNothing, IsOutsideDisk, FailedInDisk}
use Rattle.pt_recover.specs.Spans.{Adds}
use Rattle.pt_recover.specs.inner.Denotes.{IsChainFault}
use Rattle.pt_recover.specs.declared.error.NoTable.TheVariants as no
use Rattle.pt_recover.proofs.Nothing.{two_extended, no_extent, bad_chain, lone_read_or, lone_is, lone_read, nothing_read, two_read}
use Rattle.pt_recover.proofs.Nothing.{none_read}
use Rattle.pt_recover.proofs.extended.read_lone.Goals as goal

pub returns-in-More-clause-err : goal.returns-in-More-clause-err
returns-in-More-clause-err g c = λ tells.
    two_extended g.row.B (g.D.Disk.told c.args.disk.now).seen c.args.mbr.now.records _ (c.requires.is_mbr tells) c.in-More.ensures

pub returns-in-None-clause-err : goal.returns-in-None-clause-err
returns-in-None-clause-err g c = λ tells.
    let d : Sectors = (g.D.Disk.told c.args.disk.now).seen in
    subst (λ (n : ℕ). TellsNothing g.row.B d (no.Chain (OutsideExtended (lba n)))) (sym c.from.ensures)
    (no_extent g.row.B d c.args.mbr.now.records c.in-One.record (c.requires.is_mbr tells) c.in-One.ensures c.in-None.ensures.none)

pub returns-clause-err : goal.returns-clause-err
returns-clause-err g c = λ tells.
    let d : Sectors = (g.D.Disk.told c.args.disk.now).seen in
    IfErr-weaker c.read_extended.result (λ e. IsOutsideDisk e ⊎ IsChainFault d (span_of c.in-Some.extent) e) (λ e. TellsNothing g.row.B d e)
    (λ e told. bad_chain g.row.B d c.args.mbr.now.records c.in-One.record (span_of c.in-Some.extent) e
    (c.requires.is_mbr tells) c.in-One.ensures c.in-Some.ensures.some told)
    (c.read_extended.ensures.err tells)

pub returns-clause-traced_err : goal.returns-clause-traced_err
returns-clause-traced_err g c = λ tells.
    let d : Sectors = (g.D.Disk.told c.args.disk.now).seen in
    IfErr-weaker c.read_extended.result (λ e. IsOutsideDisk e ⊎ Adds c.args.trace.now c.read_extended.new.trace
    (ChainReads d (span_of c.in-Some.extent)))
    (λ e. IsOutsideDisk e ⊎ Adds c.args.trace.now c.read_extended.new.trace (ExtendedReads d (extended_of c.args.mbr.now.records)))
    (λ e told. lone_read_or (IsOutsideDisk e) d c.args.mbr.now.records c.in-One.record
    (span_of c.in-Some.extent) c.args.trace.now c.read_extended.new.trace c.in-One.ensures c.in-Some.ensures.some told)
    (c.read_extended.ensures.traced_err tells)

pub returns-clause-same : goal.returns-clause-same
returns-clause-same g c = c.read_extended.ensures.same

pub returns-clause-blames : goal.returns-clause-blames
returns-clause-blames g c = c.read_extended.ensures.blames

pub returns-clause-ok : goal.returns-clause-ok
returns-clause-ok g c = λ tells.
    let d : Sectors = (g.D.Disk.told c.args.disk.now).seen in
    IfOk-weaker c.read_extended.result (λ list. Chain d (span_of c.in-Some.extent) list)
    (λ list. HasChain d (extended_of c.args.mbr.now.records) list)
    (λ list is. lone_is d c.args.mbr.now.records c.in-One.record (span_of c.in-Some.extent) list c.in-One.ensures c.in-Some.ensures.some is)
    (c.read_extended.ensures.ok tells)

pub returns-clause-traced : goal.returns-clause-traced
returns-clause-traced g c = λ tells.
    on_ok_weaker c.read_extended.result (lone_read (g.D.Disk.told c.args.disk.now).seen c.args.mbr.now.records
    c.in-One.record (span_of c.in-Some.extent)
    c.args.trace.now c.read_extended.new.trace c.in-One.ensures c.in-Some.ensures.some) (c.read_extended.ensures.traced tells)

pub returns-clause-place : goal.returns-clause-place
returns-clause-place g c = λ tells.
    IfErr-weaker c.read_extended.result (FailedInDisk (ChainReads (g.D.Disk.told c.args.disk.now).seen (span_of c.in-Some.extent)))
    (FailedInDisk (ExtendedReads (g.D.Disk.told c.args.disk.now).seen (extended_of c.args.mbr.now.records)))
    (λ e failed. wider (ChainReads (g.D.Disk.told c.args.disk.now).seen (span_of c.in-Some.extent))
    (ExtendedReads (g.D.Disk.told c.args.disk.now).seen (extended_of c.args.mbr.now.records)) e (λ s reads.
    subst (λ (rs : List Record). ExtendedReads (g.D.Disk.told c.args.disk.now).seen rs s) (sym c.in-One.ensures)
    (subst (λ (y : Span). ChainReads (g.D.Disk.told c.args.disk.now).seen y s) c.in-Some.ensures.some reads)) failed)
    (c.read_extended.ensures.place tells)

pub returns-in-Nothing-clause-same : goal.returns-in-Nothing-clause-same
returns-in-Nothing-clause-same g c = g.met.D.Disk.reads_same c.args.disk.now

pub returns-in-Nothing-clause-blames : goal.returns-in-Nothing-clause-blames
returns-in-Nothing-clause-blames g c = refl

pub returns-in-Nothing-clause-traced : goal.returns-in-Nothing-clause-traced
returns-in-Nothing-clause-traced g c = λ tells.
    nothing_read (g.D.Disk.told c.args.disk.now).seen c.args.mbr.now.records c.args.trace.now c.args.trace.now c.in-Nothing.ensures refl

pub returns-in-More-clause-same : goal.returns-in-More-clause-same
returns-in-More-clause-same g c = g.met.D.Disk.reads_same c.args.disk.now

pub returns-in-More-clause-blames : goal.returns-in-More-clause-blames
returns-in-More-clause-blames g c = refl

pub returns-in-More-clause-traced_err : goal.returns-in-More-clause-traced_err
returns-in-More-clause-traced_err g c = λ tells.
    inr (two_read (g.D.Disk.told c.args.disk.now).seen c.args.mbr.now.records _ c.args.trace.now c.args.trace.now c.in-More.ensures refl)

pub returns-in-None-clause-same : goal.returns-in-None-clause-same
returns-in-None-clause-same g c = g.met.D.Disk.reads_same c.args.disk.now

pub returns-in-None-clause-blames : goal.returns-in-None-clause-blames
returns-in-None-clause-blames g c = refl

pub returns-in-None-clause-traced_err : goal.returns-in-None-clause-traced_err
returns-in-None-clause-traced_err g c = λ tells.
    inr (none_read (g.D.Disk.told c.args.disk.now).seen c.args.mbr.now.records c.in-One.record c.args.trace.now c.args.trace.now
    c.in-One.ensures c.in-None.ensures.none refl)
