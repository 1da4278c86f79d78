use Rattle.std.proofs.lemmas.Result.{err_from_is_err_and}
use Rattle.std.proofs.Common.{◌≡◌, ℕ, List, length, subst}
use Rattle.std.specs.Prelude.{Result, Ok, Err}
use Rattle.pt_sector.specs.Sectors.{Sectors}
use Rattle.pt_gpt.specs.Copies.{HasCopy, HasRoom, SideReads}
use Rattle.pt_gpt.proofs.Terms.{no_copy_lem}
use Rattle.pt_gpt.specs.declared.error.CopyError.{CopyError}
use Rattle.pt_gpt.specs.declared.header.Header.{Header}
use Rattle.pt_gpt.specs.declared.table.Table.{Table}
use Rattle.pt_gpt.specs.declared.table.Side.TheVariants.{Primary}
use Rattle.pt_recover.specs.Denotes.{TableReads}
use Rattle.pt_recover.specs.inner.Denotes.{SideIs}
use Rattle.pt_recover.specs.Spans.{Adds}
use Rattle.pt_recover.specs.declared.trace.TracedRun.{TracedRun}
use Rattle.pt_recover.proofs.Failed.{primary_failed, backup_failed}
use Rattle.pt_recover.proofs.Sides.{primary_read, both_read}
use Rattle.pt_recover.proofs.tables.read_either.Goals as goal

alone : (b : ℕ) (d : Sectors) (r : Result (Header × Table) CopyError) (x : Header × Table) (old new : List TracedRun) → HasRoom b (length d)
    → r ≡ Ok x → SideIs b d Primary r → Adds old new (SideReads b d Primary) → Adds old new (TableReads b d)
alone b d r x old new room is side adds =
    let stands : SideIs b d Primary (Ok x) = subst (λ (s : Result (Header × Table) CopyError). SideIs b d Primary s) is side in
    primary_read b d x.1 old new (record { room = room; head = x.0; stands = stands }) adds

no_primary : (b : ℕ) (d : Sectors) (r : Result (Header × Table) CopyError) (e : CopyError) → r ≡ Err e → SideIs b d Primary r
    → ¬ HasCopy b d Primary
no_primary b d r e is side =
    no_copy_lem b d Primary e (subst (λ (s : Result (Header × Table) CopyError). SideIs b d Primary s) is side)

pub returns-in_err-header-clause-place : goal.returns-in_err-header-clause-place
returns-in_err-header-clause-place g c = λ tells.
    let p = err_from_is_err_and c.from_residual.result c.from_residual.ensures.1 in
    rw (p.1, p.2) (primary_failed g.row.B (g.D.Disk.told c.args.disk.now).seen c.in_err-header.field-0.0
    (c.in_err-header.ensures.place tells))

pub returns-in-Ok-clause-traced : goal.returns-in-Ok-clause-traced
returns-in-Ok-clause-traced g c = λ tells.
    alone g.row.B (g.D.Disk.told c.args.disk.now).seen c.in_ok-header.field-0 (c.in-Ok.header, c.in-Ok.table) c.args.trace.now
    c.read_side.new.trace (rw (g.met.D.Disk.sized c.args.disk.now tells) c.requires.room) c.in-Ok.is (c.in_ok-header.ensures.ok tells)
    (c.in_ok-header.ensures.traced tells)

pub returns-in_err-header-2-clause-place : goal.returns-in_err-header-2-clause-place
returns-in_err-header-2-clause-place g c = λ tells.
    let d : Sectors = (g.D.Disk.told c.args.disk.now).seen in
    let p = err_from_is_err_and c.from_residual-in_err-header-2.result c.from_residual-in_err-header-2.ensures.1 in
    rw (p.1, p.2) (backup_failed g.row.B d c.in_err-header-2.field-0.0
    (no_primary g.row.B d c.in_ok-header.field-0 c.in-Err.e c.in-Err.is (c.in_ok-header.ensures.ok tells))
    (rw (c.in_ok-header.ensures.same.same tells) at (c.in_err-header-2.ensures.place tells)))

pub returns-in-Ok-2-clause-traced : goal.returns-in-Ok-2-clause-traced
returns-in-Ok-2-clause-traced g c = λ tells.
    let d : Sectors = (g.D.Disk.told c.args.disk.now).seen in
    both_read g.row.B d c.args.trace.now c.read_side.new.trace c.read_side-2.new.trace
    (no_primary g.row.B d c.in_ok-header.field-0 c.in-Err.e c.in-Err.is (c.in_ok-header.ensures.ok tells))
    (c.in_ok-header.ensures.traced tells) (rw (c.in_ok-header.ensures.same.same tells) at (c.in_ok-header-2.ensures.traced tells))

pub returns-in-Err-2-clause-traced : goal.returns-in-Err-2-clause-traced
returns-in-Err-2-clause-traced g c = λ tells.
    let d : Sectors = (g.D.Disk.told c.args.disk.now).seen in
    both_read g.row.B d c.args.trace.now c.read_side.new.trace c.read_side-2.new.trace
    (no_primary g.row.B d c.in_ok-header.field-0 c.in-Err.e c.in-Err.is (c.in_ok-header.ensures.ok tells))
    (c.in_ok-header.ensures.traced tells) (rw (c.in_ok-header.ensures.same.same tells) at (c.in_ok-header-2.ensures.traced tells))
