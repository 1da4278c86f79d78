use Rattle.std.proofs.lemmas.Result.{err_from_is_err_and}
use Rattle.std.proofs.Common.{◌≡◌, ◌∙◌, List, sym, ap, subst, inl, inr, refl, arith}
use Rattle.pt_sector.specs.Device.{with_fault, Told}
use Rattle.pt_sector.specs.declared.disk.Fault.{Fault}
use Rattle.pt_gpt.specs.Copies.{TellsFault, FailedInCopy, fault_in, header_place, IsHead, SideReads}
use Rattle.pt_gpt.proofs.Heads.{fault_of_head, failed_in}
use Rattle.pt_recover.proofs.Sides.{head_read, array_read}
use Rattle.pt_recover.proofs.tables.traced_copy.Goals as goal

pub returns-in_err-header-clause-err : goal.returns-in_err-header-clause-err
returns-in_err-header-clause-err g c = λ tells.
    let p = err_from_is_err_and c.from_residual-in_err-header.result c.from_residual-in_err-header.ensures.1 in
    rw (p.1, p.2) (fault_of_head g.row.B (g.D.Disk.told c.args.disk.now).seen c.args.side c.in_err-header.field-0.0
    (c.in_err-header.ensures.err tells))

pub returns-in_err-header-clause-traced_err : goal.returns-in_err-header-clause-traced_err
returns-in_err-header-clause-traced_err g c = λ tells.
    let p = err_from_is_err_and c.from_residual-in_err-header.result c.from_residual-in_err-header.ensures.1 in
    rw (p.1, p.2)
    (head_read g.row.B
    (g.D.Disk.told c.args.disk.now).seen c.args.side c.in_err-header.field-0.0 c.header_at.result c.sectors-sectors.result
    c.args.trace.now c.add_one.new.self
    c.header_at.ensures (c.sectors-sectors.ensures ∙ sym (g.met.D.Disk.sized c.args.disk.now tells)) c.in_ok-add_one.ensures
    (c.in_err-header.ensures.err tells))

pub read_table-requires-clause-head : goal.read_table-requires-clause-head
read_table-requires-clause-head g c = λ tells.
    subst (λ (t : Told). IsHead g.row.B t.seen c.args.side c.in_ok-header.header) (sym (c.in_ok-header.ensures.same.same tells))
    (c.in_ok-header.ensures.ok tells)

pub returns-clause-same : goal.returns-clause-same
returns-clause-same g c =
    g.met.D.Disk.reads_on c.args.disk.now c.read_head.new.disk c.read_table.new.disk c.in_ok-header.ensures.same c.in_ok-table.ensures.same

pub returns-clause-traced : goal.returns-clause-traced
returns-clause-traced g c = λ tells.
    array_read g.row.B
    (g.D.Disk.told c.args.disk.now).seen c.args.side c.in_ok-header.header c.header_at.result c.sectors-sectors.result
    c.args.trace.now c.add_one.new.self c.trace_array.new.trace
    c.header_at.ensures (c.sectors-sectors.ensures ∙ sym (g.met.D.Disk.sized c.args.disk.now tells)) c.in_ok-add_one.ensures
    c.in_ok-trace_array.ensures (c.in_ok-header.ensures.ok tells)

pub returns-in_err-table-clause-same : goal.returns-in_err-table-clause-same
returns-in_err-table-clause-same g c =
    g.met.D.Disk.reads_on c.args.disk.now c.read_head.new.disk c.read_table.new.disk c.in_ok-header.ensures.same c.in_err-table.ensures.same

pub returns-in_err-table-clause-err : goal.returns-in_err-table-clause-err
returns-in_err-table-clause-err g c = λ tells.
    let p = err_from_is_err_and c.from_residual-in_err-table.result c.from_residual-in_err-table.ensures.1 in
    rw (p.1, p.2) (subst (λ (t : Told). TellsFault g.row.B t.seen c.args.side c.in_err-table.field-0.0)
    (c.in_ok-header.ensures.same.same tells) (c.in_err-table.ensures.err tells))

pub returns-in_err-table-clause-place : goal.returns-in_err-table-clause-place
returns-in_err-table-clause-place g c = λ tells.
    let p = err_from_is_err_and c.from_residual-in_err-table.result c.from_residual-in_err-table.ensures.1 in
    rw (p.1, p.2) (subst (λ (t : Told). FailedInCopy (SideReads g.row.B t.seen c.args.side) c.in_err-table.field-0.0)
    (c.in_ok-header.ensures.same.same tells) (c.in_err-table.ensures.place tells))

pub returns-in_err-table-clause-traced_err : goal.returns-in_err-table-clause-traced_err
returns-in_err-table-clause-traced_err g c = λ tells.
    let p = err_from_is_err_and c.from_residual-in_err-table.result c.from_residual-in_err-table.ensures.1 in
    rw (p.1, p.2) (inr (array_read g.row.B
    (g.D.Disk.told c.args.disk.now).seen c.args.side c.in_ok-header.header c.header_at.result c.sectors-sectors.result
    c.args.trace.now c.add_one.new.self c.trace_array.new.trace
    c.header_at.ensures (c.sectors-sectors.ensures ∙ sym (g.met.D.Disk.sized c.args.disk.now tells)) c.in_ok-add_one.ensures
    c.in_ok-trace_array.ensures (c.in_ok-header.ensures.ok tells)))

pub returns-clause-ok : goal.returns-clause-ok
returns-clause-ok g c = λ tells. rw (c.in_ok-header.ensures.same.same tells) at (c.in_ok-table.ensures.ok tells)

pub returns-clause-with : goal.returns-clause-with
returns-clause-with g c = λ tells. rw (c.in_ok-header.ensures.same.same tells) at (c.in_ok-table.ensures.with tells)

pub returns-clause-blames : goal.returns-clause-blames
returns-clause-blames g c = c.in_ok-table.ensures.blames ∙ c.in_ok-header.ensures.blames

pub returns-in_err-header-clause-same : goal.returns-in_err-header-clause-same
returns-in_err-header-clause-same g c = c.in_err-header.ensures.same

pub returns-in_err-header-clause-blames : goal.returns-in_err-header-clause-blames
returns-in_err-header-clause-blames g c =
    let p = err_from_is_err_and c.from_residual-in_err-header.result c.from_residual-in_err-header.ensures.1 in
    rw (p.1, p.2) c.in_err-header.ensures.blames

pub returns-in_err-table-clause-blames : goal.returns-in_err-table-clause-blames
returns-in_err-table-clause-blames g c =
    let p = err_from_is_err_and c.from_residual-in_err-table.result c.from_residual-in_err-table.ensures.1 in
    rw (p.1, p.2) (c.in_err-table.ensures.blames
    ∙ ap (λ (fs : List Fault). with_fault fs (fault_in c.in_err-table.field-0.0)) c.in_ok-header.ensures.blames)

pub read_table-requires-clause-room : goal.read_table-requires-clause-room
read_table-requires-clause-room g c = rw c.in_ok-header.ensures.same.same_count c.requires.room

pub read_table-requires-clause-placed : goal.read_table-requires-clause-placed
read_table-requires-clause-placed g c = rw c.in_ok-header.ensures.same.same_count c.in_ok-header.ensures.placed

pub returns-in_err-header-clause-place : goal.returns-in_err-header-clause-place
returns-in_err-header-clause-place g c = λ tells.
    let p = err_from_is_err_and c.from_residual-in_err-header.result c.from_residual-in_err-header.ensures.1 in
    rw (p.1, p.2) (failed_in (λ s. s ≡ header_place c.args.side (g.D.Disk.count c.args.disk.now))
    (SideReads g.row.B (g.D.Disk.told c.args.disk.now).seen c.args.side) c.in_err-header.field-0.0
    (λ s is. inl (is ∙ ap (header_place c.args.side) (sym (g.met.D.Disk.sized c.args.disk.now tells)))) c.in_err-header.ensures.place)

pub returns-in_err-trace_array-clause-same : goal.returns-in_err-trace_array-clause-same
returns-in_err-trace_array-clause-same g c = c.in_ok-header.ensures.same

pub trace_array-requires-clause-room : goal.trace_array-requires-clause-room
trace_array-requires-clause-room g c = rw c.sectors-sectors.ensures c.requires.room

pub trace_array-requires-clause-placed : goal.trace_array-requires-clause-placed
trace_array-requires-clause-placed g c = rw c.sectors-sectors.ensures c.in_ok-header.ensures.placed

pub returns-in_err-add_one-clause-place : goal.returns-in_err-add_one-clause-place
returns-in_err-add_one-clause-place g c = λ tells.
    let p = err_from_is_err_and c.from_residual.result c.from_residual.ensures.1 in
    rw (p.1, p.2) tt

pub returns-in_err-add_one-clause-err : goal.returns-in_err-add_one-clause-err
returns-in_err-add_one-clause-err g c = λ tells.
    let p = err_from_is_err_and c.from_residual.result c.from_residual.ensures.1 in
    rw (p.1, p.2) (inl tt)

pub returns-in_err-add_one-clause-traced_err : goal.returns-in_err-add_one-clause-traced_err
returns-in_err-add_one-clause-traced_err g c = λ tells.
    let p = err_from_is_err_and c.from_residual.result c.from_residual.ensures.1 in
    rw (p.1, p.2) (inl tt)

pub returns-in_err-trace_array-clause-place : goal.returns-in_err-trace_array-clause-place
returns-in_err-trace_array-clause-place g c = λ tells.
    let p = err_from_is_err_and c.from_residual-in_err-trace_array.result c.from_residual-in_err-trace_array.ensures.1 in
    rw (p.1, p.2) tt

pub returns-in_err-trace_array-clause-err : goal.returns-in_err-trace_array-clause-err
returns-in_err-trace_array-clause-err g c = λ tells.
    let p = err_from_is_err_and c.from_residual-in_err-trace_array.result c.from_residual-in_err-trace_array.ensures.1 in
    rw (p.1, p.2) (inl tt)

pub returns-in_err-trace_array-clause-traced_err : goal.returns-in_err-trace_array-clause-traced_err
returns-in_err-trace_array-clause-traced_err g c = λ tells.
    let p = err_from_is_err_and c.from_residual-in_err-trace_array.result c.from_residual-in_err-trace_array.ensures.1 in
    rw (p.1, p.2) (inl tt)

pub returns-in_err-add_one-clause-same : goal.returns-in_err-add_one-clause-same
returns-in_err-add_one-clause-same g c = g.met.D.Disk.reads_same c.args.disk.now

pub returns-in_err-add_one-clause-blames : goal.returns-in_err-add_one-clause-blames
returns-in_err-add_one-clause-blames g c =
    let p = err_from_is_err_and c.from_residual.result c.from_residual.ensures.1 in
    rw (p.1, p.2) refl

pub read_head-requires-clause-room : goal.read_head-requires-clause-room
read_head-requires-clause-room g c = c.requires.room

pub returns-in_err-trace_array-clause-blames : goal.returns-in_err-trace_array-clause-blames
returns-in_err-trace_array-clause-blames g c =
    let p = err_from_is_err_and c.from_residual-in_err-trace_array.result c.from_residual-in_err-trace_array.ensures.1 in
    rw (p.1, p.2) c.in_ok-header.ensures.blames

pub header_at-requires : goal.header_at-requires
header_at-requires g c = omega (arith, c.requires.room, c.sectors-sectors.ensures)
