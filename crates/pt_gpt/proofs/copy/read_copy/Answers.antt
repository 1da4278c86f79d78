use Rattle.std.proofs.Common.{◌≡◌, ◌∙◌, ap, inl, subst, sym}
use Rattle.std.specs.Prelude.{IfOk, IfErr}
use Rattle.std.proofs.lemmas.Result.{err_from_is_err_and}
use Rattle.pt_sector.specs.Device.{Told}
use Rattle.pt_gpt.specs.Copies.{FailedInCopy, header_place, Copy, IsHead, SideReads, TellsFault}
use Rattle.pt_gpt.proofs.Heads.{failed_in, fault_of_head}
use Rattle.pt_gpt.proofs.copy.read_copy.Goals as goal

pub read_table-requires-clause-head : goal.read_table-requires-clause-head
read_table-requires-clause-head g c tells =
    subst (λ (s : Told). IsHead g.row.B s.seen c.args.side c.in_ok-header.header) (sym (c.in_ok-header.ensures.same.same tells))
    (c.in_ok-header.ensures.ok tells)

pub returns-clause-same : goal.returns-clause-same
returns-clause-same g c =
    g.met.D.Disk.reads_on c.args.disk.now c.read_head.new.disk c.read_table.new.disk c.in_ok-header.ensures.same c.read_table.ensures.same

pub returns-clause-ok : goal.returns-clause-ok
returns-clause-ok g c tells =
    subst (λ (s : Told). IfOk c.read_table.result (λ t. Copy g.row.B s.seen c.args.side t)) (c.in_ok-header.ensures.same.same tells)
    (c.read_table.ensures.ok tells)

pub returns-clause-err : goal.returns-clause-err
returns-clause-err g c tells =
    subst (λ (s : Told). IfErr c.read_table.result (λ e. TellsFault g.row.B s.seen c.args.side e))
    (c.in_ok-header.ensures.same.same tells) (c.read_table.ensures.err tells)

pub returns-clause-place : goal.returns-clause-place
returns-clause-place g c tells =
    subst (λ (s : Told). IfErr c.read_table.result (FailedInCopy (SideReads g.row.B s.seen c.args.side)))
    (c.in_ok-header.ensures.same.same tells) (c.read_table.ensures.place tells)

pub returns-in_err-header-clause-err : goal.returns-in_err-header-clause-err
returns-in_err-header-clause-err g c tells =
    let p = err_from_is_err_and c.from_residual.result c.from_residual.ensures.1 in
    rw (p.1, p.2) (fault_of_head g.row.B (g.D.Disk.told c.args.disk.now).seen c.args.side _ (c.in_err-header.ensures.err tells))

pub read_table-requires-clause-room : goal.read_table-requires-clause-room
read_table-requires-clause-room g c = rw c.in_ok-header.ensures.same.same_count c.requires.room

pub read_table-requires-clause-placed : goal.read_table-requires-clause-placed
read_table-requires-clause-placed g c = rw c.in_ok-header.ensures.same.same_count c.in_ok-header.ensures.placed

pub returns-in_err-header-clause-blames : goal.returns-in_err-header-clause-blames
returns-in_err-header-clause-blames g c =
    let p = err_from_is_err_and c.from_residual.result c.from_residual.ensures.1 in
    rw (p.1, p.2) c.in_err-header.ensures.blames

pub returns-in_err-header-clause-place : goal.returns-in_err-header-clause-place
returns-in_err-header-clause-place g c tells =
    let side = c.args.side in
    let p = err_from_is_err_and c.from_residual.result c.from_residual.ensures.1 in
    let sized = g.met.D.Disk.sized c.args.disk.now tells in
    rw (p.1, p.2) (failed_in (λ s. s ≡ header_place side (g.D.Disk.count c.args.disk.now))
    (SideReads g.row.B (g.D.Disk.told c.args.disk.now).seen side) _
    (λ s here. inl (here ∙ ap (header_place side) (sym sized))) c.in_err-header.ensures.place)

pub returns-clause-blames : goal.returns-clause-blames
returns-clause-blames g c = rw c.in_ok-header.ensures.blames at c.read_table.ensures.blames
