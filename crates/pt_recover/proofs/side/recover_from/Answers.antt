use Rattle.std.proofs.Common.{◌∙◌, sym}
use Rattle.std.proofs.lemmas.Result.{err_from_is_err_and}
use Rattle.pt_members.specs.declared.layout.Body.TheVariants.{Gpt}
use Rattle.pt_recover.proofs.Alone.{gives_layout, label_failed_there, label_gives_none}
use Rattle.pt_recover.proofs.Whole.{places_within}
use Rattle.pt_recover.proofs.side.recover_from.Goals as goal

pub traced_labels-requires-clause-within : goal.traced_labels-requires-clause-within
traced_labels-requires-clause-within g c =
    places_within g.row.B c.sectors-sectors.result (g.D.Disk.count c.table_from.new.disk) (Gpt c.in_ok-table_from.field-0)
    c.deref.result.now (c.deref.ensures.value ∙ c.in_ok-places.ensures.value)
    (c.sectors-sectors.ensures ∙ sym c.in_ok-table_from.ensures.same.same_count)

pub returns-in_err-labels-clause-place : goal.returns-in_err-labels-clause-place
returns-in_err-labels-clause-place g c = λ tells.
    let p = err_from_is_err_and c.from_residual-in_err-labels.result c.from_residual-in_err-labels.ensures.1 in
    rw (p.1, p.2) (label_failed_there g.row.B c.sectors-sectors.result (g.D.Disk.told c.args.disk.now).seen c.args.side
    c.in_ok-table_from.field-0 c.deref.result.now c.in_err-labels.field-0.0 (c.in_ok-table_from.ensures.ok tells)
    (c.deref.ensures.value ∙ c.in_ok-places.ensures.value)
    (c.sectors-sectors.ensures ∙ sym (g.met.D.Disk.sized c.args.disk.now tells)) c.in_err-labels.ensures.place)

pub returns-in_err-labels-clause-err : goal.returns-in_err-labels-clause-err
returns-in_err-labels-clause-err g c = λ tells.
    let p = err_from_is_err_and c.from_residual-in_err-labels.result c.from_residual-in_err-labels.ensures.1 in
    rw (p.1, p.2) (label_gives_none g.row.B (g.D.Disk.told c.args.disk.now).seen c.args.side c.in_err-labels.field-0.0)

pub returns-clause-ok : goal.returns-clause-ok
returns-clause-ok g c = λ tells.
    gives_layout g.row.B c.sectors-sectors.result (g.D.Disk.told c.args.disk.now).seen c.args.side c.in_ok-table_from.field-0
    c.deref.result.now c.in_ok-labels.labels (c.in_ok-table_from.ensures.ok tells)
    (c.deref.ensures.value ∙ c.in_ok-places.ensures.value)
    (c.sectors-sectors.ensures ∙ sym (g.met.D.Disk.sized c.args.disk.now tells))
    (rw (c.in_ok-table_from.ensures.same.same tells) at (c.in_ok-labels.ensures.ok tells))
