use Rattle.std.proofs.lemmas.Result.{err_from_is_err_and}
use Rattle.std.proofs.Common.{◌≡◌, ◌∙◌, List, Option, length, refl, sym, ap, inl}
use Rattle.pt_sector.specs.Device.{with_fault}
use Rattle.pt_sector.specs.Overlays.{fault_of}
use Rattle.pt_sector.specs.Sectors.{Sectors}
use Rattle.pt_sector.specs.declared.disk.Fault.{Fault}
use Rattle.pt_sector.specs.declared.reading.Failure.{Failure}
use Rattle.pt_sector.specs.declared.reading.Failure.TheVariants as failure
use Rattle.pt_recover.specs.Denotes.{IsOutsideDisk, fault_in, told_failure}
use Rattle.pt_recover.proofs.Whole.{places_within, all_read, none_read}
use Rattle.pt_recover.proofs.Failed.{reads_failed, label_failed}
use Rattle.pt_recover.proofs.recovery.recover_into.Goals as goal

told_outside : (f : Failure) → IsOutsideDisk (told_failure f)
told_outside (failure.Device at) = tt
told_outside failure.Memory = tt

told_fault : (f : Failure) → fault_of f ≡ fault_in (told_failure f)
told_fault (failure.Device at) = refl
told_fault failure.Memory = refl

pub returns-in_err-body-clause-traced_err : goal.returns-in_err-body-clause-traced_err
returns-in_err-body-clause-traced_err g c = λ tells.
    let p = err_from_is_err_and c.from_residual.result c.from_residual.ensures.1 in
    rw (p.1, p.2)
    (none_read g.row.B (g.D.Disk.told c.args.disk.now).seen c.in_err-body.field-0.0 c.args.trace.now c.body_after.new.trace
    (c.in_err-body.ensures.err tells) (c.in_err-body.ensures.traced_err tells))

pub traced_labels-requires-clause-within : goal.traced_labels-requires-clause-within
traced_labels-requires-clause-within g c =
    places_within g.row.B c.sectors-sectors.result (g.D.Disk.count c.body_after.new.disk) c.in_ok-body.body c.deref.result.now
    (c.deref.ensures.value ∙ c.in_ok-places.ensures.value) (c.sectors-sectors.ensures ∙ sym c.in_ok-body.ensures.same.same_count)

pub returns-clause-traced : goal.returns-clause-traced
returns-clause-traced g c = λ tells.
    all_read g.row.B c.sectors-sectors.result
    (g.D.Disk.told c.args.disk.now).seen c.in_ok-body.body c.deref.result.now c.args.trace.now c.body_after.new.trace
    c.traced_labels.new.trace
    (c.in_ok-body.ensures.ok tells) (c.deref.ensures.value ∙ c.in_ok-places.ensures.value)
    (c.sectors-sectors.ensures ∙ sym (g.met.D.Disk.sized c.args.disk.now tells))
    (c.in_ok-body.ensures.traced tells) c.in_ok-labels.ensures.traced

pub returns-in_err-body-clause-place : goal.returns-in_err-body-clause-place
returns-in_err-body-clause-place g c = λ tells.
    let p = err_from_is_err_and c.from_residual.result c.from_residual.ensures.1 in
    rw (p.1, p.2) (reads_failed g.row.B (g.D.Disk.told c.args.disk.now).seen c.in_err-body.field-0.0 (c.in_err-body.ensures.place tells))

pub returns-in_err-labels-clause-place : goal.returns-in_err-labels-clause-place
returns-in_err-labels-clause-place g c = λ tells.
    let p = err_from_is_err_and c.from_residual-in_err-labels.result c.from_residual-in_err-labels.ensures.1 in
    rw (p.1, p.2) (label_failed g.row.B c.sectors-sectors.result
    (g.D.Disk.told c.args.disk.now).seen c.in_ok-body.body c.deref.result.now c.in_err-labels.field-0.0
    (c.in_ok-body.ensures.ok tells) (c.deref.ensures.value ∙ c.in_ok-places.ensures.value)
    (c.sectors-sectors.ensures ∙ sym (g.met.D.Disk.sized c.args.disk.now tells)) c.in_err-labels.ensures.place)

pub returns-clause-ok : goal.returns-clause-ok
returns-clause-ok g c = λ tells.
    let d : Sectors = (g.D.Disk.told c.args.disk.now).seen in
    let count : c.sectors-sectors.result ≡ length d = c.sectors-sectors.ensures ∙ sym (g.met.D.Disk.sized c.args.disk.now tells) in (
      count,
      c.in_ok-body.ensures.ok tells,
      rw (c.in_ok-body.ensures.same.same tells, c.deref.ensures.value, c.in_ok-places.ensures.value, count) at
          (c.in_ok-labels.ensures.ok tells),
    )

pub returns-clause-same : goal.returns-clause-same
returns-clause-same g c =
    g.met.D.Disk.reads_on c.args.disk.now c.body_after.new.disk c.traced_labels.new.disk c.in_ok-body.ensures.same
    c.in_ok-labels.ensures.same

pub returns-clause-blames : goal.returns-clause-blames
returns-clause-blames g c = c.in_ok-labels.ensures.blames ∙ c.in_ok-body.ensures.blames

pub returns-in_err-labels-clause-same : goal.returns-in_err-labels-clause-same
returns-in_err-labels-clause-same g c =
    g.met.D.Disk.reads_on c.args.disk.now c.body_after.new.disk c.traced_labels.new.disk c.in_ok-body.ensures.same
    c.in_err-labels.ensures.same

pub returns-in_err-labels-clause-blames : goal.returns-in_err-labels-clause-blames
returns-in_err-labels-clause-blames g c =
    let p = err_from_is_err_and c.from_residual-in_err-labels.result c.from_residual-in_err-labels.ensures.1 in
    rw (p.1, p.2) (c.in_err-labels.ensures.blames
    ∙ ap (λ (fs : List Fault). with_fault fs (fault_of c.in_err-labels.field-0.0)) c.in_ok-body.ensures.blames
    ∙ ap (λ (o : Option Fault). with_fault (g.D.Disk.faults c.args.disk.now) o) (told_fault c.in_err-labels.field-0.0))

pub returns-in_err-labels-clause-err : goal.returns-in_err-labels-clause-err
returns-in_err-labels-clause-err g c = λ tells.
    let p = err_from_is_err_and c.from_residual-in_err-labels.result c.from_residual-in_err-labels.ensures.1 in
    rw (p.1, p.2) (inl (told_outside c.in_err-labels.field-0.0))

pub returns-in_err-labels-clause-traced_err : goal.returns-in_err-labels-clause-traced_err
returns-in_err-labels-clause-traced_err g c = λ tells.
    let p = err_from_is_err_and c.from_residual-in_err-labels.result c.from_residual-in_err-labels.ensures.1 in
    rw (p.1, p.2) (inl (told_outside c.in_err-labels.field-0.0))

pub returns-in_err-body-clause-same : goal.returns-in_err-body-clause-same
returns-in_err-body-clause-same g c = c.in_err-body.ensures.same

pub returns-in_err-body-clause-blames : goal.returns-in_err-body-clause-blames
returns-in_err-body-clause-blames g c =
    let p = err_from_is_err_and c.from_residual.result c.from_residual.ensures.1 in
    rw (p.1, p.2) c.in_err-body.ensures.blames

pub returns-in_err-body-clause-err : goal.returns-in_err-body-clause-err
returns-in_err-body-clause-err g c = λ tells.
    let p = err_from_is_err_and c.from_residual.result c.from_residual.ensures.1 in
    rw (p.1, p.2) (c.in_err-body.ensures.err tells)

pub returns-in_err-places-clause-same : goal.returns-in_err-places-clause-same
returns-in_err-places-clause-same g c = c.in_ok-body.ensures.same

pub returns-in_err-places-clause-blames : goal.returns-in_err-places-clause-blames
returns-in_err-places-clause-blames g c =
    let p = err_from_is_err_and c.from_residual-in_err-places.result c.from_residual-in_err-places.ensures.1 in
    rw (p.1, p.2) c.in_ok-body.ensures.blames

pub returns-in_err-places-clause-place : goal.returns-in_err-places-clause-place
returns-in_err-places-clause-place g c = λ tells.
    let p = err_from_is_err_and c.from_residual-in_err-places.result c.from_residual-in_err-places.ensures.1 in
    rw (p.1, p.2) tt

pub returns-in_err-places-clause-err : goal.returns-in_err-places-clause-err
returns-in_err-places-clause-err g c = λ tells.
    let p = err_from_is_err_and c.from_residual-in_err-places.result c.from_residual-in_err-places.ensures.1 in
    rw (p.1, p.2) (inl tt)

pub returns-in_err-places-clause-traced_err : goal.returns-in_err-places-clause-traced_err
returns-in_err-places-clause-traced_err g c = λ tells.
    let p = err_from_is_err_and c.from_residual-in_err-places.result c.from_residual-in_err-places.ensures.1 in
    rw (p.1, p.2) (inl tt)
