use Rattle.std.proofs.lemmas.Result.{err_from_is_err_and}
use Rattle.std.proofs.Common.{◌<◌, ◌∙◌, ℕ, sym, ap, subst, List, get_or, refl, arith}
use Rattle.pt_sector.specs.Sectors.{Sectors, sector}
use Rattle.pt_sector.specs.Device.{with_fault, Told}
use Rattle.pt_sector.specs.Overlays.{fault_of}
use Rattle.pt_sector.specs.declared.disk.Fault.{Fault}
use Rattle.pt_members.specs.Members.{place_of}
use Rattle.pt_recover.specs.Denotes.{LabelsAre}
use Rattle.pt_recover.specs.inner.Denotes.{LabelIs}
use Rattle.pt_members.specs.declared.layout.Slice.{Slice}
use Rattle.pt_members.specs.declared.layout.Labelled.{Labelled}
use Rattle.pt_recover.proofs.LabelSteps.{label_more, labels_end}
use Rattle.pt_recover.proofs.Traces.{place_more, place_end}
use Rattle.pt_recover.proofs.Failed.{place_failed}
use Rattle.pt_recover.proofs.labels.traced_labels.Goals as goal

pub loop-k-preserved : goal.loop-k-preserved
loop-k-preserved g c =
    let z : Slice = record { number = 0; first = 0; len = 0 } in
    let p : Slice = get_or c.args.slices.now c.loop-k.k z in
    record {
      same = g.met.D.Disk.reads_on c.args.disk.now c.loop-k.disk c.read_label.new.disk c.loop-k.invariant.same c.in_ok-found.ensures.same;
      quiet = c.in_ok-found.ensures.blames ∙ c.loop-k.invariant.quiet;
      labels = λ tells.
          (let d : Sectors = (g.D.Disk.told c.args.disk.now).seen in
          label_more d c.args.slices.now c.loop-k.k z p c.in_ok-found.found c.loop-k.labels.items c.push_label.new.labels.items
          (omega arith) refl
          (subst (λ (t : Told). LabelIs p (sector t.seen (place_of p)) c.in_ok-found.found) (c.loop-k.invariant.same.same tells)
          (c.in_ok-found.ensures.ok tells)) (c.loop-k.invariant.labels tells) c.in_ok-push_label.ensures);
      traced =
          place_more c.args.trace.now c.loop-k.trace c.read_label.new.trace c.args.slices.now c.loop-k.k z p
          (omega arith) refl c.loop-k.invariant.traced c.in_ok-found.ensures.traced;
    }

pub returns-clause-ok : goal.returns-clause-ok
returns-clause-ok g c = λ tells.
    let d : Sectors = (g.D.Disk.told c.args.disk.now).seen in
    subst (λ (l : List Labelled). LabelsAre d c.args.slices.now l) (sym c.new.ensures)
    (labels_end d c.args.slices.now c.loop-k.k c.loop-k.labels.items (omega arith) (c.loop-k.invariant.labels tells))

pub returns-in_err-found-clause-place : goal.returns-in_err-found-clause-place
returns-in_err-found-clause-place g c =
    let p = err_from_is_err_and c.from_residual.result c.from_residual.ensures.1 in
    rw (p.1, p.2) (place_failed c.args.slices.now c.loop-k.k (record { number = 0; first = 0; len = 0 }) c.in_err-found.field-0.0
    (omega arith) c.in_err-found.ensures.place)

pub returns-clause-same : goal.returns-clause-same
returns-clause-same g c = c.loop-k.invariant.same

pub returns-clause-blames : goal.returns-clause-blames
returns-clause-blames g c = c.loop-k.invariant.quiet

pub returns-clause-traced : goal.returns-clause-traced
returns-clause-traced g c =
    place_end c.args.trace.now c.loop-k.trace c.args.slices.now c.loop-k.k (omega arith) c.loop-k.invariant.traced

pub returns-in_err-found-clause-same : goal.returns-in_err-found-clause-same
returns-in_err-found-clause-same g c =
    g.met.D.Disk.reads_on c.args.disk.now c.loop-k.disk c.read_label.new.disk c.loop-k.invariant.same c.in_err-found.ensures.same

pub returns-in_err-found-clause-blames : goal.returns-in_err-found-clause-blames
returns-in_err-found-clause-blames g c =
    let p = err_from_is_err_and c.from_residual.result c.from_residual.ensures.1 in
    rw (p.1, p.2) (c.in_err-found.ensures.blames
    ∙ ap (λ (fs : List Fault). with_fault fs (fault_of c.in_err-found.field-0.0)) c.loop-k.invariant.quiet)

pub returns-in_err-push_label-clause-same : goal.returns-in_err-push_label-clause-same
returns-in_err-push_label-clause-same g c =
    g.met.D.Disk.reads_on c.args.disk.now c.loop-k.disk c.read_label.new.disk c.loop-k.invariant.same c.in_ok-found.ensures.same

pub read_label-requires-clause-within : goal.read_label-requires-clause-within
read_label-requires-clause-within g c =
    let z : Slice = record { number = 0; first = 0; len = 0 } in
    subst (λ (n : ℕ). place_of (get_or c.args.slices.now c.loop-k.k z) < n) (sym c.loop-k.invariant.same.same_count)
    (c.requires.within c.loop-k.k z (omega arith))
