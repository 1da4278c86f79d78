use Rattle.std.proofs.Common.{◌∙◌, ℕ, List, refl, sym, ap, subst, arith}
use Rattle.pt_sector.specs.Sectors.{Sectors}
use Rattle.pt_members.specs.Members.{places_of, IsPlace}
use Rattle.pt_members.specs.declared.layout.Slice.{Slice}
use Rattle.pt_members.specs.declared.layout.Body.TheVariants.{Gpt}
use Rattle.pt_recover.specs.Denotes.{LabelsAre}
use Rattle.pt_recover.specs.Spans.{Adds}
use Rattle.pt_recover.proofs.Whole.{places_within}
use Rattle.pt_layout.proofs.Surveys.{places_fit}
use Rattle.pt_layout.proofs.survey.with_labels.Goals as goal

pub add_places-requires : goal.add_places-requires
add_places-requires g c =
    places_fit c.sectors-sectors.result c.deref.result.now (omega arith)
    (places_within g.row.B c.sectors-sectors.result c.sectors-sectors.result (Gpt c.args.table) c.deref.result.now
    (c.deref.ensures.value ∙ c.in_ok-slices.ensures.value) refl)

pub traced_labels-requires-clause-within : goal.traced_labels-requires-clause-within
traced_labels-requires-clause-within g c =
    places_within g.row.B c.sectors-sectors.result (g.D.Disk.count c.args.disk.now) (Gpt c.args.table) c.deref-2.result.now
    (c.deref-2.ensures.value ∙ c.in_ok-slices.ensures.value) c.sectors-sectors.ensures

pub returns-clause-guarded : goal.returns-clause-guarded
returns-clause-guarded g c =
    let same =
    c.deref.ensures.value ∙ c.in_ok-slices.ensures.value
    ∙ ap (λ (n : ℕ). places_of g.row.B n (Gpt c.args.table)) c.sectors-sectors.ensures in
    subst (λ (l : List Slice). Adds c.args.guarded.now c.add_places.new.places (IsPlace l)) same c.in_ok-add_places.ensures

pub returns-clause-ok : goal.returns-clause-ok
returns-clause-ok g c = λ tells.
    let d : Sectors = (g.D.Disk.told c.args.disk.now).seen in
    let count = c.sectors-sectors.ensures ∙ sym (g.met.D.Disk.sized c.args.disk.now tells) in
    let same = c.deref-2.ensures.value ∙ c.in_ok-slices.ensures.value ∙ ap (λ (n : ℕ). places_of g.row.B n (Gpt c.args.table)) count in
    (count, refl, subst (λ (l : List Slice). LabelsAre d l c.in_ok-labels.labels) same (c.in_ok-labels.ensures.ok tells))

pub returns-clause-traced : goal.returns-clause-traced
returns-clause-traced g c =
    let same =
    c.deref-2.ensures.value ∙ c.in_ok-slices.ensures.value
    ∙ ap (λ (n : ℕ). places_of g.row.B n (Gpt c.args.table)) c.sectors-sectors.ensures in
    subst (λ (l : List Slice). Adds c.args.trace.now c.traced_labels.new.trace (IsPlace l)) same c.in_ok-labels.ensures.traced
