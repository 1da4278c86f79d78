use Rattle.std.proofs.Common.{◌≡◌, ◌∙◌, sym, subst}
use Rattle.std.proofs.lemmas.Bool.{false≢true}
use Rattle.pt_bsd.proofs.Terms.{label_one, label_none}
use Rattle.pt_bsd.proofs.Equal.{label_decides}
use Rattle.pt_bsd.specs.declared.label.Label.{Label}
use Rattle.pt_planner.specs.inner.Places.{PlacesRead}
use Rattle.pt_planner.proofs.places.targets.kept.Goals as goal

pub returns-then-eq : goal.returns-then-eq
returns-then-eq g c =
    let same : c.in-Ok.found ≡ c.args.label.now = (label_decides c.in-Ok.found c.args.label.now).0 (sym c.eq.ensures ∙ c.if-eq.true) in
    (c.stays.ensures, subst (λ (l : Label). PlacesRead c.args.place.now l c.args.place.now.bytes) same c.in-Ok.ensures.ok)

pub returns-else-eq : goal.returns-else-eq
returns-else-eq g c = λ reads.
    let s = c.args.place.now.spot.slice in
    let same : c.in-Ok.found ≡ c.args.label.now =
    label_one c.in-Ok.found c.args.label.now s.first s.len s.first s.len c.args.place.now.bytes c.in-Ok.ensures.ok reads in
    false≢true (sym c.if-eq.false ∙ c.eq.ensures ∙ (label_decides c.in-Ok.found c.args.label.now).1 same)

pub returns-in-Err : goal.returns-in-Err
returns-in-Err g c = λ reads.
    let s = c.args.place.now.spot.slice in
    label_none c.in-Err.field-0 c.args.label.now s.first s.len c.args.place.now.bytes c.in-Err.ensures.err reads
