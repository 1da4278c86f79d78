use Rattle.std.proofs.Common.{◌≡◌, ◌∙◌, sym, subst}
use Rattle.std.proofs.lemmas.Bool.{false≢true}
use Rattle.pt_bsd.proofs.Equal.{label_decides}
use Rattle.pt_bsd.specs.declared.label.Label.{Label}
use Rattle.pt_planner.specs.inner.Places.{HadAt}
use Rattle.pt_planner.proofs.Pieces.{kept_is, changed_is, new_is}
use Rattle.pt_planner.proofs.places.targets.labelled.Goals as goal

pub returns-then-eq : goal.returns-then-eq
returns-then-eq g c =
    let same : c.in-Some.had ≡ c.args.label.now = (label_decides c.in-Some.had c.args.label.now).0 (sym c.eq.ensures ∙ c.if-eq.true) in
    let had : HadAt c.args.old.now c.args.place.now c.args.label.now =
    subst (λ (l : Label). HadAt c.args.old.now c.args.place.now l) same c.in-Some.ensures in
    kept_is c.args.old.now c.args.place.now c.args.label.now c.kept.result had c.kept.ensures

pub returns-else-eq : goal.returns-else-eq
returns-else-eq g c =
    changed_is c.args.old.now c.args.place.now c.in-Some.had c.args.label.now c.written.result c.in-Some.ensures
    (λ same. false≢true (sym c.if-eq.false ∙ c.eq.ensures ∙ (label_decides c.in-Some.had c.args.label.now).1 same))
    c.written.ensures

pub returns-in-None : goal.returns-in-None
returns-in-None g c =
    new_is c.args.old.now c.args.place.now c.args.label.now c.written-in-None.result c.in-None.ensures c.written-in-None.ensures
