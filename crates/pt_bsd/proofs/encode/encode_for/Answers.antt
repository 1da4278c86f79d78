use Rattle.std.proofs.Common.{◌≡◌, sym, ◌∙◌, subst}
use Rattle.std.proofs.lemmas.Bool.{false≢true}
use Rattle.pt_bsd.specs.Labels.{LabelBytes}
use Rattle.pt_bsd.proofs.Terms.{label_one, label_none}
use Rattle.pt_bsd.proofs.Equal.{label_decides}
use Rattle.pt_bsd.specs.declared.label.Label.{Label}
use Rattle.pt_bsd.proofs.encode.encode_for.Goals as goal

pub returns-then-eq-clause-some : goal.returns-then-eq-clause-some
returns-then-eq-clause-some g c =
    let same : c.in-Ok.found ≡ c.args.label.now = (label_decides c.in-Ok.found c.args.label.now).0 (sym c.eq.ensures ∙ c.if-eq.true) in
    subst (λ (l : Label). LabelBytes l c.args.slice_first c.args.slice_len c.encode_label-sector.result) same c.in-Ok.ensures.ok

pub returns-else-eq-clause-none : goal.returns-else-eq-clause-none
returns-else-eq-clause-none g c fit =
    let there = c.encode_label-sector.ensures.label fit.0 c.args.slice_first c.args.slice_len fit.1 in
    let same : c.in-Ok.found ≡ c.args.label.now =
    label_one c.in-Ok.found c.args.label.now c.args.slice_first c.args.slice_len c.args.slice_first c.args.slice_len
    c.encode_label-sector.result c.in-Ok.ensures.ok there in
    false≢true (sym c.if-eq.false ∙ c.eq.ensures ∙ (label_decides c.in-Ok.found c.args.label.now).1 same)

pub returns-in-Err-clause-none : goal.returns-in-Err-clause-none
returns-in-Err-clause-none g c fit =
    let there = c.encode_label-sector.ensures.label fit.0 c.args.slice_first c.args.slice_len fit.1 in
    label_none c.in-Err.field-0 c.args.label.now c.args.slice_first c.args.slice_len c.encode_label-sector.result c.in-Err.ensures.err there
