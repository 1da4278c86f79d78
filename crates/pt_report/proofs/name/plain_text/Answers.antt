use Rattle.std.proofs.Common.{◌∙◌, sym, subst, List, ℕ}
use Rattle.std.specs.Prelude.{All}
use Rattle.std.proofs.lemmas.List.{take_all}
use Rattle.pt_report.proofs.Names.{IsPlain, plain_shown}
use Rattle.pt_report.proofs.name.plain_text.Goals as goal

pub returns : goal.returns
returns c =
    let whole = c.loop-unit.invariant.0 ∙ take_all c.loop-unit.unit-index c.args.units.now c.loop-unit-test.false in
    whole ∙ sym (plain_shown c.args.units.now (subst (λ (us : List ℕ). All IsPlain us) whole c.loop-unit.invariant.1))
