use Rattle.std.specs.Prelude.{nat_eq}
use Rattle.std.proofs.Common.{rules, tests}
use Rattle.std.proofs.lemmas.Iterator.{YieldsList-from_slice}
use Rattle.std.proofs.lemmas.Iterator.Search.{any_from_yields_List}
use Rattle.pt_edit.proofs.space.placement.has.Goals as goal

pub returns : goal.returns
returns c =
    any_from_yields_List (nat_eq c.args.k) _ _ _ c.any.ensures.ran (YieldsList-from_slice c.args.sectors.now cc)
    (λ x b q k. search (rules, tests))
