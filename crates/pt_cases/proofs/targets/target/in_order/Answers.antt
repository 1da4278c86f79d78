use Rattle.std.proofs.Common.{List, refl, subst}
use Rattle.std.proofs.lemmas.List.Sorted.{IsNonDecreasingBy-from_sort_by_key}
use Rattle.pt_cases.specs.inner.Targets.{HasTwinTargets}
use Rattle.pt_cases.specs.declared.targets.target.Target.{Target}
use Rattle.pt_cases.proofs.Steps.{unless}
use Rattle.pt_cases.proofs.Sorting.{two_of_one, in_order}
use Rattle.pt_cases.proofs.targets.target.in_order.Goals as goal

pub returns-then-has_twins-clause-none : goal.returns-then-has_twins-clause-none
returns-then-has_twins-clause-none g c =
    two_of_one c.args.targets.items c.sort_unstable_by_key.new.self.items c.sort_unstable_by_key.ensures.permutation
    (subst (λ (ts : List (Target g.row.B)). HasTwinTargets ts) c.deref.ensures.value (c.if-has_twins.ensures.0 refl))

pub returns-else-has_twins-clause-some : goal.returns-else-has_twins-clause-some
returns-else-has_twins-clause-some g c =
    in_order c.args.targets.items c.sort_unstable_by_key.new.self.items c.sort_unstable_by_key.ensures.permutation
    (IsNonDecreasingBy-from_sort_by_key
    (λ (t : Target g.row.B). t.at.0) c.sort_unstable_by_key.new.self.items c.sort_unstable_by_key.ensures.sorted (λ a r q k. (k.met, refl)))
    (subst (λ (ts : List (Target g.row.B)). ¬ HasTwinTargets ts) c.deref.ensures.value (unless _ c.if-has_twins.ensures))
