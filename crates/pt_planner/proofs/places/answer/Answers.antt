use Rattle.std.proofs.Common.{List, sym, subst, rules}
use Rattle.std.specs.Prelude.{IsPermutation}
use Rattle.std.specs.List.Sorted.{IsNonDecreasingBy}
use Rattle.std.proofs.lemmas.List.Sorted.{IsNonDecreasingBy-from_sort_by_key}
use Rattle.pt_members.specs.declared.layout.Slice.{Slice}
use Rattle.pt_planner.specs.declared.places.LabelTargets.TheVariants.{Unreadable, Targets}
use Rattle.pt_planner.proofs.ByFirst.{answer_back}
use Rattle.pt_planner.proofs.places.answer.Goals as goal

pub targets-requires : goal.targets-requires
targets-requires g c = (
  search rules,
  (
    search rules,
    (
      c.requires,
      subst (λ (ss : List Slice). IsNonDecreasingBy (λ (s : Slice). s.first) ss) (sym c.deref.ensures.value)
          (IsNonDecreasingBy-from_sort_by_key (λ (s : Slice). s.first) c.sort_unstable_by_key.new.self.items
          c.sort_unstable_by_key.ensures.sorted (λ a r q k. search rules)),
    ),
  ),
)

pub returns-in-Some-found : goal.returns-in-Some-found
returns-in-Some-found g c =
    answer_back c.args.old.items c.deref.result.now
    (subst (λ (ss : List Slice). IsPermutation c.args.old.items ss) (sym c.deref.ensures.value)
    c.sort_unstable_by_key.ensures.permutation) c.args.places.now (Targets c.in-Some-found.targets)
    (c.in_default.ensures, rw c.in-Some-found.is at c.in_ok-found.ensures)

pub returns : goal.returns
returns g c =
    answer_back c.args.old.items c.deref.result.now
    (subst (λ (ss : List Slice). IsPermutation c.args.old.items ss) (sym c.deref.ensures.value)
    c.sort_unstable_by_key.ensures.permutation) c.args.places.now Unreadable
    (c.in_default.ensures, rw c.in-None.is at c.in_ok-found.ensures)
