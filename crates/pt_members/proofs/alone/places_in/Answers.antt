use Rattle.std.proofs.Common.{ℕ, List, subst}
use Rattle.std.proofs.lemmas.List.Sorted.{IsNonDecreasingBy-from_sort}
use Rattle.pt_members.specs.inner.Tables.{Gains}
use Rattle.pt_members.specs.Members.{IsPlace}
use Rattle.pt_members.proofs.Listed.{listed}
use Rattle.pt_members.proofs.alone.places_in.Goals as goal

pub returns : goal.returns
returns c =
    listed (IsPlace c.args.slices.now) c.push_places.new.sectors.items c.sort_unstable.new.self.items
    (subst (λ (l : List ℕ). Gains (IsPlace c.args.slices.now) l c.push_places.new.sectors.items) c.new-places.ensures.items
    c.in_ok-push_places.ensures)
    c.sort_unstable.ensures.permutation
    (IsNonDecreasingBy-from_sort (λ x. x) c.sort_unstable.new.self.items c.sort_unstable.ensures.sorted)
