use Rattle.std.proofs.Common.{ℕ, List, subst}
use Rattle.std.proofs.lemmas.List.Sorted.{IsNonDecreasingBy-from_sort}
use Rattle.pt_members.specs.inner.Tables.{Gains}
use Rattle.pt_members.specs.Tables.{IsEbr}
use Rattle.pt_members.proofs.Listed.{listed}
use Rattle.pt_members.proofs.alone.ebrs_of.Goals as goal

pub returns : goal.returns
returns c =
    listed (IsEbr c.args.body.now) c.push_chain.new.sectors.items c.sort_unstable.new.self.items
    (subst (λ (l : List ℕ). Gains (IsEbr c.args.body.now) l c.push_chain.new.sectors.items) c.new-ebrs.ensures.items
    c.in_ok-push_chain.ensures)
    c.sort_unstable.ensures.permutation
    (IsNonDecreasingBy-from_sort (λ x. x) c.sort_unstable.new.self.items c.sort_unstable.ensures.sorted)
