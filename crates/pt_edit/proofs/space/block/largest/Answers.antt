use Rattle.std.proofs.Common.{rules, ◌∙◌, ap}
use Rattle.std.proofs.lemmas.List.Sorted.{IsNonDecreasingBy-from_sort_by_key}
use Rattle.pt_edit.specs.declared.space.Run.{Run}
use Rattle.pt_edit.specs.Space.{area_of, longest}
use Rattle.pt_edit.proofs.AllBlocks.{blocks_moved}
use Rattle.pt_edit.proofs.space.block.largest.Goals as goal

pub sweep-requires : goal.sweep-requires
sweep-requires c =
    IsNonDecreasingBy-from_sort_by_key (λ (r : Run). r.first) c.sort_unstable_by_key.new.self.items
    c.sort_unstable_by_key.ensures.sorted (λ a r q k. search rules)

pub returns : goal.returns
returns c =
    let a = area_of c.args.space.now in
    c.sweep.ensures
    ∙ ap (longest a c.args.alignment) (blocks_moved a c.sort_unstable_by_key.new.self.items c.sort_unstable_by_key.ensures.permutation)
