use Rattle.std.proofs.Common.{rules}
use Rattle.std.proofs.lemmas.List.Sorted.{IsNonDecreasingBy-from_sort_by_key}
use Rattle.std.proofs.lemmas.Result.{IfOk-weaker}
use Rattle.pt_edit.specs.declared.space.Run.{Run}
use Rattle.pt_edit.specs.Space.{area_of}
use Rattle.pt_edit.proofs.AllBlocks.{blocks_back}
use Rattle.pt_edit.proofs.space.block.blocks.Goals as goal

pub between-requires : goal.between-requires
between-requires c =
    IsNonDecreasingBy-from_sort_by_key (λ (r : Run). r.first) c.sort_unstable_by_key.new.self.items
    c.sort_unstable_by_key.ensures.sorted (λ a r q k. search rules)

pub returns : goal.returns
returns c =
    IfOk-weaker c.between.result _ _ (λ v are. blocks_back (area_of c.args.space) c.sort_unstable_by_key.new.self.items v.items
    c.sort_unstable_by_key.ensures.permutation are) c.between.ensures
