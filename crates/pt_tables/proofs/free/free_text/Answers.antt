use Rattle.std.proofs.Common.{◌≤◌, arith}
use Rattle.serde_json.specs.Data.{depth}
use Rattle.serde_json.specs.Read.{max_depth}
use Rattle.pt_tables.specs.Free.{free_data}
use Rattle.pt_tables.proofs.Depths.{free_within}
use Rattle.pt_tables.proofs.Texts.{is_text}
use Rattle.pt_tables.proofs.free.free_text.Goals as goal

pub returns : goal.returns
returns c =
    let small : depth (free_data c.args.blocks.now) ≤ max_depth = (let it = free_within c.args.blocks.now in omega (arith, it)) in
    is_text c.to_string_pretty.result _ _ c.in_ok-free_value.ensures small c.to_string_pretty.ensures.reads_back
    c.to_string_pretty.ensures.order c.to_string_pretty.ensures.layout
