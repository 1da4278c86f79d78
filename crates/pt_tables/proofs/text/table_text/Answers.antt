use Rattle.std.proofs.Common.{◌≤◌, arith}
use Rattle.serde_json.specs.Data.{depth}
use Rattle.serde_json.specs.Read.{max_depth}
use Rattle.pt_tables.specs.Text.{table_data}
use Rattle.pt_tables.proofs.Depths.{table_within}
use Rattle.pt_tables.proofs.Texts.{is_text}
use Rattle.pt_tables.proofs.text.table_text.Goals as goal

pub returns : goal.returns
returns g c =
    let small : depth (table_data c.args.device.now g.row.B c.args.layout.now) ≤ max_depth =
    (let it = table_within c.args.device.now g.row.B c.args.layout.now in omega (arith, it)) in
    is_text c.to_string_pretty.result _ _ c.in_ok-table_value.ensures small c.to_string_pretty.ensures.reads_back
    c.to_string_pretty.ensures.order c.to_string_pretty.ensures.layout
