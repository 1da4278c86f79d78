use Rattle.std.proofs.Common.{◌∙◌}
use Rattle.pt_guid.specs.Codes.{rows}
use Rattle.pt_guid.proofs.Table.{no_row, type_next}
use Rattle.pt_guid.proofs.codes.type_of_code.Goals as goal

pub loop-known-preserved : goal.loop-known-preserved
loop-known-preserved c =
    c.loop-known.invariant ∙ type_next rows c.loop-known.known-index c.args.code no_row c.loop-known-test.true c.if-known-code.false
