use Rattle.std.proofs.Common.{arith}
use Rattle.pt_mbr.proofs.Linking.{zeros_else, logical_bytes, signed, new_read}
use Rattle.pt_mbr.proofs.change.new_ebr.Goals as goal

pub returns-clause-zeros : goal.returns-clause-zeros
returns-clause-zeros g c =
    zeros_else g.row.B c.args.ebr.now c.args.link.now c.put_part-sector.result c.put_value-sector.result c.put_value.result
    c.put_part-sector.ensures.put c.put_value-sector.ensures c.put_value.ensures (omega arith) (omega arith) (omega arith) (omega arith)

pub returns-clause-logical : goal.returns-clause-logical
returns-clause-logical g c =
    logical_bytes g.row.B c.args.ebr.now c.args.link.now c.put_part-sector.result c.put_value-sector.result c.put_value.result
    c.put_part-sector.ensures.put c.put_value-sector.ensures c.put_value.ensures (omega arith) (omega arith) (omega arith) (omega arith)

pub returns-clause-signature : goal.returns-clause-signature
returns-clause-signature g c =
    signed g.row.B c.args.ebr.now c.args.link.now c.put_part-sector.result c.put_value-sector.result c.put_value.result
    c.put_part-sector.ensures.put c.put_value-sector.ensures c.put_value.ensures (omega arith) (omega arith) (omega arith) (omega arith)

pub returns-clause-read : goal.returns-clause-read
returns-clause-read g c =
    new_read g.row.B c.args.ebr.now c.args.link.now c.put_part-sector.result c.put_value-sector.result c.put_value.result
    c.put_part-sector.ensures.put c.put_value-sector.ensures c.put_value.ensures (omega arith) (omega arith) (omega arith) (omega arith)
