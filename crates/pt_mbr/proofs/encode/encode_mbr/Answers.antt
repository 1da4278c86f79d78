use Rattle.std.proofs.Common.{arith}
use Rattle.pt_mbr.proofs.Written.{all_else, again, formed_again, records_stand, signed}
use Rattle.pt_mbr.proofs.encode.encode_mbr.Goals as goal

pub returns-clause-other : goal.returns-clause-other
returns-clause-other g c =
    all_else c.args.mbr.now.records c.args.under.now c.put_value-sector.result c.put_value-sector-2.result
    c.put_value-sector-3.result c.put_value-sector-4.result c.put_part.result
    c.put_value-sector.ensures c.put_value-sector-2.ensures c.put_value-sector-3.ensures c.put_value-sector-4.ensures
    c.put_part.ensures.put (omega arith) (omega arith)

pub returns-clause-bytes : goal.returns-clause-bytes
returns-clause-bytes g c =
    records_stand c.args.mbr.now.records c.args.under.now c.put_value-sector.result c.put_value-sector-2.result
    c.put_value-sector-3.result c.put_value-sector-4.result c.put_part.result
    c.put_value-sector.ensures c.put_value-sector-2.ensures c.put_value-sector-3.ensures c.put_value-sector-4.ensures
    c.put_part.ensures.put (omega arith) (omega arith)
    (omega arith) (omega arith) (omega arith)

pub returns-clause-signature : goal.returns-clause-signature
returns-clause-signature g c =
    signed c.args.mbr.now.records c.args.under.now c.put_value-sector.result c.put_value-sector-2.result c.put_value-sector-3.result
    c.put_value-sector-4.result c.put_part.result
    c.put_value-sector.ensures c.put_value-sector-2.ensures c.put_value-sector-3.ensures c.put_value-sector-4.ensures
    c.put_part.ensures.put (omega arith) (omega arith)

pub returns-clause-read : goal.returns-clause-read
returns-clause-read g c b bytes = record {
  formed =
      formed_again c.args.mbr.now.records c.args.under.now c.put_value-sector.result c.put_value-sector-2.result
      c.put_value-sector-3.result c.put_value-sector-4.result c.put_part.result
      c.put_value-sector.ensures c.put_value-sector-2.ensures c.put_value-sector-3.ensures c.put_value-sector-4.ensures
      c.put_part.ensures.put (omega arith) (omega arith) b bytes.formed bytes.records;
  records =
      again c.args.mbr.now.records c.args.under.now c.put_value-sector.result c.put_value-sector-2.result c.put_value-sector-3.result
      c.put_value-sector-4.result c.put_part.result
      c.put_value-sector.ensures c.put_value-sector-2.ensures c.put_value-sector-3.ensures c.put_value-sector-4.ensures
      c.put_part.ensures.put (omega arith) (omega arith) b bytes.records;
}
