use Rattle.std.proofs.Common.{arith}
use Rattle.pt_mbr.proofs.Changing.{each_changed, taken, read_anew, none_borne}
use Rattle.pt_mbr.proofs.change.change_records.Goals as goal

pub returns-clause-boot : goal.returns-clause-boot
returns-clause-boot g c =
    taken c.args.old.now c.args.new.now c.args.sector.now c.change_record-changed.result c.change_record-changed-2.result
    c.change_record-changed-3.result c.change_record.result
    c.change_record-changed.ensures c.change_record-changed-2.ensures c.change_record-changed-3.ensures c.change_record.ensures
    (omega arith) (omega arith) (omega arith) (omega arith) (omega arith)

pub returns-clause-each : goal.returns-clause-each
returns-clause-each g c =
    each_changed c.args.old.now c.args.new.now c.args.sector.now c.change_record-changed.result c.change_record-changed-2.result
    c.change_record-changed-3.result c.change_record.result
    c.change_record-changed.ensures c.change_record-changed-2.ensures c.change_record-changed-3.ensures c.change_record.ensures
    (omega arith) (omega arith) (omega arith) (omega arith) (omega arith)

pub returns-clause-read : goal.returns-clause-read
returns-clause-read g c plain =
    read_anew c.args.old.now c.args.new.now c.args.sector.now c.change_record-changed.result c.change_record-changed-2.result
    c.change_record-changed-3.result c.change_record.result
    c.change_record-changed.ensures c.change_record-changed-2.ensures c.change_record-changed-3.ensures c.change_record.ensures
    (omega arith) (omega arith) (omega arith) (omega arith) (omega arith) plain (omega arith)

pub returns-clause-plain : goal.returns-clause-plain
returns-clause-plain g c =
    none_borne c.args.old.now c.args.new.now c.args.sector.now c.change_record-changed.result c.change_record-changed-2.result
    c.change_record-changed-3.result c.change_record.result
    c.change_record-changed.ensures c.change_record-changed-2.ensures c.change_record-changed-3.ensures c.change_record.ensures
    (omega arith) (omega arith) (omega arith) (omega arith) (omega arith)
