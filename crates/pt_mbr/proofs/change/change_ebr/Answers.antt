use Rattle.std.proofs.Common.{arith}
use Rattle.pt_mbr.proofs.Linking.{logical_changed, link_changed, ebr_anew}
use Rattle.pt_mbr.proofs.change.change_ebr.Goals as goal

pub returns-clause-logical : goal.returns-clause-logical
returns-clause-logical g c =
    logical_changed c.args.old.now c.args.new.now c.args.link.now c.args.sector.now c.change_record-changed.result c.change_link.result
    c.change_record-changed.ensures c.change_link.ensures (omega arith) (omega arith) (omega arith)

pub returns-clause-link : goal.returns-clause-link
returns-clause-link g c =
    link_changed c.args.old.now c.args.new.now c.args.link.now c.args.sector.now c.change_record-changed.result c.change_link.result
    c.change_record-changed.ensures c.change_link.ensures (omega arith) (omega arith) (omega arith)

pub returns-clause-read : goal.returns-clause-read
returns-clause-read g c =
    ebr_anew c.args.old.now c.args.new.now c.args.link.now c.args.sector.now c.change_record-changed.result c.change_link.result
    c.change_record-changed.ensures c.change_link.ensures (omega arith) (omega arith) (omega arith)
