use Rattle.std.proofs.Common.{None, arith}
use Rattle.pt_mbr.specs.declared.ebr.Ebr.{Ebr}
use Rattle.pt_members.specs.Members.{logicals_as}
use Rattle.pt_edit.specs.Space.{taken_by}
use Rattle.pt_edit.specs.Chains.{own_sector}
use Rattle.pt_edit.proofs.Gathered.{one_more, all_of}
use Rattle.pt_edit.proofs.records.chain_create.taken_in.Goals as goal

pub loop-ebr-preserved : goal.loop-ebr-preserved
loop-ebr-preserved c =
    let z : Ebr = record { at = record { 0 = 0 }; logical = None; next = None } in
    one_more own_sector c.args.chain.now c.loop-ebr.ebr-index z (taken_by (logicals_as 512 5 c.args.chain.now)) c.loop-ebr.taken.items
    c.push_own.new.taken.items c.loop-ebr-test.true c.loop-ebr.invariant c.in_ok-push_own.ensures

pub returns : goal.returns
returns c =
    all_of own_sector c.args.chain.now c.loop-ebr.ebr-index (taken_by (logicals_as 512 5 c.args.chain.now)) c.loop-ebr.taken.items
    (omega arith) c.loop-ebr.invariant
