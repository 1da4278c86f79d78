use Rattle.std.proofs.Common.{[], None, arith}
use Rattle.pt_mbr.specs.declared.ebr.Ebr.{Ebr}
use Rattle.pt_edit.specs.Chains.{empty_sector}
use Rattle.pt_edit.proofs.Gathered.{one_more, all_of}
use Rattle.pt_edit.proofs.records.chain_create.empties_in.Goals as goal

pub loop-ebr-preserved : goal.loop-ebr-preserved
loop-ebr-preserved c =
    let z : Ebr = record { at = record { 0 = 0 }; logical = None; next = None } in
    one_more empty_sector c.args.chain.now c.loop-ebr.ebr-index z [] c.loop-ebr.empties.items c.push_empty.new.empties.items
    c.loop-ebr-test.true c.loop-ebr.invariant c.in_ok-push_empty.ensures

pub returns : goal.returns
returns c =
    all_of empty_sector c.args.chain.now c.loop-ebr.ebr-index [] c.loop-ebr.empties.items (omega arith) c.loop-ebr.invariant
