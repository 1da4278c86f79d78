use Rattle.std.proofs.Common.{◌≤◌, List, length, subst, arith}
use Rattle.std.proofs.lemmas.List.{take_all}
use Rattle.pt_mbr.specs.Chain.{StandsAt}
use Rattle.pt_mbr.specs.declared.ebr.Ebr.{Ebr}
use Rattle.pt_members.specs.Members.{no_ebr}
use Rattle.pt_recover.specs.Spans.{Adds}
use Rattle.pt_check.proofs.Adding.{adds_none, adds_ebr}
use Rattle.pt_check.proofs.tables.add_chain.Goals as goal

pub loop-k-init : goal.loop-k-init
loop-k-init c = adds_none _ _ (λ s is. is)

pub loop-k-preserved : goal.loop-k-preserved
loop-k-preserved c =
    adds_ebr c.args.tables.now c.loop-k.tables c.add_one.new.self c.args.chain.now c.loop-k.k no_ebr (omega arith)
    c.loop-k.invariant c.in_ok-add_one.ensures

pub returns : goal.returns
returns c =
    let past : length c.args.chain.now ≤ c.loop-k.k = omega arith in
    subst (λ (l : List Ebr). Adds c.args.tables.now c.loop-k.tables (λ s. StandsAt s l))
    (take_all c.loop-k.k c.args.chain.now past) c.loop-k.invariant
