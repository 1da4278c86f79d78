use Rattle.std.proofs.Common.{◌≤◌, List, length, subst, arith}
use Rattle.std.proofs.lemmas.List.{take_all}
use Rattle.pt_mbr.specs.Chain.{StandsAt}
use Rattle.pt_mbr.specs.declared.ebr.Ebr.{Ebr}
use Rattle.pt_members.specs.Members.{no_ebr}
use Rattle.pt_members.specs.inner.Tables.{Gains}
use Rattle.pt_members.proofs.Listed.{ebrs_more}
use Rattle.pt_members.proofs.alone.push_ebrs.Goals as goal

pub loop-k-preserved : goal.loop-k-preserved
loop-k-preserved c =
    ebrs_more c.args.sectors.now.items c.loop-k.sectors.items c.push.new.self.items c.args.chain.now c.loop-k.k no_ebr (omega arith)
    c.loop-k.invariant c.in_ok-push.ensures.items

pub returns : goal.returns
returns c =
    let past : length c.args.chain.now ≤ c.loop-k.k = omega arith in
    subst (λ (l : List Ebr). Gains (λ s. StandsAt s l) c.args.sectors.now.items c.loop-k.sectors.items)
    (take_all c.loop-k.k c.args.chain.now past) c.loop-k.invariant
