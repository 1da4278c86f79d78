use Rattle.std.proofs.Common.{List, subst, sym}
use Rattle.std.specs.Prelude.{OnOk}
use Rattle.pt_mbr.specs.Chain.{StandsAt}
use Rattle.pt_mbr.specs.declared.ebr.Ebr.{Ebr}
use Rattle.pt_members.specs.declared.layout.Body.{Body}
use Rattle.pt_members.specs.inner.Tables.{Gains}
use Rattle.pt_members.specs.Tables.{IsEbr}
use Rattle.pt_members.proofs.alone.push_chain.Goals as goal

pub returns-in-Mbr : goal.returns-in-Mbr
returns-in-Mbr c =
    let old = c.args.sectors.now.items in
    let new = c.push_ebrs.new.sectors.items in
    subst (λ (y : Body). OnOk c.push_ebrs.result (Gains (IsEbr y) old new)) (sym c.in-Mbr.is)
    (subst (λ (l : List Ebr). OnOk c.push_ebrs.result (Gains (λ s. StandsAt s l) old new)) c.as_slice.ensures c.push_ebrs.ensures)
