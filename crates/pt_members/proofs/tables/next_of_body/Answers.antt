use Rattle.std.proofs.Common.{◌≡◌, ℕ, List, Option, sym, subst}
use Rattle.pt_mbr.specs.Chain.{StandsAt}
use Rattle.pt_mbr.specs.declared.ebr.Ebr.{Ebr}
use Rattle.pt_members.specs.declared.layout.Body.{Body}
use Rattle.pt_members.specs.declared.layout.Body.TheVariants.{Mbr}
use Rattle.pt_members.specs.Tables.{IsBodyTable, NextSectorIs}
use Rattle.pt_members.proofs.Lowest.{next_or}
use Rattle.pt_members.proofs.tables.next_of_body.Goals as goal

pub returns-in-Mbr : goal.returns-in-Mbr
returns-in-Mbr g c =
    let from = c.args.from in
    let ebrs = subst (λ (l : List Ebr). NextSectorIs (λ (s : ℕ). StandsAt s l) from c.next_ebr.result) c.as_slice.ensures
    c.next_ebr.ensures in
    let both =
    next_or (λ (s : ℕ). s ≡ 0)
    (λ (s : ℕ). StandsAt s c.in-Mbr.chain) from c.not_below.result c.next_ebr.result c.not_below.ensures ebrs in
    subst (λ (y : Body). NextSectorIs (IsBodyTable g.row.B c.args.sectors y) from c.least.result) (sym c.in-Mbr.is)
    (subst (λ (r : Option ℕ). NextSectorIs (IsBodyTable g.row.B c.args.sectors (Mbr c.in-Mbr.records c.in-Mbr.chain)) from r)
    (sym c.least.ensures) both)

pub returns-in-Gpt : goal.returns-in-Gpt
returns-in-Gpt g c =
    subst (λ (y : Body). NextSectorIs (IsBodyTable g.row.B c.args.sectors y) c.args.from c.next_of_gpt.result)
    (sym c.in-Gpt.is) c.next_of_gpt.ensures
