use Rattle.std.proofs.Common.{ℕ, List, Option, sym, subst}
use Rattle.pt_members.specs.Members.{places_of, IsPlace}
use Rattle.pt_members.specs.Tables.{Lists, IsTable, IsBodyTable, NextSectorIs}
use Rattle.pt_members.proofs.Listed.{next_listed}
use Rattle.pt_members.proofs.Lowest.{next_or}
use Rattle.pt_members.proofs.tables.next_table.Goals as goal

pub returns : goal.returns
returns g c =
    let o = c.args.layout.now in
    let places = IsPlace (places_of g.row.B o.sectors o.body) in
    let lists : Lists places c.deref-2.result.now =
    subst (λ (l : List ℕ). Lists places l) (sym c.deref-2.ensures.value) c.requires.all.places in
    let label = next_listed places c.deref-2.result.now c.args.from c.next_among-label.result lists c.next_among-label.ensures in
    subst (λ (r : Option ℕ). NextSectorIs (IsTable g.row.B o) c.args.from r) (sym c.least.ensures)
    (next_or (IsBodyTable g.row.B o.sectors o.body) places c.args.from c.next_of_kind-body.result c.next_among-label.result
    c.next_of_kind-body.ensures label)
