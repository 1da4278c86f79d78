use Rattle.std.proofs.Common.{◌≡◌, ◌∙◌, ℕ, List, Option, Some, None, sym, ap, subst}
use Rattle.pt_sector.specs.Sectors.{Sectors}
use Rattle.pt_members.specs.Members.{places_of}
use Rattle.pt_members.specs.declared.layout.Slice.{Slice}
use Rattle.pt_recover.proofs.Whole.{places_within}
use Rattle.pt_members.specs.Tables.{NextSectorIs}
use Rattle.pt_layout.specs.inner.Surveys.{ForeignAmong}
use Rattle.pt_layout.proofs.Foreignness.{foreign_none, foreign_some}
use Rattle.pt_layout.proofs.foreign.first_foreign.Goals as goal

pub lowest_foreign-requires-clause-within : goal.lowest_foreign-requires-clause-within
lowest_foreign-requires-clause-within g c =
    places_within g.row.B c.sectors-sectors.result (g.D.Disk.count c.args.disk.now) c.args.layout.now.body c.deref.result.now
    (c.deref.ensures.value ∙ c.in_ok-places.ensures.value) c.sectors-sectors.ensures

pub returns-in-Some-clause-ok : goal.returns-in-Some-clause-ok
returns-in-Some-clause-ok g c = λ tells.
    let o = c.args.layout.now in
    let d : Sectors = (g.D.Disk.told c.args.disk.now).seen in
    let among : NextSectorIs (ForeignAmong d c.deref.result.now) 0 (Some c.in-Some.number) =
    subst (λ (r : Option ℕ). NextSectorIs (ForeignAmong d c.deref.result.now) 0 r) c.in-Some.is (c.in_ok-lowest.ensures.ok tells) in
    let same : c.sectors-sectors.result ≡ o.sectors = c.sectors-sectors.ensures ∙ sym (c.requires.sectors tells) in
    let places = c.deref.ensures.value ∙ c.in_ok-places.ensures.value ∙ ap (λ (n : ℕ). places_of g.row.B n o.body) same in
    foreign_some g.row.B d o c.in-Some.number (subst (λ (l : List Slice). NextSectorIs (ForeignAmong d l) 0
    (Some c.in-Some.number)) places among)

pub returns-clause-ok : goal.returns-clause-ok
returns-clause-ok g c = λ tells.
    let o = c.args.layout.now in
    let d : Sectors = (g.D.Disk.told c.args.disk.now).seen in
    let among : NextSectorIs (ForeignAmong d c.deref.result.now) 0 None =
    subst (λ (r : Option ℕ). NextSectorIs (ForeignAmong d c.deref.result.now) 0 r) c.in-None.is (c.in_ok-lowest.ensures.ok tells) in
    let same : c.sectors-sectors.result ≡ o.sectors = c.sectors-sectors.ensures ∙ sym (c.requires.sectors tells) in
    let places = c.deref.ensures.value ∙ c.in_ok-places.ensures.value ∙ ap (λ (n : ℕ). places_of g.row.B n o.body) same in
    foreign_none g.row.B d o (subst (λ (l : List Slice). NextSectorIs (ForeignAmong d l) 0 None) places among)
