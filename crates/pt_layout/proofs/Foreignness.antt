-- Label places that bear the magic of a label and hold none.
use Rattle.std.proofs.Common.{◌≡◌, ◌≤◌, ◌∙◌, ℕ, get_or, Some, None, refl, sym, subst, arith, inl, inr}
use Rattle.std.proofs.lemmas.Bool.{cases_lt}
use Rattle.std.proofs.lemmas.List.{get_or_default}
use Rattle.std.proofs.lemmas.List.Elements.{Contains-get_or}
use Rattle.pt_sector.specs.Sectors.{Sectors}
use Rattle.pt_members.specs.Members.{places_of, number_path}
use Rattle.pt_members.specs.declared.layout.Slice.{Slice}
use Rattle.pt_members.specs.declared.layout.Layout.{Layout}
use Rattle.pt_layout.specs.Healthy.{IsForeign, HasForeign}
use Rattle.pt_members.specs.Tables.{NextSectorIs}
use Rattle.pt_layout.specs.inner.Surveys.{ForeignAmong, ForeignIs, no_slice}

among_has : (b : ℕ) (d : Sectors) (o : Layout) (n : ℕ) → ForeignAmong d (places_of b o.sectors o.body) n → HasForeign b d o n
among_has b d o n is = record {
  slice = get_or (places_of b o.sectors o.body) is.0 no_slice;
  stands = Contains-get_or (places_of b o.sectors o.body) is.0 no_slice is.1;
  number = sym is.2.0;
  foreign = is.2.1;
}

has_among : (b : ℕ) (d : Sectors) (o : Layout) (n : ℕ) → HasForeign b d o n → ForeignAmong d (places_of b o.sectors o.body) n
has_among b d o n is =
    let same : get_or (places_of b o.sectors o.body) is.stands.0 no_slice ≡ is.slice =
    get_or_default (places_of b o.sectors o.body) is.stands.0 no_slice is.slice is.stands.1 ∙ is.stands.2 in (
      is.stands.0,
      is.stands.1,
      (
        subst (λ (p : Slice). n ≡ p.number) (sym same) (sym is.number),
        subst (λ (p : Slice). IsForeign d p) (sym same) is.foreign,
      ),
    )

pub foreign_none : (b : ℕ) (d : Sectors) (o : Layout) → NextSectorIs (ForeignAmong d (places_of b o.sectors o.body)) 0 None
    → ForeignIs b d o None
foreign_none b d o none n is = none n (omega arith) (has_among b d o n is)

pub foreign_some : (b : ℕ) (d : Sectors) (o : Layout) (n : ℕ) → NextSectorIs (ForeignAmong d (places_of b o.sectors o.body)) 0 (Some n)
    → ForeignIs b d o (Some (number_path n))
foreign_some b d o n is = record {
  whole_slice = refl;
  here = among_has b d o n is.0;
  first = λ m has. elim (cases_lt m n) as (λ _. n ≤ m) [ inl lt ↦ absurd (is.2 m (omega arith) lt (has_among b d o m has)) | inr ge ↦ ge ];
}
