use Rattle.std.proofs.Common.{◌≡◌, ◌∙◌, ℕ, List, length, map, All, refl, sym, ap, subst, rules}
use Rattle.std.proofs.lemmas.Result.{err_from_is_err_and}
use Rattle.pt_sector.proofs.ReadsLemmas.{failed_more}
use Rattle.pt_sector.specs.Sectors.{Sectors}
use Rattle.pt_members.specs.Members.{places_of, IsPlace}
use Rattle.pt_members.specs.declared.layout.Slice.{Slice}
use Rattle.pt_cases.specs.Writes.{NumbersAscend}
use Rattle.pt_cases.proofs.Ascending.{places_ascend_lem}
use Rattle.pt_planner.specs.inner.Places.{spot_of, IsAt, IsRead, OldAre, AreSpots, slice_of}
use Rattle.pt_planner.specs.declared.places.place.Place.{Place}
use Rattle.pt_planner.specs.declared.places.place.Spot.{Spot}
use Rattle.pt_planner.proofs.Lifts.{within}
use Rattle.pt_planner.proofs.PlacesWhole.{at_some, misfit, spots_within, spot_slices, whole}
use Rattle.pt_planner.proofs.places.label_targets.Goals as goal

pub spots-requires : goal.spots-requires
spots-requires g c =
    let y = c.args.wanted.now.body in
    let slices = c.deref.ensures.value ∙ c.in_ok-slices.ensures.value in
    subst (λ (l : List Slice). NumbersAscend 1 l) (sym slices)
    (places_ascend_lem g.row.B c.sectors-sectors.result y c.in_ok-slices.ensures.four)

pub read_places-requires : goal.read_places-requires
read_places-requires g c =
    let n = g.D.Disk.count c.args.disk.now in
    let spots = c.deref-2.ensures.value in
    let are : AreSpots c.deref.result.now c.as_slice.result.now c.in-Some.spots.items =
    at_some c.in_ok-found.found c.in-Some.spots _ _ c.in-Some.is c.in_ok-found.ensures in (
      search rules,
      (
        c.requires.size,
        spots_within g.row.B c.sectors-sectors.result n c.args.wanted.now.body c.deref.result.now c.as_slice.result.now
            c.deref-2.result.now
            (subst (λ (x : List Spot). AreSpots c.deref.result.now c.as_slice.result.now x) (sym spots) are)
            (c.deref.ensures.value ∙ c.in_ok-slices.ensures.value) c.sectors-sectors.ensures,
      ),
    )

pub returns-in_err-slices : goal.returns-in_err-slices
returns-in_err-slices g c =
    let p = err_from_is_err_and c.from_residual.result c.from_residual.ensures.1 in
    record {
      same = g.met.D.Disk.reads_same c.args.disk.now;
      blames = rw (p.1, p.2) refl;
      failed = rw (p.1, p.2) tt;
      answer = λ tells. rw p.1 tt;
      in_range = rw p.1 tt;
    }

pub returns-in_err-found : goal.returns-in_err-found
returns-in_err-found g c =
    let p = err_from_is_err_and c.from_residual-in_err-found.result c.from_residual-in_err-found.ensures.1 in
    record {
      same = g.met.D.Disk.reads_same c.args.disk.now;
      blames = rw (p.1, p.2) refl;
      failed = rw (p.1, p.2) tt;
      answer = λ tells. rw p.1 tt;
      in_range = rw p.1 tt;
    }

pub returns-in_default : goal.returns-in_default
returns-in_default g c = record {
  same = g.met.D.Disk.reads_same c.args.disk.now;
  blames = refl;
  failed = tt;
  answer = λ tells. misfit g.row.B c.sectors-sectors.result c.args.wanted.now c.deref.result.now c.as_slice.result.now
      c.in_ok-found.found _ c.in_default.is c.in_ok-found.ensures (c.deref.ensures.value ∙ c.in_ok-slices.ensures.value)
      (c.sectors-sectors.ensures ∙ sym c.requires.sectors) c.as_slice.ensures;
  in_range = tt;
}

pub returns-in_err-places : goal.returns-in_err-places
returns-in_err-places g c =
    let p = err_from_is_err_and c.from_residual-in_err-places.result c.from_residual-in_err-places.ensures.1 in
    record {
      same = c.in_err-places.ensures.same;
      blames = rw (p.1, p.2) c.in_err-places.ensures.blames;
      failed = rw (p.1, p.2) (failed_more (IsPlace (map slice_of c.deref-2.result.now))
          (IsPlace (places_of g.row.B (g.D.Disk.count c.args.disk.now) c.args.wanted.now.body)) c.in_err-places.field-0.0
          (λ s at. subst (λ (l : List Slice). IsPlace l s)
          (spot_slices g.row.B c.sectors-sectors.result (g.D.Disk.count c.args.disk.now) c.args.wanted.now.body c.deref.result.now
          c.as_slice.result.now c.in_ok-found.found c.in-Some.spots c.deref-2.result.now c.in-Some.is c.in_ok-found.ensures
          c.deref-2.ensures.value (c.deref.ensures.value ∙ c.in_ok-slices.ensures.value) c.sectors-sectors.ensures) at)
          c.in_err-places.ensures.failed);
      answer = λ tells. rw p.1 tt;
      in_range = rw p.1 tt;
    }

pub returns-in_err-old_slices : goal.returns-in_err-old_slices
returns-in_err-old_slices g c =
    let p = err_from_is_err_and c.from_residual-in_err-old_slices.result c.from_residual-in_err-old_slices.ensures.1 in
    record {
      same = c.in_ok-places.ensures.same;
      blames = rw (p.1, p.2) c.in_ok-places.ensures.blames;
      failed = rw (p.1, p.2) tt;
      answer = λ tells. rw p.1 tt;
      in_range = rw p.1 tt;
    }

pub returns-in_err-answer : goal.returns-in_err-answer
returns-in_err-answer g c =
    let p = err_from_is_err_and c.from_residual-in_err-answer.result c.from_residual-in_err-answer.ensures.1 in
    record {
      same = c.in_ok-places.ensures.same;
      blames = rw (p.1, p.2) c.in_ok-places.ensures.blames;
      failed = rw (p.1, p.2) tt;
      answer = λ tells. rw p.1 tt;
      in_range = rw p.1 tt;
    }

pub returns : goal.returns
returns g c =
    let n = g.D.Disk.count c.args.disk.now in
    let places = c.deref-3.ensures.value in
    let here = c.in_ok-places.ensures in
    let ats : All (IsAt n) c.deref-3.result.now = subst (λ (x : List (Place g.row.B)). All (IsAt n) x) (sym places) here.at in
    record {
      same = here.same;
      blames = here.blames;
      failed = tt;
      answer = λ tells.
          let d : Sectors = (g.D.Disk.told c.args.disk.now).seen in
          let sectors : c.sectors-sectors.result ≡ length d =
          c.sectors-sectors.ensures ∙ sym (g.met.D.Disk.sized c.args.disk.now tells) in
          let olds : OldAre g.row.B c.sectors-sectors.result c.args.old.now c.in_ok-old_slices.old_slices.items =
          c.in_ok-old_slices.ensures in
          whole d c.args.old.now c.args.wanted.now c.sectors-sectors.result n c.deref.result.now c.as_slice.result.now
          c.in-Some.spots.items c.deref-3.result.now c.in_ok-old_slices.old_slices.items c.in_ok-answer.answer
          c.in_ok-slices.ensures.four (c.sectors-sectors.ensures ∙ sym c.requires.sectors)
          (c.deref.ensures.value ∙ c.in_ok-slices.ensures.value) c.as_slice.ensures
          (at_some c.in_ok-found.found c.in-Some.spots _ _ c.in-Some.is c.in_ok-found.ensures)
          (ap (λ (x : List (Place g.row.B)). map spot_of x) places ∙ here.spots ∙ c.deref-2.ensures.value) ats
          (subst (λ (x : List (Place g.row.B)). All (IsRead d) x) (sym places) (here.bytes tells))
          (subst (λ (k : ℕ). OldAre g.row.B k c.args.old.now c.in_ok-old_slices.old_slices.items) sectors olds)
          c.in_ok-answer.ensures;
      in_range = within n c.in_ok-old_slices.old_slices.items c.deref-3.result.now c.in_ok-answer.answer ats c.in_ok-answer.ensures;
    }
