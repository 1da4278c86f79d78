use Rattle.std.proofs.Common.{◌≡◌, ◌∙◌, ℕ, List, length, map, refl, ap, subst, arith}
use Rattle.std.proofs.lemmas.List.{take_all}
use Rattle.std.proofs.lemmas.Result.{err_from_is_err_and}
use Rattle.pt_sector.specs.Device.{with_fault, Told}
use Rattle.pt_sector.specs.Overlays.{read_of}
use Rattle.pt_sector.specs.declared.disk.Fault.{Fault}
use Rattle.pt_planner.specs.inner.Places.{spot_of, IsAt, IsRead}
use Rattle.pt_planner.specs.declared.places.place.Place.{Place}
use Rattle.pt_planner.proofs.Pieces.{all_on, spots_on, spot_failed}
use Rattle.pt_planner.proofs.places.place.read_places.Goals as goal

pub loop-k-preserved : goal.loop-k-preserved
loop-k-preserved g c = record {
  same = g.met.D.Disk.reads_on c.args.disk.now c.loop-k.disk c.read_place.new.disk c.loop-k.invariant.same c.in_ok-place.ensures.same;
  quiet = c.in_ok-place.ensures.blames ∙ c.loop-k.invariant.quiet;
  spots = spots_on c.loop-k.places.items c.push_place.new.places.items c.in_ok-place.place c.args.spots.now c.loop-k.k _
      (omega arith) c.in_ok-place.ensures.spot c.in_ok-push_place.ensures c.loop-k.invariant.spots;
  at =
      all_on
      (IsAt (g.D.Disk.count c.args.disk.now)) c.loop-k.places.items c.push_place.new.places.items c.in_ok-place.place
      c.in_ok-push_place.ensures c.loop-k.invariant.at
      (subst (λ (n : ℕ). IsAt n c.in_ok-place.place) c.loop-k.invariant.same.same_count c.in_ok-place.ensures.at);
  bytes =
      λ tells. all_on (IsRead (g.D.Disk.told c.args.disk.now).seen) c.loop-k.places.items c.push_place.new.places.items
      c.in_ok-place.place c.in_ok-push_place.ensures (c.loop-k.invariant.bytes tells)
      (subst (λ (t : Told). IsRead t.seen c.in_ok-place.place) (c.loop-k.invariant.same.same tells) (c.in_ok-place.ensures.bytes tells));
}

pub loop-k-init : goal.loop-k-init
loop-k-init g c =
    let none = ap length c.new-places.ensures.items in
    record {
      same = g.met.D.Disk.reads_same c.args.disk.now;
      quiet = refl;
      spots = ap (λ (ps : List (Place g.row.B)). map spot_of ps) c.new-places.ensures.items;
      at = λ k z lt. absurd (omega (arith, none, lt));
      bytes = λ tells k z lt. absurd (omega (arith, none, lt));
    }

pub returns-in_err-place : goal.returns-in_err-place
returns-in_err-place g c =
    let p = err_from_is_err_and c.from_residual.result c.from_residual.ensures.1 in
    record {
      same = g.met.D.Disk.reads_on c.args.disk.now c.loop-k.disk c.read_place.new.disk c.loop-k.invariant.same
          c.in_err-place.ensures.same;
      blames = rw (p.1, p.2)
          (subst (λ (l : List Fault). g.D.Disk.faults c.read_place.new.disk ≡ with_fault l (read_of c.in_err-place.field-0.0))
          c.loop-k.invariant.quiet c.in_err-place.ensures.blames);
      failed = rw (p.1, p.2) (spot_failed c.args.spots.now c.loop-k.k _ c.in_err-place.field-0.0.0.0 c.loop-k-test.true
          c.in_err-place.ensures.failed);
      spots = rw p.1 tt;
      at = rw p.1 tt;
      bytes = λ tells. rw p.1 tt;
    }

pub returns-in_err-push_place : goal.returns-in_err-push_place
returns-in_err-push_place g c =
    let p = err_from_is_err_and c.from_residual-in_err-push_place.result c.from_residual-in_err-push_place.ensures.1 in
    record {
      same = g.met.D.Disk.reads_on c.args.disk.now c.loop-k.disk c.read_place.new.disk c.loop-k.invariant.same c.in_ok-place.ensures.same;
      blames = rw (p.1, p.2) (c.in_ok-place.ensures.blames ∙ c.loop-k.invariant.quiet);
      failed = rw (p.1, p.2) tt;
      spots = rw p.1 tt;
      at = rw p.1 tt;
      bytes = λ tells. rw p.1 tt;
    }

pub returns : goal.returns
returns g c = record {
  same = c.loop-k.invariant.same;
  blames = c.loop-k.invariant.quiet;
  failed = tt;
  spots = c.loop-k.invariant.spots ∙ take_all c.loop-k.k c.args.spots.now (omega arith);
  at = c.loop-k.invariant.at;
  bytes = c.loop-k.invariant.bytes;
}
