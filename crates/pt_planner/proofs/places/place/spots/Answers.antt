use Rattle.std.proofs.Common.{◌≡◌, ◌+◌, ◌++◌, List, get_or, map, drop, refl, sym, subst, arith}
use Rattle.pt_members.specs.declared.layout.Slice.{Slice}
use Rattle.pt_planner.specs.inner.Places.{slice_of, labels_of}
use Rattle.pt_planner.specs.declared.places.place.Spot.{Spot}
use Rattle.pt_planner.proofs.Sides.{fits_on, labels_end, labels_on, left_over, slices_end, slices_on}
use Rattle.pt_planner.proofs.places.place.spots.Goals as goal

pub loop-k-preserved : goal.loop-k-preserved
loop-k-preserved c =
    let z : Slice = record { number = 0; first = 0; len = 0 } in
    let s : Spot = record { slice = get_or c.args.slices.now c.loop-k.k z; label = c.take_label-label.result } in
    let now = c.take_label-label.new.taken in
    record {
      within = c.take_label-label.ensures.within;
      slices =
          subst (λ (x : List Spot). map slice_of x ++ drop (c.loop-k.k + 1) c.args.slices.now ≡ c.args.slices.now)
          (sym c.in_ok-push.ensures.items)
          (slices_on c.loop-k.spots.items s c.args.slices.now c.loop-k.k z (omega arith) refl c.loop-k.invariant.slices);
      labels = subst (λ (x : List Spot). labels_of x ++ drop now c.args.labels.now ≡ c.args.labels.now) (sym c.in_ok-push.ensures.items)
          (labels_on c.loop-k.spots.items s c.args.labels.now c.loop-k.taken now c.take_label-label.ensures.takes
          c.loop-k.invariant.labels);
      fit = λ fit. fits_on c.args.slices.now c.args.labels.now c.loop-k.k c.loop-k.taken now z c.take_label-label.result
          (omega arith) c.requires c.take_label-label.ensures.takes (c.loop-k.invariant.fit fit);
    }

pub returns-then-taken-labels : goal.returns-then-taken-labels
returns-then-taken-labels c = λ fit.
    left_over c.args.slices.now c.args.labels.now c.loop-k.k c.loop-k.taken (omega arith) (omega arith) (c.loop-k.invariant.fit fit)

pub returns : goal.returns
returns c = record {
  slices = slices_end c.loop-k.spots.items c.args.slices.now c.loop-k.k (omega arith) c.loop-k.invariant.slices;
  labels = labels_end c.loop-k.spots.items c.args.labels.now c.loop-k.taken (omega arith) c.loop-k.invariant.labels;
}
