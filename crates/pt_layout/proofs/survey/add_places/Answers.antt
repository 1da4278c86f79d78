use Rattle.std.proofs.lemmas.Result.{err_from_is_err_and}
use Rattle.std.proofs.Common.{◌<◌, ◌^◌, get_or, refl, arith}
use Rattle.pt_members.specs.declared.layout.Slice.{Slice}
use Rattle.pt_members.specs.Members.{place_of, IsPlace}
use Rattle.pt_recover.proofs.Traces.{left_first, place_more, place_end}
use Rattle.pt_layout.proofs.survey.add_places.Goals as goal

pub loop-k-init : goal.loop-k-init
loop-k-init c = left_first c.args.places.now (IsPlace c.args.slices.now)

pub overflow_add-slices : goal.overflow_add-slices
overflow_add-slices c =
    let z : Slice = record { number = 0; first = 0; len = 0 } in
    let fits : place_of (get_or c.args.slices.now c.loop-k.k z) < 2 ^ 64 = c.requires c.loop-k.k z (omega arith) in
    omega (arith, fits)

pub loop-k-preserved : goal.loop-k-preserved
loop-k-preserved c =
    let z : Slice = record { number = 0; first = 0; len = 0 } in
    let p : Slice = get_or c.args.slices.now c.loop-k.k z in
    place_more c.args.places.now c.loop-k.places c.add_one.new.self c.args.slices.now c.loop-k.k z p (omega arith) refl
    c.loop-k.invariant c.in_ok-add_one.ensures

pub returns-in_err-add_one : goal.returns-in_err-add_one
returns-in_err-add_one c = let p = err_from_is_err_and c.from_residual.result c.from_residual.ensures.1 in rw p.1 tt

pub returns : goal.returns
returns c = place_end c.args.places.now c.loop-k.places c.args.slices.now c.loop-k.k (omega arith) c.loop-k.invariant
