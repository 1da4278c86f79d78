use Rattle.std.proofs.Common.{refl}
use Rattle.pt_cases.specs.Writes.{IsEncoded}
use Rattle.pt_planner.proofs.Encodings.{sector_one}
use Rattle.pt_planner.proofs.places.targets.written.Goals as goal

pub returns-in-Some : goal.returns-in-Some
returns-in-Some g c =
    let p = c.args.place.now in
    let l = c.args.label.now in
    let over = c.args.under.now in
    let v = c.in-Some.bytes in
    let encoded : IsEncoded l p.spot.slice over v = record { reads = c.in-Some.ensures.some; rest = c.in-Some.ensures.rest } in
    record {
      of_place = record { at = refl; under = refl };
      kind_is = refl;
      encoded = encoded;
      one = λ is. sector_one g.row.B v p.bytes l p.spot.slice over c.requires c.is_array.ensures.small c.is_array-in-Some.ensures.small
          c.is_array.ensures.count c.is_array-in-Some.ensures.count encoded is;
    }
