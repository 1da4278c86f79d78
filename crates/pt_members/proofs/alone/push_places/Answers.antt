use Rattle.std.proofs.Common.{◌≤◌, List, length, subst, arith}
use Rattle.std.proofs.lemmas.List.{take_all}
use Rattle.pt_members.specs.declared.layout.Slice.{Slice}
use Rattle.pt_members.specs.inner.Tables.{Gains}
use Rattle.pt_members.specs.Members.{IsPlace}
use Rattle.pt_members.proofs.LabelPlaces.{no_place}
use Rattle.pt_members.proofs.Listed.{places_more}
use Rattle.pt_members.proofs.alone.push_places.Goals as goal

pub loop-k-preserved : goal.loop-k-preserved
loop-k-preserved c =
    places_more c.args.sectors.now.items c.loop-k.sectors.items c.push.new.self.items c.args.slices.now c.loop-k.k no_place (omega arith)
    c.loop-k.invariant c.in_ok-push.ensures.items

pub returns : goal.returns
returns c =
    let past : length c.args.slices.now ≤ c.loop-k.k = omega arith in
    subst (λ (l : List Slice). Gains (IsPlace l) c.args.sectors.now.items c.loop-k.sectors.items)
    (take_all c.loop-k.k c.args.slices.now past) c.loop-k.invariant
