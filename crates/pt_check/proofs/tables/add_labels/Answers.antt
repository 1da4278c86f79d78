use Rattle.std.proofs.Common.{◌≤◌, List, length, subst, arith}
use Rattle.std.proofs.lemmas.List.{take_all}
use Rattle.pt_members.specs.declared.layout.Slice.{Slice}
use Rattle.pt_members.specs.Members.{IsPlace}
use Rattle.pt_members.proofs.LabelPlaces.{no_place}
use Rattle.pt_recover.specs.Spans.{Adds}
use Rattle.pt_check.proofs.Adding.{adds_none, adds_label}
use Rattle.pt_check.proofs.tables.add_labels.Goals as goal

pub loop-k-init : goal.loop-k-init
loop-k-init c = adds_none _ _ (λ s is. is)

pub loop-k-preserved : goal.loop-k-preserved
loop-k-preserved c =
    adds_label c.args.tables.now c.loop-k.tables c.add_one.new.self c.args.slices.now c.loop-k.k no_place (omega arith)
    c.loop-k.invariant c.in_ok-add_one.ensures

pub returns : goal.returns
returns c =
    let past : length c.args.slices.now ≤ c.loop-k.k = omega arith in
    subst (λ (l : List Slice). Adds c.args.tables.now c.loop-k.tables (IsPlace l))
    (take_all c.loop-k.k c.args.slices.now past) c.loop-k.invariant
