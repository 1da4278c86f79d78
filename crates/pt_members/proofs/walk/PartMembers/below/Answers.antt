use Rattle.std.proofs.Common.{◌∙◌, Option, ap}
use Rattle.pt_bsd.specs.declared.label.Label.{Label}
use Rattle.pt_members.specs.inner.Members.{parts_from}
use Rattle.pt_members.proofs.RowMembers.{parts_below}
use Rattle.pt_members.proofs.walk.PartMembers.below.Goals as goal

pub returns : goal.returns
returns c =
    let m = c.args.member.now in
    ap (λ (l : Option Label). parts_from l m 0) c.label_below.ensures ∙ parts_below m.kind c.args.layout.now m
