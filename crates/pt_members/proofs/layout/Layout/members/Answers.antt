use Rattle.std.proofs.Common.{◌∷◌, ◌++◌, ◌∙◌, List, ap}
use Rattle.std.specs.Prelude.{flat_map}
use Rattle.pt_members.specs.declared.member.Member.{Member}
use Rattle.pt_members.specs.Rows.{members_below}
use Rattle.pt_members.proofs.RowMembers.{members_placed}
use Rattle.pt_members.proofs.layout.Layout.members.Goals as goal

pub returns : goal.returns
returns g c =
    let o = c.args.self.now in
    ap (λ (l : List Member). l ++ flat_map (λ (m : Member). m ∷ members_below m.kind o m) c.members.result) c.none.ensures
    ∙ ap (flat_map (λ (m : Member). m ∷ members_below m.kind o m)) c.members.ensures ∙ members_placed g.row.B o
