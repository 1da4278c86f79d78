use Rattle.std.proofs.Common.{rules, ◌≡◌, ◌≤◌}
use Rattle.pt_members.specs.declared.member.Kind.TheVariants.{Leaf}
use Rattle.pt_members.specs.inner.Members.{IsLeafWith}
use Rattle.pt_members.specs.Members.{Exists}
use Rattle.pt_check.proofs.Adding.{on_ok, adds_same}
use Rattle.pt_check.proofs.owned.add_leaf.Goals as goal

pub returns : goal.returns
returns c =
    let exists : Exists c.args.m.now = search rules in
    let leaf : c.args.m.now.kind ≡ Leaf = search rules in
    on_ok c.add.result _ _
    (adds_same (λ s. (c.args.m.now.first ≤ s) × (s ≤ c.args.m.now.last)) (IsLeafWith c.args.m.now) c.args.owned.now c.add.new.self
    (λ s is. (exists, leaf, is)) (λ s is. is.2)) c.add.ensures
