use Rattle.std.proofs.Common.{◌∷◌, [], ◌++◌, ◌∙◌, List, ap, append-nil, append_assoc, refl, subst, sym}
use Rattle.pt_members.specs.declared.member.Member.{Member}
use Rattle.pt_recover.specs.Spans.{Adds}
use Rattle.pt_members.proofs.ByRows.{HasLeafAmong}
use Rattle.pt_check.proofs.Owning.{among_none, among_more, among_all}
use Rattle.pt_check.proofs.owned.add_leaves.Goals as goal

pub loop-member-init : goal.loop-member-init
loop-member-init g c = record {
  can_next = tt;
  is_finite = tt;
  left = rw (c.into_iter-member-iterator.ensures.into_iter_gives, c.members-member-items.ensures) refl;
  adds = among_none c.args.owned.now;
}

pub loop-member-preserved : goal.loop-member-preserved
loop-member-preserved g c =
    let before = c.loop-member.yielded in
    let member = c.in-Some.member in
    record {
      can_next = tt;
      is_finite = tt;
      left = append_assoc before (member ∷ []) c.next.new.self
          ∙ ap (λ (ms : List Member). before ++ ms) (sym c.in-Some.ensures.steps) ∙ c.loop-member.invariant.left;
      adds = among_more before member c.args.owned.now c.loop-member.owned c.add_leaf.new.owned c.loop-member.invariant.adds
          c.in_ok-add_leaf.ensures;
    }

pub returns : goal.returns
returns g c =
    let given = c.loop-member.yielded in
    let all = sym (append-nil given)
    ∙ ap (λ (ms : List Member). given ++ ms) (sym c.in-None.ensures.steps.0) ∙ c.loop-member.invariant.left in
    among_all g.row.B c.args.layout.now c.args.owned.now c.loop-member.owned
    (subst (λ (ms : List Member). Adds c.args.owned.now c.loop-member.owned (HasLeafAmong ms)) all c.loop-member.invariant.adds)
